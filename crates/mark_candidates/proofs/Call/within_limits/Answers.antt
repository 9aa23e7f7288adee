use mathlib.Core.Path.{refl, ap₂}
use Rattle.std.proofs.Common.{◌≡◌, ◌≤◌, pos, w64, sym, ap, ◌∙◌, arith}
use Rattle.std.specs.Prelude.{T, true, ◌&&◌}
use mir.Facts.{to_z_pos}
use Rattle.integer.proofs.Fits.{held_of}
use Rattle.integer.proofs.Test.{holds, and_l}
use Rattle.common.specs.Array.{sides_of, matrix_of}
use Rattle.common.specs.Limits.{matrix_within, diagonal_fits, shift_fits, point_fits}
use Rattle.grgrid.specs.Grid.{size}
use Rattle.grgrid.proofs.Accepted.{few-points}
use Rattle.mark_candidates.specs.MarkCandidates.{grid_fits}
use Rattle.mark_candidates.proofs.Call.within_limits.Goals as goal
use Rattle.mark_candidates.proofs.Call.within_limits.Goals.{Else-not-grid_fits, After-points-n}

fits : (c : Else-not-grid_fits) → let a = c.args.self in grid_fits a.d a.q a.ps ≡ true
fits c = sym c.grid_fits.ensures ∙ c.if-not-grid_fits.false

diagonal : (c : Else-not-grid_fits) → T (diagonal_fits c.args.self.d)
diagonal c = let a = c.args.self in and_l (diagonal_fits a.d) (matrix_within 1000 (matrix_of a.q) && shift_fits a.ps) (holds (fits c))

-- how many points there are
counted : (c : After-points-n) → c.points-n.result ≡ size (sides_of c.args.self.d)
counted c = c.points-n.ensures ∙ ap size c.grid_of.ensures

few : (c : After-points-n) (t : T (diagonal_fits c.args.self.d)) → c.points-n.result ≤ 65536
few c t = rw (counted c) (few-points c.args.self.d t)

pub overflow_cast-n : goal.overflow_cast-n
overflow_cast-n c =
    let x = goal.at.overflow_cast-n c in
    record { sfits = omega (arith, few x.After-points-n (diagonal x.Else-not-grid_fits)) }

pub returns-then-all_within-2 : goal.returns-then-all_within-2
returns-then-all_within-2 c =
    let a = c.args.self in
    let x = goal.at.returns-then-all_within-2 c in
    let n = few x.After-points-n (diagonal x.Else-not-grid_fits) in
    rw (fits x.Else-not-grid_fits, sym c.all_within.ensures ∙ c.if-all_within.true, sym c.all_within-then-all_within.ensures ∙ c.if-all_within-2.true)
    (c.point_fits.ensures ∙ ap₂ point_fits (held_of {v = a.point} refl a.in_range) (to_z_pos w64 (omega (arith, n)) ∙ ap pos (counted x.After-points-n)))
