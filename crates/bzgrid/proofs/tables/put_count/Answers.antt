use Rattle.std.proofs.Common.{pos, [], ◌∷◌, sym, rules}
use native.Mathlib.Nat.{one-mul}
use mir.Syntax.{w64}
use mir.Facts.{to_z_pos}
use Rattle.bzgrid.proofs.Runs.{put_in, put-out}
use Rattle.bzgrid.proofs.tables.put_count.Goals as goal

pub returns-then-at-out : goal.returns-then-at-out
returns-then-at-out c =
    let a = c.args in
    rw (put_in 1 a.at a.out.now (pos a.n ∷ []) (search rules), to_z_pos w64 {n = a.n} (search rules), one-mul a.at)

pub returns-else-at-out : goal.returns-else-at-out
returns-else-at-out c = let a = c.args in sym (put-out 1 a.at a.out.now (pos a.n ∷ []) (search rules))
