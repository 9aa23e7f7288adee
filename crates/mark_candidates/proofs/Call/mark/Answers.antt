use Rattle.std.proofs.Common.{nat_abs, ◌≡◌, ◌<◌, ◌≤◌, length, sym, ap, subst, ◌∙◌, rules}
use mathlib.Core.Path.{refl, ap₂}
use Rattle.std.specs.Prelude.{T, map}
use Rattle.integer.proofs.Fits.{fits-of, held-natural, held_of}
use lib.Signed.{non_neg}
use Rattle.common.specs.Array.{sides_of, vector_of, matrix_of, items}
use Rattle.grgrid.specs.Grid.{size}
use Rattle.grgrid.proofs.Accepted.{few-points, point-inside}
use Rattle.mark_candidates.specs.ScaledCoordinates.{rests, position, candidates125}
use Rattle.mark_candidates.specs.MarkCandidates.{mark, ranges_of, marks}
use Rattle.mark_candidates.specs.Code.Marks.{mark_of}
use Rattle.mark_candidates.proofs.TableMarks.{marks-are}
use Rattle.mark_candidates.proofs.AcceptedCall.{Passed, tests-passed}
use Rattle.mark_candidates.proofs.Limits.{Within, limits-within, ranges-fit}
use Rattle.mark_candidates.proofs.Call.mark.Goals as goal
use Rattle.mark_candidates.proofs.Call.mark.Goals.{Start}

-- what the tests found
passes : (c : Start) → let a = c.args.self in Passed a.d a.q a.ps a.r.lowest a.r.highest a.point (length c.args.out.now)
passes c = let a = c.args.self in tests-passed a.d a.q a.ps a.r.lowest a.r.highest a.point (length c.args.out.now) c.requires

within : (c : Start) → let a = c.args.self in Within a.d a.q a.ps a.r.lowest a.r.highest a.point
within c = let a = c.args.self in limits-within a.d a.q a.ps a.r.lowest a.r.highest a.point (passes c).limits

point : (c : Start) → let a = c.args.self in T (non_neg a.point) × (nat_abs a.point < size (sides_of a.d))
point c = let a = c.args.self in point-inside a.point (size (sides_of a.d)) (within c).inside

few : (c : Start) → size (sides_of c.args.self.d) ≤ 65536
few c = few-points c.args.self.d (within c).grid

pub grid_of-requires : goal.grid_of-requires
grid_of-requires c = (within (goal.at.grid_of-requires c).Start).grid

pub shift-requires : goal.shift-requires
shift-requires c = (within (goal.at.shift-requires c).Start).shift

pub invariant_of-point : goal.invariant_of-point
invariant_of-point c =
    let a = c.args.self in
    record { inside = rw (held_of {v = a.point} refl a.in_range) (subst (λ d. nat_abs a.point < size d) (sym c.grid_of.ensures) (point (goal.at.invariant_of-point c).Start).1) }

pub invariant_of-mesh : goal.invariant_of-mesh
invariant_of-mesh c = record { within = (within (goal.at.invariant_of-mesh c).Start).entries }

pub overflow_cast-point : goal.overflow_cast-point
overflow_cast-point c = held-natural (fits-of refl c.args.self.in_range) (point (goal.at.overflow_cast-point c).Start).0

pub invariant_of-mesh-2 : goal.invariant_of-mesh-2
invariant_of-mesh-2 c = record { few = subst (λ d. size d ≤ 65536) (sym c.grid_of.ensures) (few (goal.at.invariant_of-mesh-2 c).Start) }

pub table-table-requires : goal.table-table-requires
table-table-requires c = let s = (goal.at.table-table-requires c).Start in ranges-fit c.args.self.r (within s).lows (within s).highs

pub mark_all-requires : goal.mark_all-requires
mark_all-requires c =
    let s = (goal.at.mark_all-requires c).Start in
    let e : length c.table-table.result ≡ 125 = search rules in
    (passes s).places ∙ sym e

pub returns : goal.returns
unfolding marks
returns c =
    let a = c.args.self in
    let x = goal.at.returns c in
    let e = c.grid_of.ensures in
    let r = c.rests.ensures.s ∙ (λ i. items (rests (e i) (vector_of (c.shift.ensures i)) (matrix_of a.q) (nat_abs (held_of {v = a.point} refl a.in_range i)))) in
    c.mark_all.ensures
    ∙ ap (λ t. map (mark_of t) t) c.table-table.ensures
    ∙ marks-are c.rests.result.s.v c.rests.result.points.n a.r (passes x.Start).ranges
    ∙ ap₂ (λ n s. map (mark (ranges_of a.r.lowest a.r.highest) (position n (vector_of s)) candidates125) candidates125) (c.rests.ensures.points ∙ ap size e) r
