use Rattle.std.proofs.Common.{rules, ◌≡◌, [], ◌∷◌, w64, to_z, of_z}
use Rattle.common.specs.Array.{vector_of}
use Rattle.mark_candidates.specs.Code.Table.{weights}
use Rattle.mark_candidates.proofs.PointSizes.{weights-small}
use Rattle.mark_candidates.proofs.candidates.weights_of.Goals as goal

pub invariant_of-result : goal.invariant_of-result
invariant_of-result c =
    let p = c.args.p in
    let e : to_z w64 (of_z w64 c.square_at.result) ∷ to_z w64 (of_z w64 c.double_at.result) ∷ to_z w64 (of_z w64 c.double_at-2.result) ∷ to_z w64 (of_z w64 c.square_at-2.result) ∷ to_z w64 (of_z w64 c.double_at-3.result) ∷ to_z w64 (of_z w64 c.square_at-3.result) ∷ [] ≡ weights (vector_of p.v) = search rules in
    record { sized = rw e (weights-small p.sized) }
