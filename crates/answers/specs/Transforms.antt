-- What the export of transform_rotations answers and leaves in its output.
use Rattle.std.specs.Prelude.{Bool, ◌&&◌, List, ℕ, eqb, ℤ, length, cond}
use Rattle.common.specs.Tested.{answer_of}
use Rattle.common.specs.Array.{rows, matrix_at}
use Rattle.answers.specs.Lengths.{wrong_length, unwritten}
use Rattle.transform_rotations.specs.TransformRotations.{transform_rotations}

-- of d and Q
abbrev pub transform_lengths : ℕ → ℕ → Bool
transform_lengths d q = eqb d 3 && eqb q 9

pub record ZoneTransformRotations : Type 0 where
  pub answer : ℤ
  pub out : List ℤ

-- the output has n places
abbrev pub zone_transform_rotations : (rotations d q : List ℤ) → ℕ → ZoneTransformRotations
zone_transform_rotations rotations d q n =
    let o = transform_rotations rotations d (rows (matrix_at q 0)) n in
    cond (transform_lengths (length d) (length q)) (record { answer = answer_of o.answer; out = o.out }) (record { answer = wrong_length; out = unwritten n })
