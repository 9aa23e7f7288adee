-- What the exports of the reciprocal point group answer and leave in their outputs: the list, and its count.
use Rattle.std.specs.Prelude.{Bool, true, List, [], ◌∷◌, ℕ, eqb, ℤ, pos, Result, cond}
use Rattle.common.specs.declared.Refusal.{Refusal}
use Rattle.common.specs.Tested.{answer_of, told_of}
use Rattle.answers.specs.Lengths.{wrong_length, unwritten}
use Rattle.recip_rotations.specs.PointGroup.{PointGroup, get_reciprocal_point_group}
use Rattle.rotation_group.specs.ReciprocalGroup.{reciprocal_group}

-- in the one place of `told`
abbrev pub count_told : Result ℕ Refusal → List ℤ
count_told = told_of (λ n. pos n ∷ []) 1

pub record ZonePointGroup : Type 0 where
  pub answer : ℤ
  pub out : List ℤ
  pub told : List ℤ

-- of what the library's call gives; the outputs have n and k places
abbrev pub group_told : PointGroup → (n k : ℕ) → ZonePointGroup
group_told g n k =
    cond (eqb k 1)
    (record { answer = answer_of g.answer; out = g.out; told = count_told g.answer })
    (record { answer = wrong_length; out = unwritten n; told = unwritten k })

abbrev pub zone_reciprocal_point_group : List ℤ → (time_reversal transpose : Bool) → (n k : ℕ) → ZonePointGroup
zone_reciprocal_point_group rotations time_reversal transpose n k = group_told (get_reciprocal_point_group rotations time_reversal transpose n) n k

abbrev pub zone_reciprocal_rotations : List ℤ → (time_reversal : Bool) → (n k : ℕ) → ZonePointGroup
zone_reciprocal_rotations rotations time_reversal n k = zone_reciprocal_point_group rotations time_reversal true n k

abbrev pub zone_reciprocal_group : List ℤ → (time_reversal : Bool) → (n k : ℕ) → ZonePointGroup
zone_reciprocal_group rotations time_reversal n k = group_told (reciprocal_group rotations time_reversal n) n k
