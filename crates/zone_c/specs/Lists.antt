-- What the export of a job's listing answers and leaves in its outputs. It lends the list arrays for 256 points and 1,024 images.
use Rattle.std.specs.Prelude.{List, ℕ, eqb, ℤ, replicate, cond}
use Rattle.common.specs.Tested.{answer_of}
use Rattle.answers.specs.Lengths.{wrong_length, unwritten}
use Rattle.answers.specs.PointGroups.{count_told}
use Rattle.zone_list.specs.List.{list_rooms, list}

pub record ZoneList : Type 0 where
  pub answer : ℤ
  pub text : List ℕ
  pub told : List ℤ

-- the outputs have n and k places
abbrev pub zone_list : (job : List ℕ) → (n k : ℕ) → ZoneList
zone_list job n k =
    let o = list job list_rooms n in
    cond (eqb k 1)
    (record { answer = answer_of o.answer; text = o.text; told = count_told o.answer })
    (record { answer = wrong_length; text = replicate n 0; told = unwritten k })
