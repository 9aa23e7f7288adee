-- What the export of mark_candidates answers and leaves in its output.
use Rattle.std.specs.Prelude.{Bool, ◌&&◌, List, [], ◌∷◌, ℕ, eqb, ℤ, pos, length, get_or, cond}
use Rattle.common.specs.Array.{rows, matrix_at}
use Rattle.common.specs.Tested.{answer_of}
use Rattle.answers.specs.Lengths.{wrong_length, unwritten}
use Rattle.mark_candidates.specs.MarkCandidates.{mark_candidates}

-- six numbers of a lent list
abbrev pub six_of : List ℤ → List ℤ
six_of l = get_or l 0 (pos 0) ∷ get_or l 1 (pos 0) ∷ get_or l 2 (pos 0) ∷ get_or l 3 (pos 0) ∷ get_or l 4 (pos 0) ∷ get_or l 5 (pos 0) ∷ []

-- of d, Q, ps and the six lowest and highest
abbrev pub mark_lengths : ℕ → ℕ → ℕ → ℕ → ℕ → Bool
mark_lengths d q ps lowest highest = (eqb d 3 && (eqb q 9 && eqb ps 3)) && (eqb lowest 6 && eqb highest 6)

pub record ZoneMarkCandidates : Type 0 where
  pub answer : ℤ
  pub marks : List ℤ

-- the output has n places
abbrev pub zone_mark_candidates : (d q ps lowest highest : List ℤ) → ℤ → ℕ → ZoneMarkCandidates
zone_mark_candidates d q ps lowest highest point n =
    let o = mark_candidates d (rows (matrix_at q 0)) ps lowest highest point n in
    cond (mark_lengths (length d) (length q) (length ps) (length lowest) (length highest))
    (record { answer = answer_of o.answer; marks = o.marks }) (record { answer = wrong_length; marks = unwritten n })
