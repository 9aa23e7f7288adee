-- What the export of the worst pair answers and leaves in its output.
use Rattle.std.specs.Prelude.{◌≡◌, List, [], ◌∷◌, ℕ, ◌<◌, eqb, ℤ, pos, Result, cond}
use Rattle.common.specs.declared.Refusal.{Refusal}
use Rattle.common.specs.Tested.{answer_of, told_of}
use Rattle.answers.specs.Lengths.{wrong_length, unwritten}
use Rattle.worst_pair.specs.declared.WorstPair.{WorstPair}
use Rattle.worst_pair.specs.WorstPair.{Answers}

-- the first number, the second and their steps, in the places of `told`
abbrev pub pair_told : Result WorstPair Refusal → List ℤ
pair_told = told_of (λ w. pos w.a ∷ pos w.b ∷ pos w.steps ∷ []) 3

-- they fit into its places
abbrev pub PairFits : WorstPair → Type 0
PairFits w = (w.a < 0x8000000000000000) × (w.b < 0x8000000000000000) × (w.steps < 0x8000000000000000)

-- the answer r and `told`, which had n places, for the pair that the call answers
pub record WorstPairTold (limit : ℤ) (n : ℕ) (r : ℤ) (told : List ℤ) : Type 0 where
  pub pair : Result WorstPair Refusal
  pub answers : Answers limit pair
  pub answer : r ≡ cond (eqb n 3) (answer_of pair) wrong_length
  pub value : told ≡ cond (eqb n 3) (pair_told pair) (unwritten n)
