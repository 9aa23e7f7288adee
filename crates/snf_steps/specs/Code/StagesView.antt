-- What the code's triples and outcomes stand for.
use Rattle.std.specs.Prelude.{[], ℕ, ℤ, pos, get_or, Option, option_map}
use Rattle.common.specs.Array.{matrix_of}
use Rattle.snf_steps.specs.declared.stages.Triple as code
use Rattle.snf_steps.specs.declared.stages.Outcome as left
use Rattle.snf_steps.specs.Stages.{Triple, Outcome}

abbrev pub three_of : code.Triple → Triple
three_of s = record { a = matrix_of s.a; p = matrix_of s.p; q = matrix_of s.q }

abbrev pub triple_of : Option code.Triple → Option Triple
triple_of s = option_map three_of s

abbrev pub outcome_of : Option left.Outcome → Option Outcome
outcome_of o = option_map (λ o. record { done = o.done; left = three_of o.left }) o

abbrev pub on_diagonal : code.Triple → ℕ → ℤ
on_diagonal s i = get_or (get_or s.a i []) i (pos 0)
