-- The tests of a call, one after the other, and what an output then holds.
use Rattle.std.specs.Prelude.{Bool, true, false, List, ℕ, ℤ, pos, negsuc, replicate, ⊤, Result, Ok, Err}
use Rattle.common.specs.declared.Refusal.{Refusal}
use Rattle.common.specs.Refusal.{number_of}

-- what a call's tests come to: nothing, or why there is no result
abbrev pub Tested : Type 0
Tested = Result ⊤ Refusal

abbrev pub Accepted : Tested
Accepted = Ok tt

-- the refusal where a test fails, else the tests after it
abbrev pub require : {A : Type 0} → Bool → Refusal → Result A Refusal → Result A Refusal
require true r rest = rest
require false r rest = Err r

-- a call that goes on from what another gave, or is refused as that was
infixl 1 ◌then◌
abbrev pub ◌then◌ : {A B : Type 0} → Result A Refusal → (A → Result B Refusal) → Result B Refusal
(Ok a) then f = f a
(Err r) then f = Err r

-- the first refusal of two groups of tests
abbrev pub after : Tested → Tested → Tested
after (Ok _) t = t
after (Err r) t = Err r

-- what a call gives where its tests pass
abbrev pub giving : {A : Type 0} → Tested → A → Result A Refusal
giving (Ok _) a = Ok a
giving (Err r) a = Err r

-- a call's answer without its value
abbrev pub without_value : {A : Type 0} → Result A Refusal → Tested
without_value (Ok _) = Accepted
without_value (Err r) = Err r

-- an output of n places: l, or v everywhere
abbrev pub filled_or : {E : Type 0} → E → Tested → ℕ → List E → List E
filled_or v (Ok _) n l = l
filled_or v (Err r) n l = replicate n v

-- l, or -1 everywhere
abbrev pub output_of : Tested → ℕ → List ℤ → List ℤ
output_of = filled_or (negsuc 0)

-- what an export answers: 0, or the number of the refusal
abbrev pub answer_of : {A : Type 0} → Result A Refusal → ℤ
answer_of (Ok _) = pos 0
answer_of (Err r) = pos (number_of r)

-- what it tells in n places beside: the numbers of the value, or -1 everywhere
abbrev pub told_of : {A : Type 0} → (A → List ℤ) → ℕ → Result A Refusal → List ℤ
told_of numbers n (Ok a) = numbers a
told_of numbers n (Err r) = replicate n (negsuc 0)
