-- How an image table is read. It may hold anything: a read is inside the slice and the limits, or `outside`, which is refusal 14.
use Rattle.std.specs.Prelude.{Bool, true, false, ◌&&◌, List, [], ◌∷◌, ℕ, zero, suc, ◌*◌, ◌/◌, ◌%◌, ltb, leb, eqb, ℤ, pos}
use Rattle.std.specs.Prelude.{negsuc, length, get_or, Option, Some, None, Result, Ok, Err, cond}
use Rattle.common.specs.Tested.{Tested, Accepted, ◌then◌}
use Rattle.common.specs.declared.Refusal.{Refusal}
use Rattle.common.specs.Matrix.{Vec, side, all_axes, same_vector}
use Rattle.common.specs.declared.bounded.Bounded.{Bounded}
use Rattle.common.specs.Array.{vector_of, row_at}
use Rattle.common.specs.Limits.{within}
use Rattle.common.specs.declared.Refusal.TheVariants.{OutsideTable}

abbrev pub Read : Type 0 → Type 0
Read A = Result A Refusal

abbrev pub got : {A : Type 0} → A → Read A
got a = Ok a

abbrev pub outside : {A : Type 0} → Read A
outside = Err OutsideTable

abbrev pub inside : {A : Type 0} → Bool → A → Read A
inside true a = got a
inside false a = outside

-- the tests of a call that then reads
abbrev pub tests_after : {A : Type 0} → Tested → Read A → Tested
tests_after t r = t then λ _. r then λ _. Accepted

-- what was read
abbrev pub list_of : {A : Type 0} → Read (List A) → List A
list_of (Ok l) = l
list_of (Err r) = []

-- each of a list, or the first refusal
abbrev pub read_each : {A B : Type 0} → (A → Read B) → List A → Read (List B)
read_each f [] = got []
read_each f (a ∷ l) = f a then λ b. read_each f l then λ r. got (b ∷ r)

-- ---- addresses, three numbers each
abbrev pub whole_addresses : List ℤ → Bool
whole_addresses l = eqb (length l % 3) 0

abbrev pub triple_at : List ℤ → ℕ → Vec ℤ
triple_at l i = vector_of (row_at l (3 * i))

-- each number within 10^13
abbrev pub near : Vec ℤ → Bool
near a = all_axes (λ k. within 10000000000000 (side a k))

-- as the code holds one
abbrev pub vector_read : Read (Bounded 10000000000000) → Read (Vec ℤ)
vector_read r = r then λ a. got (vector_of a.v)

abbrev pub address_at : List ℤ → ℕ → Read (Vec ℤ)
address_at l i = inside (ltb i (length l / 3) && near (triple_at l i)) (triple_at l i)

-- of an index that was asked for
abbrev pub address_of : List ℤ → ℤ → Read (Vec ℤ)
address_of l (pos i) = address_at l i
address_of l (negsuc i) = outside

-- ---- the numbers of a map: 0 to 2^40
abbrev pub place_of : ℤ → Read ℕ
place_of (pos n) = inside (leb n 1099511627776) n
place_of (negsuc n) = outside

abbrev pub place_at : List ℤ → ℕ → Read ℕ
place_at map i = inside (ltb i (length map)) (get_or map i (pos 0)) then place_of

-- ---- the first of the n places from i on that holds address a
abbrev pub find : List ℤ → Vec ℤ → ℕ → ℕ → Read (Option ℕ)
find l a i zero = got None
find l a i (suc n) = address_at l i then λ b. cond (same_vector b a) (got (Some i)) (find l a (suc i) n)
