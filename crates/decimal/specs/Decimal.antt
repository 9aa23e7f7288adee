-- Numbers as decimal texts, as the codes of their characters.
use Rattle.std.specs.Prelude.{Bool, true, false, List, [], ◌∷◌, ◌++◌, ℕ, zero, suc, ◌+◌, ◌/◌, ◌%◌, ltb, ℤ, pos, negsuc}

-- the decimal digits of n, by at most k divisions; the test says that n has one digit
abbrev pub digits : ℕ → Bool → ℕ → List ℕ
digits zero b n = (48 + n) ∷ []
digits (suc k) true n = (48 + n) ∷ []
digits (suc k) false n = digits k (ltb (n / 10) 10) (n / 10) ++ ((48 + n % 10) ∷ [])

unfoldable pub decimal : ℕ → List ℕ
decimal n = digits n (ltb n 10) n

abbrev pub signed_decimal : ℤ → List ℕ
signed_decimal (pos n) = decimal n
signed_decimal (negsuc n) = 45 ∷ decimal (suc n)
