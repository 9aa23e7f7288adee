-- Whether two whole numbers are the same.
use Rattle.std.specs.Prelude.{Bool, false, eqb, ℤ, pos, negsuc}

abbrev pub same : ℤ → ℤ → Bool
same (pos m) (pos n) = eqb m n
same (pos m) (negsuc n) = false
same (negsuc m) (pos n) = false
same (negsuc m) (negsuc n) = eqb m n
