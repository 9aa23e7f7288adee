-- Worked examples, which hold the definitions of specs/ fast.
use mathlib.Core.Path.{◌≡◌, refl}
use mathlib.Core.Bool.{true, false}
use lib.IntN.{pos, negsuc, neg_ℤ, ◌+ℤ◌, ◌*ℤ◌}
use lib.Signed.{quot_z, rem_z}
use Rattle.integer.specs.Division.{div_euclid, rem_euclid}
use Rattle.integer.specs.Checked.{fits64, checked, divided}
use Rattle.std.specs.Prelude.{Ok, Err}
use Rattle.integer.specs.declared.ArithmeticError.TheVariants.{Overflow, ZeroDivisor}
use Rattle.integer.proofs.Fits.{least, largest}

-- 7 and -7 by 2 and by -2
quotients : (div_euclid (pos 7) (pos 2) ≡ pos 3) × (div_euclid (pos 7) (negsuc 1) ≡ negsuc 2) × (div_euclid (negsuc 6) (pos 2) ≡ negsuc 3) × (div_euclid (negsuc 6) (negsuc 1) ≡ pos 4)
quotients = (refl, refl, refl, refl)

remainders : (rem_euclid (pos 7) (pos 2) ≡ pos 1) × (rem_euclid (pos 7) (negsuc 1) ≡ pos 1) × (rem_euclid (negsuc 6) (pos 2) ≡ pos 1) × (rem_euclid (negsuc 6) (negsuc 1) ≡ pos 1)
remainders = (refl, refl, refl, refl)

exact : (div_euclid (negsuc 5) (pos 3) ≡ negsuc 1) × (rem_euclid (negsuc 5) (pos 3) ≡ pos 0)
exact = (refl, refl)

-- the ends of the range and their neighbours
range : (fits64 least ≡ true) × (fits64 (least +ℤ negsuc 0) ≡ false) × (fits64 largest ≡ true) × (fits64 (largest +ℤ pos 1) ≡ false)
range = (refl, refl, refl, refl)

sums : (checked (largest +ℤ pos 0) ≡ Ok largest) × (checked (largest +ℤ pos 1) ≡ Err Overflow) × (checked (least +ℤ largest) ≡ Ok (negsuc 0))
sums = (refl, refl, refl)

products : (checked (least *ℤ negsuc 0) ≡ Err Overflow) × (checked (negsuc 4294967295 *ℤ pos 2147483648) ≡ Ok least) × (checked (neg_ℤ least) ≡ Err Overflow)
products = (refl, refl, refl)

-- the least number over -1: neither its quotient nor its remainder is given
divisions : (divided (negsuc 0) (quot_z least (negsuc 0)) (rem_z least (negsuc 0)) ≡ Err Overflow) × (divided (pos 0) (quot_z (pos 5) (pos 0)) (rem_z (pos 5) (pos 0)) ≡ Err ZeroDivisor) × (divided (pos 2) (quot_z (negsuc 6) (pos 2)) (rem_z (negsuc 6) (pos 2)) ≡ Ok (negsuc 0))
divisions = (refl, refl, refl)
