-- Worked examples, which hold the definitions of specs/ fast.
use mathlib.Core.Path.{◌≡◌, refl}
use lib.IntN.{ℤ, pos, negsuc}
use Rattle.common.specs.Matrix.{Mat, ◌·◌, det, adjugate, identity}

-- rows 1 2 3, 0 1 4 and 5 6 0
abbrev m : Mat ℤ
m = record { a = pos 1; b = pos 2; c = pos 3; d = pos 0; e = pos 1; f = pos 4; g = pos 5; h = pos 6; i = pos 0 }

determinant : det m ≡ pos 1
determinant = refl

square : m · m ≡ record { a = pos 16; b = pos 22; c = pos 11; d = pos 20; e = pos 25; f = pos 4; g = pos 5; h = pos 16; i = pos 39 }
square = refl

inverse : adjugate m ≡ record { a = negsuc 23; b = pos 18; c = pos 5; d = pos 20; e = negsuc 14; f = negsuc 3; g = negsuc 4; h = pos 4; i = pos 1 }
inverse = refl

inverse-is : m · adjugate m ≡ identity
inverse-is = refl
