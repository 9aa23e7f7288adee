-- The operations that keep q0, and the partner of a point: with q0 and q1 it makes a sum that folds to 0.
use Rattle.std.specs.Prelude.{List, ℕ, eqb, ℤ, neg_ℤ, ◌-ℤ◌}
use Rattle.common.specs.Matrix.{Vec, Mat, side, vector}
use Rattle.grgrid.specs.Grid.{index, address, carry}
use Rattle.grgrid.specs.Picked.{passing}

abbrev pub keeping : Vec ℕ → ℕ → List (Mat ℤ) → List (Mat ℤ)
keeping d q0 l = passing (λ m. eqb (carry d m q0) q0) l

unfoldable pub stabilizer : Vec ℕ → ℕ → List (Mat ℤ) → List (Mat ℤ)
unfolding carry
stabilizer d q0 l = keeping d q0 l

-- -q0 - q1
abbrev pub third : Vec ℤ → Vec ℤ → Vec ℤ
third a b = vector (λ k. neg_ℤ (side a k) -ℤ side b k)

unfoldable pub partner : Vec ℕ → ℕ → ℕ → ℕ
unfolding index address
partner d q0 q1 = index d (third (address d q0) (address d q1))
