-- The reduced coordinates of a grid point, exactly: 2N times each is whole, N the number of points.
use Rattle.std.specs.Prelude.{List, ℕ, ◌*◌, ◌≤◌, ◌≡◌, ℤ, pos, nat_abs, ◌+ℤ◌, ◌*ℤ◌, ◌-ℤ◌, cond}
use Rattle.std.specs.Int.Signed.{lt_z, quot_z}
use Rattle.common.specs.Matrix.{Vec, Mat, side, vector, ◌▹◌}
use Rattle.grgrid.specs.Grid.{size, address, double}
use Rattle.bzsearch.specs.Search.{nearby, candidates}

-- N over each side
abbrev pub shares : Vec ℕ → Vec ℕ
shares d = record { x = d.y * d.z; y = d.x * d.z; z = d.x * d.y }

-- a vector times a number for each axis
abbrev pub scaled_by : Vec ℕ → Vec ℤ → Vec ℤ
scaled_by s v = vector (λ k. side v k *ℤ pos (side s k))

-- 2N times the grid coordinates (2a + ps) / 2d of an address
abbrev pub scaled_grid : Vec ℕ → Vec ℤ → Vec ℤ → Vec ℤ
scaled_grid d ps a = scaled_by (shares d) (double a ps)

-- 2N times the reduced coordinates
unfoldable pub scaled : Vec ℕ → Vec ℤ → Mat ℤ → ℕ → Vec ℤ
unfolding address
scaled d ps q p = q ▹ scaled_grid d ps (address d p)

-- n further from zero
abbrev pub outwards : ℕ → ℤ → ℤ
outwards n z = cond (lt_z z (pos 0)) (z -ℤ pos n) (z +ℤ pos n)

-- the whole number nearest to z / 2n, of two equally near the one away from zero
abbrev pub rounded : ℕ → ℤ → ℤ
rounded n z = quot_z (outwards n z) (pos (2 * n))

pub record Rounded (n : ℕ) (z r : ℤ) : Type 0 where
  pub near : nat_abs (z -ℤ pos (2 * n) *ℤ r) ≤ n
  pub away : nat_abs (z -ℤ pos (2 * n) *ℤ r) ≡ n → nat_abs z ≤ nat_abs (pos (2 * n) *ℤ r)

-- what is left of z
unfoldable pub rest : ℕ → ℤ → ℤ
rest n z = z -ℤ pos (2 * n) *ℤ rounded n z

unfoldable pub rests : Vec ℕ → Vec ℤ → Mat ℤ → ℕ → Vec ℤ
unfolding scaled rest
rests d ps q p = vector (λ k. rest (size d) (side (scaled d ps q p) k))

-- ---- the candidates of an image search whose range is -2..2 on each axis
unfoldable pub candidates125 : List (Vec ℤ)
unfolding candidates
candidates125 = candidates (vector (λ k. nearby))

-- 2N times the coordinates of candidate m
abbrev pub position : ℕ → Vec ℤ → Vec ℤ → Vec ℤ
position n s m = vector (λ k. side s k +ℤ pos (2 * n) *ℤ side m k)
