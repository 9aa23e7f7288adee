-- The grid of diagonal numbers d: points 0 to N - 1, the address of each, the index and the cell of any address, and the rotation of a point.
use Rattle.std.specs.Prelude.{ℤ, pos, nat_abs, ◌+ℤ◌, ◌*ℤ◌, ◌-ℤ◌, ℕ, ◌+◌, ◌*◌, ◌-◌, ◌/◌, ◌%◌}
use Rattle.std.specs.Int.Signed.{quot_z}
use Rattle.integer.specs.Division.{div_euclid, rem_euclid}
use Rattle.common.specs.Matrix.{Vec, Mat, side, vector, map_vec, ◌▹◌}

-- N
abbrev pub size : Vec ℕ → ℕ
size d = d.x * d.y * d.z

-- the remainder that is never negative
abbrev pub fold : ℤ → ℕ → ℕ
fold a n = nat_abs (rem_euclid a (pos n))

abbrev pub folded : Vec ℕ → Vec ℤ → Vec ℕ
folded d a = vector (λ k. fold (side a k) (side d k))

abbrev pub place : Vec ℕ → Vec ℕ → ℕ
place d r = r.z * d.x * d.y + r.y * d.x + r.x

unfoldable pub index : Vec ℕ → Vec ℤ → ℕ
index d a = place d (folded d a)

-- the cell that an address lies in, by whole quotients, which are rounded down
unfoldable pub cell : Vec ℕ → Vec ℤ → Vec ℤ
cell d a = vector (λ k. div_euclid (side a k) (pos (side d k)))

-- the remainders of a point
abbrev pub digits : Vec ℕ → ℕ → Vec ℕ
digits d p = let q = p / (d.x * d.y) in record { x = p % d.x; y = (p - q * (d.x * d.y)) / d.x; z = q }

unfoldable pub address : Vec ℕ → ℕ → Vec ℤ
address d p = map_vec pos (digits d p)

-- ---- the shift ps moves the grid by half a step
abbrev pub double : Vec ℤ → Vec ℤ → Vec ℤ
double a ps = vector (λ k. side a k *ℤ pos 2 +ℤ side ps k)

-- toward zero
abbrev pub half : ℤ → ℤ
half z = quot_z z (pos 2)

abbrev pub halve : Vec ℤ → Vec ℤ → Vec ℤ
halve a ps = vector (λ k. half (side a k -ℤ side ps k))

-- the address that a point is carried to
abbrev pub rotated : Vec ℕ → Vec ℤ → Mat ℤ → ℕ → Vec ℤ
rotated d ps m p = halve (m ▹ double (address d p) ps) ps

unfoldable pub rotate : Vec ℕ → Vec ℤ → Mat ℤ → ℕ → ℕ
unfolding index address
rotate d ps m p = index d (rotated d ps m p)

-- where an operation carries a point: by addresses, without shift
unfoldable pub carry : Vec ℕ → Mat ℤ → ℕ → ℕ
unfolding index address
carry d m p = index d (m ▹ address d p)
