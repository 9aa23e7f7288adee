-- Vectors and 3 by 3 matrices over anything that has sums, differences and products: at ℤ they are what contracts speak of, at the ring solver's expressions
-- what it computes with. Determinants and products add up in the Rust's order.
use Rattle.std.specs.Prelude.{◌≡◌, Bool, ◌&&◌, List, ◌∷◌, ℤ, pos, nat_abs, neg_ℤ, ◌+ℤ◌, ◌*ℤ◌, ◌-ℤ◌}
use Rattle.integer.specs.Same.{same}

pub data Axis : Type 0 where
  X Y Z : Axis

-- the axis after, in a circle
abbrev pub next : Axis → Axis
next X = Y
next Y = Z
next Z = X

abbrev pub all_axes : (Axis → Bool) → Bool
all_axes f = f X && (f Y && f Z)

pub record Vec (R : Type 0) : Type 0 where
  pub x : R
  pub y : R
  pub z : R

-- rows a b c, d e f and g h i
pub record Mat (R : Type 0) : Type 0 where
  pub a : R
  pub b : R
  pub c : R
  pub d : R
  pub e : R
  pub f : R
  pub g : R
  pub h : R
  pub i : R

module _ {R : Type 0} where
  abbrev pub side : Vec R → Axis → R
  side v X = v.x
  side v Y = v.y
  side v Z = v.z

  abbrev pub vector : (Axis → R) → Vec R
  vector f = record { x = f X; y = f Y; z = f Z }

  -- row j, column k
  abbrev pub entry : Mat R → Axis → Axis → R
  entry m X X = m.a
  entry m X Y = m.b
  entry m X Z = m.c
  entry m Y X = m.d
  entry m Y Y = m.e
  entry m Y Z = m.f
  entry m Z X = m.g
  entry m Z Y = m.h
  entry m Z Z = m.i

  abbrev pub matrix : (Axis → Axis → R) → Mat R
  matrix f = record { a = f X X; b = f X Y; c = f X Z; d = f Y X; e = f Y Y; f = f Y Z; g = f Z X; h = f Z Y; i = f Z Z }

  -- by rows, before l
  abbrev pub entries : Mat R → List R → List R
  entries m l = m.a ∷ m.b ∷ m.c ∷ m.d ∷ m.e ∷ m.f ∷ m.g ∷ m.h ∷ m.i ∷ l

  abbrev pub transpose : Mat R → Mat R
  transpose m = matrix (λ j k. entry m k j)

abbrev pub map_vec : {R S : Type 0} → (R → S) → Vec R → Vec S
map_vec f v = vector (λ k. f (side v k))

abbrev pub map_mat : {R S : Type 0} → (R → S) → Mat R → Mat S
map_mat f m = matrix (λ j k. f (entry m j k))

pub record Ops (R : Type 0) : Type 0 where
  pub plus : R → R → R
  pub minus : R → R → R
  pub times : R → R → R
  pub zero : R

module _ {R : Type 0} (o : Ops R) where
  -- the determinant of rows j k and m n
  abbrev pub cross : R → R → R → R → R
  cross j k m n = o.minus (o.times j n) (o.times k m)

  -- of a row and a column
  abbrev pub dot : (Axis → R) → (Axis → R) → R
  dot u v = o.plus (o.plus (o.times (u X) (v X)) (o.times (u Y) (v Y))) (o.times (u Z) (v Z))

  abbrev pub product_over : Mat R → Mat R → Mat R
  product_over m n = matrix (λ j k. dot (entry m j) (λ l. entry n l k))

  abbrev pub apply_over : Mat R → Vec R → Vec R
  apply_over m v = vector (λ j. dot (entry m j) (side v))

  -- a row with its three minors, as a determinant adds them up
  abbrev pub expand : (u v : Axis → R) → R
  expand u v = o.plus (o.minus (o.times (u X) (v X)) (o.times (u Y) (v Y))) (o.times (u Z) (v Z))

  -- the determinants of two rows without column k
  abbrev pub minors : (y z : Axis → R) → Axis → R
  minors y z X = cross (y Y) (y Z) (z Y) (z Z)
  minors y z Y = cross (y X) (y Z) (z X) (z Z)
  minors y z Z = cross (y X) (y Y) (z X) (z Y)

  abbrev pub det_over : Mat R → R
  det_over m = expand (entry m X) (minors (entry m Y) (entry m Z))

  -- the transpose of the cofactors, whose signs the circle of axes gives
  abbrev pub adjugate_over : Mat R → Mat R
  adjugate_over m =
      matrix (λ j k. cross (entry m (next k) (next j)) (entry m (next k) (next (next j)))
      (entry m (next (next k)) (next j)) (entry m (next (next k)) (next (next j))))

  -- v on the diagonal
  abbrev pub diagonal_over : Vec R → Mat R
  diagonal_over v = record { a = v.x; b = o.zero; c = o.zero; d = o.zero; e = v.y; f = o.zero; g = o.zero; h = o.zero; i = v.z }

-- ---- at ℤ
abbrev pub integers : Ops ℤ
integers = record { plus = ◌+ℤ◌; minus = ◌-ℤ◌; times = ◌*ℤ◌; zero = pos 0 }

infixl 7 ◌·◌
abbrev pub ◌·◌ : Mat ℤ → Mat ℤ → Mat ℤ
m · n = product_over integers m n

abbrev pub det : Mat ℤ → ℤ
det m = det_over integers m

abbrev pub adjugate : Mat ℤ → Mat ℤ
adjugate m = adjugate_over integers m

abbrev pub diagonal : Vec ℤ → Mat ℤ
diagonal v = diagonal_over integers v

abbrev pub scalar : ℤ → Mat ℤ
scalar x = diagonal (vector (λ k. x))

abbrev pub origin : Vec ℤ
origin = vector (λ k. pos 0)

abbrev pub same_vector : Vec ℤ → Vec ℤ → Bool
same_vector v w = all_axes (λ k. same (side v k) (side w k))

abbrev pub identity : Mat ℤ
identity = scalar (pos 1)

abbrev pub negate : Mat ℤ → Mat ℤ
negate m = map_mat neg_ℤ m

abbrev pub inversion : Mat ℤ
inversion = negate identity

-- a matrix times a column
infixr 8 ◌▹◌
abbrev pub ◌▹◌ : Mat ℤ → Vec ℤ → Vec ℤ
m ▹ v = apply_over integers m v

-- a determinant of 1 or -1
pub record Unimodular (m : Mat ℤ) : Type 0 where
  pub unit : nat_abs (det m) ≡ 1

-- of such a matrix
abbrev pub inverse : Mat ℤ → Mat ℤ
inverse m = scalar (det m) · adjugate m
