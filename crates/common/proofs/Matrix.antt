-- Laws of 3 by 3 matrices for all entries, each by one computation of the ring solver.
use mathlib.Core.Path.{◌≡◌, refl, sym, ◌∙◌, ap}
use mathlib.Core.Bool.{Bool, ◌&&◌}
use mathlib.Core.List.{List, [], ◌∷◌}
use lib.IntN.{ℤ, pos, neg_ℤ, ◌*ℤ◌}
use lib.Dec.{T}
use Prim.Native.Nat.{ℕ, ◌+◌}
use Rattle.integer.proofs.Test.{and_l, and_r, and_in}
use Rattle.integer.proofs.Polynomial.{Expr, var, con, add, sub, mul, neg, eval, agree, solve}
use Rattle.common.specs.Matrix.{Axis, X, Y, Z, all_axes, Vec, Mat, side, vector, entry, matrix, entries, transpose, map_mat, Ops, product_over, apply_over, det_over, adjugate_over, diagonal_over, ◌·◌, det, adjugate, diagonal, scalar, identity, negate, ◌▹◌}

-- ---- what holds at every place
pub axes-of : (f : Axis → Bool) → T (all_axes f) → (k : Axis) → T (f k)
axes-of f t X = and_l (f X) (f Y && f Z) t
axes-of f t Y = and_l (f Y) (f Z) (and_r (f X) (f Y && f Z) t)
axes-of f t Z = and_r (f Y) (f Z) (and_r (f X) (f Y && f Z) t)

pub all-axes : (f : Axis → Bool) → ((k : Axis) → T (f k)) → T (all_axes f)
all-axes f h = and_in (f X) (f Y && f Z) (h X) (and_in (f Y) (f Z) (h Y) (h Z))

module _ {R : Type 0} where
  pub same-vector : {f g : Axis → R} → ((k : Axis) → f k ≡ g k) → vector f ≡ vector g
  same-vector h i = vector (λ k. h k i)

  pub same-matrix : {f g : Axis → Axis → R} → ((j k : Axis) → f j k ≡ g j k) → matrix f ≡ matrix g
  same-matrix h i = matrix (λ j k. h j k i)

  pub side-vector : (f : Axis → R) (k : Axis) → side (vector f) k ≡ f k
  side-vector f X = refl
  side-vector f Y = refl
  side-vector f Z = refl

  pub entry-matrix : (f : Axis → Axis → R) (j k : Axis) → entry (matrix f) j k ≡ f j k
  entry-matrix f X X = refl
  entry-matrix f X Y = refl
  entry-matrix f X Z = refl
  entry-matrix f Y X = refl
  entry-matrix f Y Y = refl
  entry-matrix f Y Z = refl
  entry-matrix f Z X = refl
  entry-matrix f Z Y = refl
  entry-matrix f Z Z = refl

  pub at_entry : (f g : Axis → Axis → R) → matrix f ≡ matrix g → (j k : Axis) → f j k ≡ g j k
  at_entry f g e j k = sym (entry-matrix f j k) ∙ ap (λ m. entry m j k) e ∙ entry-matrix g j k

-- ---- the solver, for matrices of expressions
abbrev pub expressions : Ops Expr
expressions = record { plus = add; minus = sub; times = mul; zero = con (pos 0) }

-- the matrix of the nine numbers from place k
abbrev pub atoms : ℕ → Mat Expr
atoms k = record { a = var k; b = var (k + 1); c = var (k + 2); d = var (k + 3); e = var (k + 4); f = var (k + 5); g = var (k + 6); h = var (k + 7); i = var (k + 8) }

abbrev pub eval_mat : Mat Expr → List ℤ → Mat ℤ
eval_mat m ρ = matrix (λ j k. eval (entry m j k) ρ)

abbrev pub agree_mat : Mat Expr → Mat Expr → Bool
agree_mat m n = all_axes (λ j. all_axes (λ k. agree (entry m j k) (entry n j k)))

pub solve_mat : (ρ : List ℤ) (m n : Mat Expr) → T (agree_mat m n) → eval_mat m ρ ≡ eval_mat n ρ
solve_mat ρ m n t =
    same-matrix (λ j k. solve ρ (entry m j k) (entry n j k) (axes-of (λ k. agree (entry m j k) (entry n j k)) (axes-of (λ j. all_axes (λ k. agree (entry m j k) (entry n j k))) t j) k))

-- a column of the three numbers from place k
abbrev pub column : ℕ → Vec Expr
column k = record { x = var k; y = var (k + 1); z = var (k + 2) }

abbrev pub sides : Vec ℤ → List ℤ → List ℤ
sides v ρ = v.x ∷ v.y ∷ v.z ∷ ρ

abbrev pub eval_vec : Vec Expr → List ℤ → Vec ℤ
eval_vec v ρ = vector (λ k. eval (side v k) ρ)

abbrev pub agree_vec : Vec Expr → Vec Expr → Bool
agree_vec u v = all_axes (λ k. agree (side u k) (side v k))

pub solve_vec : (ρ : List ℤ) (u v : Vec Expr) → T (agree_vec u v) → eval_vec u ρ ≡ eval_vec v ρ
solve_vec ρ u v t = same-vector (λ k. solve ρ (side u k) (side v k) (axes-of (λ k. agree (side u k) (side v k)) t k))

-- expressions of up to three matrices, at places 0, 9 and 18
abbrev pub 𝔸 : Mat Expr
𝔸 = atoms 0

abbrev pub 𝔹 : Mat Expr
𝔹 = atoms 9

abbrev pub ℂ : Mat Expr
ℂ = atoms 18

infixl 7 ◌⊡◌
abbrev pub ◌⊡◌ : Mat Expr → Mat Expr → Mat Expr
m ⊡ n = product_over expressions m n

abbrev pub det_e : Mat Expr → Expr
det_e m = det_over expressions m

abbrev pub adjugate_e : Mat Expr → Mat Expr
adjugate_e m = adjugate_over expressions m

abbrev pub diagonal_e : Vec Expr → Mat Expr
diagonal_e v = diagonal_over expressions v

abbrev pub scalar_e : Expr → Mat Expr
scalar_e x = diagonal_e (vector (λ k. x))

abbrev pub apply_e : Mat Expr → Vec Expr → Vec Expr
apply_e m v = apply_over expressions m v

abbrev pub negate_e : Mat Expr → Mat Expr
negate_e m = map_mat neg m

-- ---- the laws
pub product-assoc : (A B C : Mat ℤ) → A · B · C ≡ A · (B · C)
product-assoc A B C = solve_mat (entries A (entries B (entries C []))) (𝔸 ⊡ 𝔹 ⊡ ℂ) (𝔸 ⊡ (𝔹 ⊡ ℂ)) tt

pub identity-product : (A : Mat ℤ) → identity · A ≡ A
identity-product A = solve_mat (entries A []) (scalar_e (con (pos 1)) ⊡ 𝔸) 𝔸 tt

pub product-identity : (A : Mat ℤ) → A · identity ≡ A
product-identity A = solve_mat (entries A []) (𝔸 ⊡ scalar_e (con (pos 1))) 𝔸 tt

pub det-product : (A B : Mat ℤ) → det (A · B) ≡ det A *ℤ det B
det-product A B = solve (entries A (entries B [])) (det_e (𝔸 ⊡ 𝔹)) (mul (det_e 𝔸) (det_e 𝔹)) tt

pub adjugate-product : (A : Mat ℤ) → adjugate A · A ≡ scalar (det A)
adjugate-product A = solve_mat (entries A []) (adjugate_e 𝔸 ⊡ 𝔸) (scalar_e (det_e 𝔸)) tt

pub product-adjugate : (A : Mat ℤ) → A · adjugate A ≡ scalar (det A)
product-adjugate A = solve_mat (entries A []) (𝔸 ⊡ adjugate_e 𝔸) (scalar_e (det_e 𝔸)) tt

pub diagonal-product : (f : Axis → ℤ) (A : Mat ℤ) → diagonal (vector f) · A ≡ matrix (λ j k. f j *ℤ entry A j k)
diagonal-product f A = solve_mat (entries A (sides (vector f) [])) (diagonal_e (column 9) ⊡ 𝔸) (matrix (λ j k. mul (side (column 9) j) (entry 𝔸 j k))) tt

pub product-diagonal : (A : Mat ℤ) (f : Axis → ℤ) → A · diagonal (vector f) ≡ matrix (λ j k. entry A j k *ℤ f k)
product-diagonal A f = solve_mat (entries A (sides (vector f) [])) (𝔸 ⊡ diagonal_e (column 9)) (matrix (λ j k. mul (entry 𝔸 j k) (side (column 9) k))) tt

pub det-diagonal : (f : Axis → ℤ) → det (diagonal (vector f)) ≡ f X *ℤ f Y *ℤ f Z
det-diagonal f = solve (sides (vector f) []) (det_e (diagonal_e (column 0))) (mul (mul (var 0) (var 1)) (var 2)) tt

pub scalar-product : (x y : ℤ) → scalar x · scalar y ≡ scalar (x *ℤ y)
scalar-product x y = solve_mat (x ∷ y ∷ []) (scalar_e (var 0) ⊡ scalar_e (var 1)) (scalar_e (mul (var 0) (var 1))) tt

pub scalar-commutes : (x : ℤ) (A : Mat ℤ) → A · scalar x ≡ scalar x · A
scalar-commutes x A = solve_mat (entries A (x ∷ [])) (𝔸 ⊡ scalar_e (var 9)) (scalar_e (var 9) ⊡ 𝔸) tt

pub transpose-product : (A B : Mat ℤ) → transpose (A · B) ≡ transpose B · transpose A
transpose-product A B = solve_mat (entries A (entries B [])) (transpose (𝔸 ⊡ 𝔹)) (transpose 𝔹 ⊡ transpose 𝔸) tt

pub det-transpose : (A : Mat ℤ) → det (transpose A) ≡ det A
det-transpose A = solve (entries A []) (det_e (transpose 𝔸)) (det_e 𝔸) tt

pub negate-twice : (A : Mat ℤ) → negate (negate A) ≡ A
negate-twice A = solve_mat (entries A []) (negate_e (negate_e 𝔸)) 𝔸 tt

pub negate-product : (A B : Mat ℤ) → negate A · B ≡ negate (A · B)
negate-product A B = solve_mat (entries A (entries B [])) (negate_e 𝔸 ⊡ 𝔹) (negate_e (𝔸 ⊡ 𝔹)) tt

pub product-negate : (A B : Mat ℤ) → A · negate B ≡ negate (A · B)
product-negate A B = solve_mat (entries A (entries B [])) (𝔸 ⊡ negate_e 𝔹) (negate_e (𝔸 ⊡ 𝔹)) tt

pub det-negate : (A : Mat ℤ) → det (negate A) ≡ neg_ℤ (det A)
det-negate A = solve (entries A []) (det_e (negate_e 𝔸)) (neg (det_e 𝔸)) tt

pub apply-product : (A B : Mat ℤ) (v : Vec ℤ) → (A · B) ▹ v ≡ A ▹ B ▹ v
apply-product A B v = solve_vec (entries A (entries B (sides v []))) (apply_e (𝔸 ⊡ 𝔹) (column 18)) (apply_e 𝔸 (apply_e 𝔹 (column 18))) tt

pub apply-identity : (v : Vec ℤ) → identity ▹ v ≡ v
apply-identity v = solve_vec (sides v []) (apply_e (scalar_e (con (pos 1))) (column 0)) (column 0) tt
