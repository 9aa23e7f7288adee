-- Classes of points: where a set of operations carries a point, the least point of a class, and one point of each class.
use Rattle.std.specs.Prelude.{◌≡◌, List, ℕ, ◌≤◌, ◌<◌}
use Rattle.grgrid.specs.Lists.{◌∈◌, Distinct}

-- some member carries p to q
pub record Orbit {A : Type 0} (act : A → ℕ → ℕ) (P : A → Type 0) (p q : ℕ) : Type 0 where
  pub by : A
  pub is-in : P by
  pub lands : act by p ≡ q

-- the members that keep q
abbrev pub Keeps : {A : Type 0} → (A → ℕ → ℕ) → (A → Type 0) → ℕ → A → Type 0
Keeps act P q x = P x × (act x q ≡ q)

-- the least point of a set of points
pub record Least (P : ℕ → Type 0) (x : ℕ) : Type 0 where
  pub is-in : P x
  pub lowest : (y : ℕ) → P y → x ≤ y

-- of the points below N, where E p q says that q is in the class of p: one of each class
pub record OneEach (N : ℕ) (E : ℕ → ℕ → Type 0) (l : List ℕ) : Type 0 where
  pub inside : (p : ℕ) → p ∈ l → p < N
  pub distinct : Distinct l
  pub apart : (p q : ℕ) → p ∈ l → q ∈ l → E p q → p ≡ q
  pub covers : (p : ℕ) → p < N → (q : ℕ) × (q ∈ l) × E p q
