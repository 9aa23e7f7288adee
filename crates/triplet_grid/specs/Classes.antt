-- The classes at q0, in the words of demand 3: the operations, where those that keep q0 carry a point, and how swapping joins a point with its partner.
use Rattle.std.specs.Prelude.{◌≡◌, ◌⊎◌, Bool, true, false, List, map, ℕ, T, ℤ}
use Rattle.common.specs.Matrix.{Vec, Mat, negate}
use Rattle.grgrid.specs.Grid.{carry}
use Rattle.grgrid.specs.Lists.{◌∈◌}
use Rattle.grgrid.specs.Orbits.{Orbit, Keeps}
use Rattle.recip_rotations.specs.PointGroup.{joins}

-- an operation is a matrix of the list, or a negative that the call joined to it
abbrev pub Operation : Bool → List (Mat ℤ) → Mat ℤ → Type 0
Operation time_reversal l M = (M ∈ l) ⊎ (T (joins time_reversal l) × (M ∈ map negate l))

-- an operation that keeps q0 carries p to q
abbrev pub Carries : Vec ℕ → (Mat ℤ → Type 0) → ℕ → ℕ → ℕ → Type 0
Carries d P q0 p q = Orbit (carry d) (Keeps (carry d) P q0) p q

-- ---- E p q says that p goes to q, and π gives a point's partner
-- q is the partner of a point of the class of p
pub record Opposite (E : ℕ → ℕ → Type 0) (π : ℕ → ℕ) (p q : ℕ) : Type 0 where
  pub via : ℕ
  pub reached : E p via
  pub is : q ≡ π via

-- the class of p and, with swapping, the partners of its points
abbrev pub Joined : Bool → (ℕ → ℕ → Type 0) → (ℕ → ℕ) → ℕ → ℕ → Type 0
Joined true E π p q = E p q ⊎ Opposite E π p q
Joined false E π p q = E p q

-- p meets q or, with swapping, the partner of q
abbrev pub Meets : Bool → (ℕ → ℕ → Type 0) → (ℕ → ℕ) → ℕ → ℕ → Type 0
Meets true E π p q = E p q ⊎ E p (π q)
Meets false E π p q = E p q
