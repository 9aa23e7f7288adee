-- The class map of a list of matrices that are a group and act on the grid: it tells their orbits.
use mathlib.Core.Path.{subst}
use mathlib.Core.Logic.{◌↔◌}
use mathlib.Core.List.{List, map}
use lib.IntN.{ℤ}
use Prim.Native.Nat.{ℕ, ◌<◌}
use Rattle.common.specs.Matrix.{Vec, Mat, ◌·◌, identity, origin}
use Rattle.grgrid.specs.Grid.{size, rotate, carry}
use Rattle.grgrid.specs.ClassMap.{class_map_of, classes}
use Rattle.grgrid.proofs.Lists.{◌∈◌}
use Rattle.grgrid.specs.Orbits.{Orbit, Keeps}
use Rattle.grgrid.proofs.Group.{Group, orbit-steps, orbit-equiv, keeps-group}
use Rattle.grgrid.proofs.Folding.{Sides}
use Rattle.grgrid.proofs.Acting.{Acts, Shifts, shifts_none, rotate-plain, rotate-action, carry-action}
use Rattle.grgrid.proofs.Count.{Classified, pass-classified}
use Rattle.grgrid.proofs.MatrixGroup.{MatrixGroup, grouped}

module _ (d : Vec ℕ) (s : Sides d) where
  module _ {P : Mat ℤ → Type 0} (g : Group ◌·◌ identity P) (w : (M : Mat ℤ) → P M → Acts d M) (l : List (Mat ℤ)) (i : (M : Mat ℤ) → (M ∈ l) ↔ P M) where
    -- of matrices that keep the shift ps
    pub shifted-classes : (ps : Vec ℤ) → ((M : Mat ℤ) → P M → Shifts ps M) → Classified (size d) (Orbit (rotate d ps) P) (class_map_of d ps l) (classes d ps l)
    unfolding class_map_of classes
    shifted-classes ps t = pass-classified (orbit-equiv g (rotate-action d s ps w t)) (map (rotate d ps) l) (orbit-steps (size d) l i)

    -- without a shift
    pub plain-classes : Classified (size d) (Orbit (carry d) P) (class_map_of d origin l) (classes d origin l)
    plain-classes =
        subst (λ act. Classified (size d) (Orbit act P) (class_map_of d origin l) (classes d origin l))
        (λ t M p. rotate-plain d M p t) (shifted-classes origin (λ M k. shifts_none M))

  module _ {l : List (Mat ℤ)} (m : MatrixGroup l) (w : (M : Mat ℤ) → M ∈ l → Acts d M) where
    -- of the list of demand 3
    pub group-classes : Classified (size d) (Orbit (carry d) (λ M. M ∈ l)) (class_map_of d origin l) (classes d origin l)
    group-classes = plain-classes (grouped m) w l (λ M. (λ k. k, λ k. k))

    -- of a list of those that keep q
    pub keeping-classes : (q : ℕ) → q < size d → (k : List (Mat ℤ)) → ((M : Mat ℤ) → (M ∈ k) ↔ Keeps (carry d) (λ M. M ∈ l) q M)
        → Classified (size d) (Orbit (carry d) (Keeps (carry d) (λ M. M ∈ l) q)) (class_map_of d origin k) (classes d origin k)
    keeping-classes q h k i = plain-classes (keeps-group (grouped m) (carry-action d s w) q h) (λ M j. w M j.0) k i
