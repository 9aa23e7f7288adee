-- The triplet of a class, found in a walk over the choices: one image each of q0, q1 and q2. A choice whose sum is zero closes the triplet and ends the walk;
-- else the least squared length falls only by more than the tolerance.
use Rattle.std.specs.Prelude.{Bool, cond}
use mathlib.Core.List.{List, foldl}
use Rattle.common.specs.Matrix.{Vec}

-- nothing yet; the least length that is left over, and its choice; a choice that closes
pub data Found (C F : Type 0) : Type 0 where
  start : Found C F
  left : F → C → Found C F
  closed : C → Found C F

-- `less x` is x minus the tolerance
module _ {C F : Type 0} (closes : C → Bool) (len : C → F) (lt : F → F → Bool) (less : F → F) where
  abbrev pub tried : Found C F → C → Found C F
  tried start c = cond (closes c) (closed c) (left (len c) c)
  tried (left x b) c = cond (closes c) (closed c) (cond (lt (len c) (less x)) (left (len c) c) (left x b))
  tried (closed b) c = closed b

-- the three nested walks over images
abbrev pub nested : {X S : Type 0} → (S → Vec X → S) → S → Vec (List X) → S
nested step s l = foldl (λ s a. foldl (λ s b. foldl (λ s c. step s (record { x = a; y = b; z = c })) s l.z) s l.y) s l.x
