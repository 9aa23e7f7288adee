-- The walk that looks for an address: what it finds from place i on, below `to`.
use mathlib.Core.Path.{◌≡◌, refl, sym, ◌∙◌, ap}
use mathlib.Core.Bool.{Bool, true, false, ◌&&◌, cond}
use mathlib.Core.List.{List, [], ◌∷◌}
use Prim.Native.Nat.{ℕ, suc, ◌+◌, ◌-◌, ◌<◌}
use native.Mathlib.Numerals.{add-one}
use native.Mathlib.Omega.{arith}
use lib.IntN.{ℤ}
use lib.ListN.{length}
use lib.Pointwise.{pointwise}
use Rattle.std.specs.Prelude.{Option, Some, Err}
use Rattle.std.specs.Ordering.{int_eq}
use Rattle.integer.specs.Same.{same}
use Rattle.integer.proofs.Same.{int-eq-same}
use Rattle.common.specs.Matrix.{Vec, same_vector}
use Rattle.common.specs.Array.{vector_of}
use Rattle.common.specs.declared.Refusal.{Refusal}
use Rattle.bzgrid.specs.declared.GridType.TheVariants.{Sparse}
use Rattle.common.specs.Tested.{◌then◌}
use Rattle.bztable.specs.Reading.{Read, got, address_at, find}
use Rattle.bztable.specs.Rotate.{among_run, among_images}

-- ---- `==` of two addresses
three : (x y : List ℤ) → length x ≡ 3 → length y ≡ 3 → pointwise int_eq x y ≡ same_vector (vector_of x) (vector_of y)
three (x ∷ y ∷ z ∷ []) (p ∷ q ∷ r ∷ []) m n = λ i. int-eq-same x p i && (int-eq-same y q i && ((ap (λ t. t && true) (int-eq-same z r)) ∙ last (same z r)) i)
  where
    last : (b : Bool) → b && true ≡ b
    last true = refl
    last false = refl
three [] b m n = absurd (omega (arith, m))
three (x ∷ []) b m n = absurd (omega (arith, m))
three (x ∷ y ∷ []) b m n = absurd (omega (arith, m))
three (x ∷ y ∷ z ∷ w ∷ a) b m n = absurd (omega (arith, m))
three (x ∷ y ∷ z ∷ []) [] m n = absurd (omega (arith, n))
three (x ∷ y ∷ z ∷ []) (p ∷ []) m n = absurd (omega (arith, n))
three (x ∷ y ∷ z ∷ []) (p ∷ q ∷ []) m n = absurd (omega (arith, n))
three (x ∷ y ∷ z ∷ []) (p ∷ q ∷ r ∷ s ∷ b) m n = absurd (omega (arith, n))

pub same-rows : (x y : List ℤ) → length x ≡ 3 → length y ≡ 3 → {t : Bool} → t ≡ pointwise int_eq x y → {s : Bool} → t ≡ s → same_vector (vector_of x) (vector_of y) ≡ s
same-rows x y m n e f = sym (three x y m n) ∙ sym e ∙ f

-- ---- a turn
module _ (l : List ℤ) (a : Vec ℤ) (i to : ℕ) (h : i < to) where
  abbrev on : Vec ℤ → Read (Option ℕ)
  on b = cond (same_vector b a) (got (Some i)) (find l a (i + 1) (to - (i + 1)))

  turn : {x : Read (Vec ℤ)} → x ≡ address_at l i → (x then on) ≡ find l a i (to - i)
  turn e = ap (λ x. x then on) e ∙ sym (ap (find l a i) (more i to h) ∙ ap (λ j. address_at l i then λ b. cond (same_vector b a) (got (Some i)) (find l a j (to - (i + 1)))) (sym (add-one i)))
    where
      more : (i to : ℕ) → i < to → to - i ≡ suc (to - (i + 1))
      more i to h = omega arith

  pub find-outside : {r : Refusal} → Err r ≡ address_at l i → Err r ≡ find l a i (to - i)
  find-outside e = turn e

  module _ {b : Vec ℤ} (e : got b ≡ address_at l i) where
    pub find-here : same_vector b a ≡ true → got (Some i) ≡ find l a i (to - i)
    find-here t = ap (λ t. cond t (got (Some i)) (find l a (i + 1) (to - (i + 1)))) (sym t) ∙ turn e

    pub find-on : same_vector b a ≡ false → find l a (i + 1) (to - (i + 1)) ≡ find l a i (to - i)
    find-on t = ap (λ t. cond t (got (Some i)) (find l a (i + 1) (to - (i + 1)))) (sym t) ∙ turn e

-- ---- a sparse table's point p, one of n, whose first image is at its own place
module _ (l m : List ℤ) (a : Vec ℤ) (p n : ℕ) {b : Vec ℤ} (e : got b ≡ address_at l p) where
  abbrev from_first : Vec ℤ → Read (Option ℕ)
  from_first b = cond (same_vector b a) (got (Some p)) (among_run l m a Sparse p n)

  pub first-here : same_vector b a ≡ true → got (Some p) ≡ among_images l m a Sparse p n
  first-here t = ap (λ t. cond t (got (Some p)) (among_run l m a Sparse p n)) (sym t) ∙ ap (λ x. x then from_first) e

  pub first-on : same_vector b a ≡ false → among_run l m a Sparse p n ≡ among_images l m a Sparse p n
  first-on t = ap (λ t. cond t (got (Some p)) (among_run l m a Sparse p n)) (sym t) ∙ ap (λ x. x then from_first) e
