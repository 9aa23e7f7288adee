-- The list of demand 3: each member has its inverse in it, and its transposes, the list with its negatives joined, and the transformed list meet the same conditions.
use mathlib.Core.Path.{◌≡◌, refl, sym, ◌∙◌, ap, ap₂, subst}
use mathlib.Core.Logic.{◌⊎◌, inl, inr, ⊎_elim}
use mathlib.Core.List.Memᴰ.{append_cases}
use mathlib.Core.List.Memᴰ.{append_left}
use mathlib.Core.List.Memᴰ.{append_right}
use mathlib.Core.List.Memᴰ.{cast}
use mathlib.Core.List.Memᴰ.{map as map-in}
use mathlib.Core.List.Memᴰ.{of_map}
use mathlib.Core.List.{List, ◌++◌, map}
use lib.IntN.{ℤ, pos, nat_abs}
use Prim.Native.Nat.{ℕ, zero, ◌<◌}
use native.Mathlib.Nat.{mul-pos}
use Rattle.common.specs.Matrix.{X, Y, Z, Vec, Mat, side, transpose, ◌·◌, identity, negate, inversion, inverse}
use Rattle.common.proofs.Matrix.{det-diagonal, transpose-product, negate-twice, negate-product, product-negate}
use Rattle.common.proofs.Unimodular.{Regular, Unimodular, regular-product, unimodular-regular, unimodular-transpose, unimodular-negate, unimodular-inverse, cancel_left, cancel_right, similar-identity, similar-product, similar-det, conjugate-similar}
pub use Rattle.grgrid.specs.MatrixGroup.{MatrixGroup}
use Rattle.grgrid.proofs.Lists.{◌∈◌, Injective, distinct_append, distinct-map}
use Rattle.grgrid.proofs.Group.{Group, closed-group}
use Rattle.grgrid.proofs.Folding.{Sides}
use Rattle.grgrid.proofs.Acting.{Acts, grid, acts-negate}

pub grid-regular : {d : Vec ℕ} → Sides d → Regular (grid d)
grid-regular {d} s = record { nonzero = subst (λ x. zero < nat_abs x) (sym (det-diagonal (λ k. pos (side d k)))) (mul-pos (mul-pos (s.positive X) (s.positive Y)) (s.positive Z)) }

module _ {l : List (Mat ℤ)} (m : MatrixGroup l) where
  -- each member has its inverse in the list
  pub grouped : Group ◌·◌ identity (λ A. A ∈ l)
  grouped = closed-group l m.one m.distinct m.times (λ A B C k. cancel_right (unimodular-regular (m.units A k)) B C)

  -- ---- images
  image : (f : Mat ℤ → Mat ℤ) → Injective f l → ((A : Mat ℤ) → A ∈ l → Unimodular (f A)) → f identity ≡ identity
      → ((A B : Mat ℤ) → A ∈ l → B ∈ l → f A · f B ∈ map f l) → MatrixGroup (map f l)
  image f i u e t = record {
    one = cast (sym e) (map-in f m.one);
    distinct = distinct-map f l i m.distinct;
    units = λ B k. let r = of_map f l k in subst Unimodular r.2 (u r.0 r.1);
    times = λ B C j k. let r = of_map f l j in let s = of_map f l k in cast (sym (ap₂ ◌·◌ r.2 s.2)) (t r.0 s.0 r.1 s.1);
  }

  pub transposes : MatrixGroup (map transpose l)
  transposes = image transpose
      (λ A B _ _ e. ap transpose e)
      (λ A k. unimodular-transpose (m.units A k))
      refl
      (λ A B j k. cast (sym (transpose-product B A)) (map-in transpose (m.times B A k j)))

  -- matrices similar to the members, all by one T
  pub similar : {T : Mat ℤ} → Regular T → (f : Mat ℤ → Mat ℤ) → ((A : Mat ℤ) → A ∈ l → f A · T ≡ T · A) → MatrixGroup (map f l)
  similar {T} r f h = image f
      (λ A B j k e. cancel_left r A B (sym (h A j) ∙ ap (λ M. M · T) e ∙ h B k))
      (λ A k. record { unit = ap nat_abs (similar-det r (f A) A (h A k)) ∙ (m.units A k).unit })
      (similar-identity r (f identity) (h identity m.one))
      (λ A B j k.
      cast (cancel_right r (f A · f B) (f (A · B)) (similar-product T (f A) A (f B) B (h A j) (h B k) ∙ sym (h (A · B) (m.times A B j k)))) (map-in f (m.times A B j k)))

  -- what an accepted transform by Q on the grid d returns
  pub transformed : {d : Vec ℕ} {Q : Mat ℤ} → Sides d → Unimodular Q → (f : Mat ℤ → Mat ℤ) → ((A : Mat ℤ) → A ∈ l → f A · grid d ≡ grid d · (inverse Q · A · Q))
      → MatrixGroup (map f l)
  transformed {d} s u f h = similar (regular-product (grid-regular s) (unimodular-regular (unimodular-inverse u))) f (λ A k. conjugate-similar u (grid d) (f A) A (h A k))

  -- ---- negatives joined
  joined_of : {A : Mat ℤ} → A ∈ l ++ map negate l → (A ∈ l) ⊎ (negate A ∈ l)
  joined_of k = ⊎_elim inl (λ j. let r = of_map negate l j in inr (cast (sym (ap negate r.2) ∙ negate-twice r.0) r.1)) (append_cases l k)

  joined_in : {A : Mat ℤ} → (A ∈ l) ⊎ (negate A ∈ l) → A ∈ l ++ map negate l
  joined_in {A} k = ⊎_elim (append_left (map negate l)) (λ j. append_right l (cast (sym (negate-twice A)) (map-in negate j))) k

  pub joined : ¬ (inversion ∈ l) → MatrixGroup (l ++ map negate l)
  joined n = record {
    one = joined_in (inl m.one);
    distinct = distinct_append l (map negate l) m.distinct (distinct-map negate l injective m.distinct) apart;
    units = λ A k. ⊎_elim (m.units A) (λ j. subst Unimodular (negate-twice A) (unimodular-negate (m.units (negate A) j))) (joined_of k);
    times = λ A B j k. joined_in (times A B (joined_of j) (joined_of k));
  }
    where
      injective : Injective negate l
      injective A B _ _ e = sym (negate-twice A) ∙ ap negate e ∙ negate-twice B

      -- a member that is the negative of one makes the inversion a member
      apart : (A : Mat ℤ) → A ∈ l → ¬ (A ∈ map negate l)
      apart A j k =
          let r = of_map negate l k in
          let v = grouped.inverse r.0 r.1 in
          n (cast (sym (ap (λ M. v.0 · M) (sym r.2) ∙ product-negate v.0 r.0 ∙ ap negate v.2)) (m.times v.0 A v.1 j))

      times : (A B : Mat ℤ) → (A ∈ l) ⊎ (negate A ∈ l) → (B ∈ l) ⊎ (negate B ∈ l) → (A · B ∈ l) ⊎ (negate (A · B) ∈ l)
      times A B (inl j) (inl k) = inl (m.times A B j k)
      times A B (inl j) (inr k) = inr (cast (sym (product-negate A B)) (m.times A (negate B) j k))
      times A B (inr j) (inl k) = inr (cast (sym (negate-product A B)) (m.times (negate A) B j k))
      times A B (inr j) (inr k) = inl (cast (sym (negate-product A (negate B) ∙ ap negate (product-negate A B) ∙ negate-twice (A · B))) (m.times (negate A) (negate B) j k))

-- ---- which of them act
module _ {d : Vec ℕ} {l : List (Mat ℤ)} where
  pub transformed-acts : (f g : Mat ℤ → Mat ℤ) → ((A : Mat ℤ) → A ∈ l → f A · grid d ≡ grid d · g A) → (M : Mat ℤ) → M ∈ map f l → Acts d M
  transformed-acts f g h M k = let r = of_map f l k in subst (Acts d) r.2 (record { via = g r.0; whole = h r.0 r.1 })

  pub joined-acts : ((M : Mat ℤ) → M ∈ l → Acts d M) → (M : Mat ℤ) → M ∈ l ++ map negate l → Acts d M
  joined-acts w M k = ⊎_elim (w M) (λ j. let r = of_map negate l j in subst (Acts d) r.2 (acts-negate (w r.0 r.1))) (append_cases l k)
