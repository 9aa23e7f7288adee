-- Equal numbers, by the definition's test and by the code's, which compares bits.
use mathlib.Core.Path.{◌≡◌, sym, ◌∙◌, ap}
use mathlib.Core.Bool.{true, false}
use Prim.Native.Nat.{◌<◌}
use lib.Dec.{T, eqb, eqb→eq, eqb_refl}
use lib.IntN.{ℤ, pos, negsuc}
use lib.Signed.{mag}
use mir.Syntax.{w64}
use mir.Val.{to_z, of_z}
use borrow.Author.Tests.{eq-eqb, ne_eqb}
use Rattle.std.specs.Ordering.{int_eq}
use Rattle.std.proofs.lemmas.Bool.Decides.{same_from_decides, Decides-int_eq}
use Rattle.integer.specs.Same.{same}
use Rattle.integer.proofs.Test.{holds, is_true, same_test}
use Rattle.integer.proofs.Fits.{held-is}

pub same-eq : (x y : ℤ) → T (same x y) → x ≡ y
same-eq (pos m) (pos n) t = ap pos (eqb→eq m n t)
same-eq (pos m) (negsuc n) t = absurd t
same-eq (negsuc m) (pos n) t = absurd t
same-eq (negsuc m) (negsuc n) t = ap negsuc (eqb→eq m n t)

pub same_refl : (x : ℤ) → T (same x x)
same_refl (pos n) = eqb_refl n
same_refl (negsuc n) = eqb_refl n

-- `==` of the library's arrays and slices
pub int-eq-same : (x y : ℤ) → int_eq x y ≡ same x y
int-eq-same x y = same_from_decides (int_eq x y) (same x y) (Decides-int_eq x y) (λ e. same-eq x y (holds e), λ e. is_true (same x y) (rw e (same_refl y)))

-- ---- two numbers that the code reads
module _ (x y : ℤ) (f : mag x < 0x8000000000000000) (g : mag y < 0x8000000000000000) where
  pub bits-same : eqb (of_z w64 x) (of_z w64 y) ≡ same x y
  bits-same = same_test (eqb (of_z w64 x) (of_z w64 y)) (same x y)
      (λ t. rw (sym (held-is x f) ∙ ap (to_z w64) (eqb→eq (of_z w64 x) (of_z w64 y) t) ∙ held-is y g) (same_refl y))
      (λ t. rw (same-eq x y t) (eqb_refl (of_z w64 y)))

  pub bits-equal : of_z w64 x ≡ of_z w64 y → same x y ≡ true
  bits-equal e = sym bits-same ∙ eq-eqb (of_z w64 x) (of_z w64 y) e

  pub bits-differ : (of_z w64 x ≡ of_z w64 y → ⊥) → same x y ≡ false
  bits-differ n = sym bits-same ∙ ne_eqb (of_z w64 x) (of_z w64 y) n
