-- Which members keep the list: products of those that do, and the marks.
use mathlib.Core.Path.{◌≡◌, refl, sym, ◌∙◌, subst}
use mathlib.Core.Bool.{Bool, true, false}
use mathlib.Core.List.{List}
use Prim.Native.Nat.{ℕ, zero, suc}
use lib.Dec.{T, eqb}
use lib.IntN.{ℤ}
use lib.ListN.{get_or, set, replicate}
use lib.Seq.{get_or-set_other}
use borrow.Author.Tests.{eqb-true, eqb-false}
use Rattle.std.proofs.lemmas.Bool.{false≢true}
use Rattle.common.specs.Matrix.{Mat, ◌·◌}
use Rattle.common.specs.Array.{matrix_at, matrices}
use Rattle.common.proofs.Matrix.{product-assoc}
use Rattle.common.proofs.Every.{every_of, of-every}
use Rattle.recip_rotations.specs.Unique.{among}
use Rattle.recip_rotations.proofs.Told.{among_in}
use Rattle.rotation_group.specs.Group.{row_inside}
use Rattle.rotation_group.specs.Code.Known.{Known}

-- (A-as-B)·C = A·(B-as-C)
pub row-product : (l : List (Mat ℤ)) (A B : Mat ℤ) → T (row_inside l A) → T (row_inside l B) → T (row_inside l (A · B))
row-product l A B s t =
    of-every (λ n. among (A · B · n) l) l (λ C k.
    subst (λ M. T (among M l)) (sym (product-assoc A B C))
    (every_of (λ n. among (A · n) l) l s (B · C) (among_in (B · C) l (every_of (λ n. among (B · n) l) l t C k))))

pub known-none : (l : List ℤ) (n : ℕ) → Known l (replicate n false)
known-none l n = record { inside = λ k h. absurd (unset n k h) }
  where
    unset : (n k : ℕ) → get_or (replicate n false) k false ≡ true → ⊥
    unset zero k h = absurd (false≢true h)
    unset (suc n) zero h = absurd (false≢true h)
    unset (suc n) (suc k) h = unset n k h

pub known-set : {l : List ℤ} {marks : List Bool} (k : ℕ) → Known l marks → T (row_inside (matrices l) (matrix_at l k)) → Known l (set marks k true)
known-set {l} {marks} k m t = record { inside = λ j. go j (eqb j k) refl }
  where
    go : (j : ℕ) (b : Bool) → eqb j k ≡ b → get_or (set marks k true) j false ≡ true → T (row_inside (matrices l) (matrix_at l j))
    go j true e h = subst (λ i. T (row_inside (matrices l) (matrix_at l i))) (sym (eqb-true j k e)) t
    go j false e h = m.inside j (sym (get_or-set_other marks k j true false (eqb-false j k e)) ∙ h)
