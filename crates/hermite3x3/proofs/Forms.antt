-- The theorems: an accepted matrix has the form that is returned, with its points; and two have equal forms exactly if they have the same points.
use mathlib.Core.Path.{◌≡◌, refl, sym, ◌∙◌, ap, subst}
use mathlib.Core.Logic.{◌↔◌}
use mathlib.Core.List.{List, []}
use lib.IntN.{ℤ}
use Rattle.std.specs.Prelude.{Option, Result, Ok, Err, IfOk, cond}
use Rattle.std.specs.declared.cmp.Ordering.{Ordering}
use Rattle.std.specs.declared.cmp.Ordering.TheVariants.{Less, Equal, Greater}
use Rattle.std.specs.Ordering.{is_eq}
use Rattle.std.proofs.lemmas.Bool.{false≢true}
use Rattle.integer.specs.Checked.{is_zero}
use Rattle.integer.proofs.Test.{pick-cases}
use Rattle.integer.proofs.Size.{nonzero-test}
use Rattle.common.specs.declared.Refusal.{Refusal}
use Rattle.common.specs.declared.Refusal.TheVariants.{Singular, OutsideLimits}
use Rattle.common.specs.Limits.{matrix_within}
use Rattle.common.specs.Matrix.{Mat, entries, det}
use Rattle.common.specs.Array.{matrix_at}
use Rattle.common.proofs.Unimodular.{Regular}
use Rattle.snf_steps.proofs.Accepted as walk
use Rattle.snf_steps.proofs.FittingEntries.{given-fits}
use Rattle.hermite3x3.specs.Points.{SamePoints, LeftMultiple, FormOf}
use Rattle.hermite3x3.specs.Hermite3x3.{steps, refused, formed, hermite3x3, Promised}
use Rattle.hermite3x3.specs.OrderForms.{order_forms}
use Rattle.hermite3x3.specs.SameGrid.{compared, same_grid, Says, GridRule}
use Rattle.hermite3x3.proofs.Points.{left_back, left-then, left-regular, unimodular-by, same_points}
use Rattle.hermite3x3.proofs.Unique.{hermite-unique}
use Rattle.hermite3x3.proofs.Walk.{Formed, steps-form}
use Rattle.hermite3x3.proofs.Ordering.{forms_equal}

-- what an accepted answer l tells of A: it holds its form
pub record Told (A : Mat ℤ) (l : List ℤ) : Type 0 where
  pub regular : Regular A
  pub nine : l ≡ entries (matrix_at l 0) []
  pub formed : Formed A (matrix_at l 0)

abbrev pub Right : Mat ℤ → Result (List ℤ) Refusal → Type 0
Right A r = IfOk r (Told A)

formed-right : (A : Mat ℤ) → Regular A → {m : Option (Mat ℤ)} → walk.Accepted (Formed A) m → Right A (formed m)
formed-right A r walk.overflowed = tt
formed-right A r (walk.accepted {x = m} f) = record { regular = r; nine = refl; formed = f }

pub answers-right : (A : Mat ℤ) → Right A (hermite3x3 A)
unfolding hermite3x3
answers-right A =
    pick-cases (matrix_within 1000000 A) (cond (is_zero (det A)) (refused Singular) (formed (steps A))) (refused OutsideLimits) (Right A)
    (λ t. pick-cases (is_zero (det A)) (refused Singular) (formed (steps A)) (Right A)
    (λ _. tt)
    (λ n. let r : Regular A = record { nonzero = nonzero-test (det A) n } in formed-right A r (steps-form A (given-fits A t) r)))
    (λ _. tt)

-- ---- the form of an accepted matrix
-- one matrix has one form
one_form : {A H K : Mat ℤ} → Formed A H → Formed A K → H ≡ K
one_form {H = H} {K = K} h k = let l = left-then (left_back h.left) k.left in hermite-unique H K l.by (unimodular-by l) h.form k.form l.is

told-form : {A : Mat ℤ} {l : List ℤ} → Told A l → FormOf A (matrix_at l 0)
told-form t =
    let l = t.formed.left in
    record {
      form = t.formed.form;
      left = l;
      only = λ K f k. one_form t.formed (record { left = k; form = f });
      points = (same_points t.regular (left-regular t.regular l)).1 l;
    }

pub hermite_promised : (A : Mat ℤ) → Promised A (hermite3x3 A)
hermite_promised A = by (hermite3x3 A) (answers-right A)
  where
    by : (r : Result (List ℤ) Refusal) → Right A r → Promised A r
    by (Ok l) t = told-form t
    by (Err r) t = tt

-- ---- two of them
told : {A : Mat ℤ} {l : List ℤ} → hermite3x3 A ≡ Ok l → Told A l
told {A} e = subst (Right A) e (answers-right A)

module _ {A B : Mat ℤ} {g h : List ℤ} (a : Told A g) (b : Told B h) where
  -- A has the form of B
  shared : SamePoints A B → matrix_at g 0 ≡ matrix_at h 0
  shared s = one_form a.formed (record { left = left-then ((same_points a.regular b.regular).0 s) b.formed.left; form = b.formed.form })

  pub equal-forms : g ≡ h ↔ SamePoints A B
  equal-forms = (
    λ p. let l = subst (LeftMultiple B) (sym (ap (λ l. matrix_at l 0) p)) b.formed.left in (same_points a.regular b.regular).1 (left-then a.formed.left (left_back l)),
    λ s. a.nine ∙ ap (λ M. entries M []) (shared s) ∙ sym b.nine,
  )

  compared-says : Says A B (Ok (is_eq (order_forms g h)))
  compared-says = by (order_forms g h) refl
    where
      by : (o : Ordering) → order_forms g h ≡ o → Says A B (Ok (is_eq o))
      by Less e = λ s. false≢true (ap is_eq (sym e ∙ (forms_equal g h).1 (equal-forms.1 s)))
      by Equal e = equal-forms.0 ((forms_equal g h).0 e)
      by Greater e = λ s. false≢true (ap is_eq (sym e ∙ (forms_equal g h).1 (equal-forms.1 s)))

-- ---- the rule
pub grid-rule : GridRule
grid-rule = record {
  left-multiple = λ A B r s. same_points (record { nonzero = r }) (record { nonzero = s });
  equal-forms = λ A B g h e f. equal-forms (told e) (told f);
}

pub same_grid_says : (A B : Mat ℤ) → Says A B (same_grid A B)
same_grid_says A B = by (hermite3x3 A) (hermite3x3 B) (answers-right A) (answers-right B)
  where
    by : (r s : Result (List ℤ) Refusal) → Right A r → Right B s → Says A B (compared r s)
    by (Err r) s t u = tt
    by (Ok g) (Err r) t u = tt
    by (Ok g) (Ok h) t u = compared-says t u
