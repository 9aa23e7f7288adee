-- The order of forms: equal exactly if the numbers are; exchanged it is the reverse; and it is transitive.
use Rattle.std.proofs.Common.{◌≡◌, ◌↔◌, List, [], ◌∷◌, ℤ, ◌<ℤ◌, Ordering, Less, Equal, Greater, refl, sym, ◌∙◌, ap, ap₂}
use Rattle.std.specs.Ordering.{int_cmp, is_eq, ordering_then, MatchOrdering}
use Rattle.std.specs.Cmp.{IsTotalOrder}
use Rattle.std.specs.Cmp.Lexicographic.{slice_cmp}
use Rattle.std.proofs.lemmas.Bool.{false≢true}
use Rattle.std.proofs.lemmas.Cmp.{int_ranked, int_cmp_total, lists_total, tied_itself}
use Rattle.hermite3x3.specs.OrderForms.{order_forms, FormsOrdered}

forms-total : IsTotalOrder (slice_cmp int_cmp)
forms-total = lists_total int_cmp_total

equal-numbers : (g h : List ℤ) → order_forms g h ≡ Equal → g ≡ h
equal-numbers [] [] e = refl
equal-numbers [] (y ∷ h) e = absurd (false≢true (ap is_eq e))
equal-numbers (x ∷ g) [] e = absurd (false≢true (ap is_eq e))
equal-numbers (x ∷ g) (y ∷ h) e = by (int_cmp x y) (int_ranked x y (int_cmp x y) refl) (equal-numbers g h) e
  where
    by : (o : Ordering) → MatchOrdering o (x <ℤ y) (x ≡ y) (y <ℤ x) → (order_forms g h ≡ Equal → g ≡ h) → ordering_then o (order_forms g h) ≡ Equal → x ∷ g ≡ y ∷ h
    by Less k rest e = absurd (false≢true (ap is_eq e))
    by Equal k rest e = ap₂ ◌∷◌ k (rest e)
    by Greater k rest e = absurd (false≢true (ap is_eq e))

pub forms_equal : (g h : List ℤ) → order_forms g h ≡ Equal ↔ g ≡ h
forms_equal g h = (equal-numbers g h, λ e. ap (order_forms g) (sym e) ∙ tied_itself forms-total g)

pub forms-ordered : FormsOrdered
forms-ordered = record { equal = forms_equal; exchanged = λ g h. forms-total.antisymm h g; transitive = forms-total.trans }
