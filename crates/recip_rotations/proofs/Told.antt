-- A group of matrices gives a group again, for either flag: the list of demand 3.
use mathlib.Core.Path.{◌≡◌, sym, ◌∙◌, ap, subst}
use mathlib.Core.Logic.{◌⊎◌, inl, inr, ⊎_elim}
use mathlib.Core.Bool.{Bool, true, false, not}
use mathlib.Core.List.Memᴰ.{append_right}
use mathlib.Core.List.Memᴰ.{cases_cons as cases}
use mathlib.Core.List.Memᴰ.{head as here}
use mathlib.Core.List.Memᴰ.{not-nil}
use mathlib.Core.List.Memᴰ.{tail as there}
use mathlib.Core.List.{List, [], ◌∷◌, ◌++◌, map, foldl, append-nil}
use lib.Dec.{T, T_not, not_T}
use lib.IntN.{ℤ}
use lib.Seq.{append_snoc}
use Rattle.integer.proofs.Test.{is_false, and_r}
use Rattle.common.specs.Matrix.{Mat, negate, inversion}
use Rattle.grgrid.proofs.Lists.{◌∈◌, Distinct}
use Rattle.grgrid.proofs.MatrixGroup.{MatrixGroup, transposes, joined as negatives-joined}
use Rattle.recip_rotations.specs.Unique.{same_matrix, among, with_new, unique}
use Rattle.recip_rotations.specs.PointGroup.{transposed_if, joins, with_negatives, point_group}
use Rattle.recip_rotations.proofs.Same.{matrix-eq, matrix-refl}
use Rattle.recip_rotations.proofs.Distinct.{kept_new}

-- ---- the test and membership
module _ (x : Mat ℤ) where
  pub among_in : (l : List (Mat ℤ)) → T (among x l) → x ∈ l
  among_in [] t = absurd t
  among_in (y ∷ l) t = step (same_matrix x y) (matrix-eq x y) (among_in l) t
    where
      step : (b : Bool) → (T b → x ≡ y) → (T (among x l) → x ∈ l) → T (elim b [ true ↦ true | false ↦ among x l ]) → x ∈ y ∷ l
      step true e r t = here (e tt)
      step false e r t = there (r t)

  pub in-among : (l : List (Mat ℤ)) → x ∈ l → T (among x l)
  in-among [] k = absurd (not-nil k)
  in-among (y ∷ l) k = step (same_matrix x y) (⊎_elim (λ e. inl (subst (λ z. T (same_matrix x z)) e (matrix-refl x))) (λ j. inr (in-among l j)) (cases k))
    where
      step : (b : Bool) → T b ⊎ T (among x l) → T (elim b [ true ↦ true | false ↦ among x l ])
      step true k = tt
      step false k = ⊎_elim (λ t. absurd t) (λ t. t) k

-- ---- a list with no repeats is its own list of distinct members
apart : (b : List (Mat ℤ)) (x : Mat ℤ) (l : List (Mat ℤ)) → Distinct (b ++ x ∷ l) → ¬ (x ∈ b)
apart [] x l d k = not-nil k
apart (y ∷ b) x l d k = ⊎_elim (λ e. d.0 (append_right b (here (sym e)))) (apart b x l d.1) (cases k)

fold-distinct : (b l : List (Mat ℤ)) → Distinct (b ++ l) → foldl with_new b l ≡ b ++ l
fold-distinct b [] d = sym (append-nil b)
fold-distinct b (x ∷ l) d =
    let new : among x b ≡ false = is_false (among x b) (not_T (among x b) (λ t. apart b x l d (among_in x b t))) in
    ap (λ k. foldl with_new k l) (sym (kept_new b x new)) ∙ fold-distinct (b ++ (x ∷ [])) l (rw append_snoc d) ∙ append_snoc b x l

pub unique-distinct : (l : List (Mat ℤ)) → Distinct l → unique l ≡ l
unique-distinct l d = fold-distinct [] l d

-- ---- groups
turned-group : (t : Bool) {l : List (Mat ℤ)} → MatrixGroup l → MatrixGroup (transposed_if t l)
turned-group true m = transposes m
turned-group false m = m

pub joined-group : (time : Bool) {l : List (Mat ℤ)} → MatrixGroup l → MatrixGroup (with_negatives time l)
joined-group time {l} m = step (joins time l) (λ t k. T_not (among inversion l) (and_r time (not (among inversion l)) t) (in-among inversion l k))
  where
    step : (j : Bool) → (T j → ¬ (inversion ∈ l)) → MatrixGroup (elim j [ true ↦ l ++ map negate l | false ↦ l ])
    step true n = negatives-joined m (n tt)
    step false n = m

pub told-group : (l : List (Mat ℤ)) → MatrixGroup l → (time t : Bool) → MatrixGroup (point_group l time t)
unfolding point_group
told-group l m time t = rw (unique-distinct l m.distinct) (joined-group time (turned-group t m))
