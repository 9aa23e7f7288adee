-- What the tests of a table say: each place, no address twice, good lists, equal tables.
use mathlib.Core.Path.{◌≡◌, refl, sym, ◌∙◌, ap, ap₂, subst}
use mathlib.Core.Logic.{⊎_elim}
use mathlib.Core.Bool.{Bool, true, false, not, ◌&&◌}
use mathlib.Core.List.{List, [], ◌∷◌}
use Prim.Native.Nat.{ℕ, zero, suc, ◌+◌, ◌≤◌, ◌<◌}
use native.Mathlib.Nat.{le_refl, le_of_suc-le-suc, not-suc-le-zero, eq-or-lt_of_le}
use native.Mathlib.Numerals.{add-one}
use native.Mathlib.Omega.{arith}
use lib.Dec.{T, eqb, eqb→eq, eqb_refl}
use lib.IntN.{ℤ}
use lib.ListN.{length}
use Rattle.integer.specs.Same.{same}
use Rattle.integer.proofs.Same.{same-eq, same_refl}
use Rattle.integer.proofs.Test.{and_l, and_r, and_in, is_true, is_false, holds, fails}
use Rattle.common.specs.Every.{every}
use Rattle.common.specs.Matrix.{Vec, same_vector}
use Rattle.common.proofs.Every.{every_of, of-every}
use Rattle.common.proofs.Same.{same-vectors, same-itself}
use Rattle.grgrid.specs.Grid.{size, index}
use Rattle.grgrid.specs.Lists.{◌∈◌, Distinct}
use Rattle.bzconvert.specs.Layout.{Table, all_below, no_repeats, good_list, same_list, same_table}
use Rattle.bzconvert.specs.Standing.{Good}

pub test-fails : (t : Bool) → (T t → ⊥) → T (not t)
test-fails true h = absurd (h tt)
test-fails false h = tt

pub both-ways : (t : Bool) → T t → T (not t) → ⊥
both-ways true s u = u
both-ways false s u = s

-- ---- each of the first n
module _ (f : ℕ → Bool) where
  pub below-of : (n : ℕ) → T (all_below f n) → (p : ℕ) → p < n → T (f p)
  below-of zero t p l = absurd (not-suc-le-zero l)
  below-of (suc n) t p l =
      ⊎_elim (λ e. subst (λ (p : ℕ). T (f p)) (sym e) (and_r (all_below f n) (f n) t)) (below-of n (and_l (all_below f n) (f n) t) p)
      (eq-or-lt_of_le (le_of_suc-le-suc l))

  pub of-below : (n : ℕ) → ((p : ℕ) → p < n → T (f p)) → T (all_below f n)
  of-below zero h = tt
  of-below (suc n) h = and_in (all_below f n) (f n) (of-below n (λ p l. h p (omega arith))) (h n (le_refl (suc n)))

  -- as a loop goes: a place that fails, the next, the end
  pub below-fails : {b : Bool} (i n : ℕ) → i < n → b ≡ f i → b ≡ false → false ≡ all_below f n
  below-fails i n l e t = sym (is_false (all_below f n) (test-fails (all_below f n) (λ h. both-ways (f i) (below-of n h i l) (fails (sym e ∙ t)))))

  pub below-next : {b : Bool} (i : ℕ) → all_below f i ≡ true → b ≡ f i → b ≡ true → all_below f (i + 1) ≡ true
  below-next i h e t = ap (all_below f) (add-one i) ∙ is_true (all_below f i && f i) (and_in (all_below f i) (f i) (holds h) (holds (sym e ∙ t)))

  pub below-end : (i n : ℕ) → i ≤ n → n ≤ i → all_below f i ≡ true → true ≡ all_below f n
  below-end i n l m h = let e : i ≡ n = omega arith in sym h ∙ ap (all_below f) e

-- ---- no address twice
abbrev differs : Vec ℤ → Vec ℤ → Bool
differs a b = not (same_vector a b)

pub distinct-of : (l : List (Vec ℤ)) → T (no_repeats l) → Distinct l
distinct-of [] t = tt
distinct-of (a ∷ l) t = (
  λ m. both-ways (same_vector a a) (holds (same-itself a)) (every_of (differs a) l (and_l (every (differs a) l) (no_repeats l) t) a m),
  distinct-of l (and_r (every (differs a) l) (no_repeats l) t),
)

pub of-distinct : (l : List (Vec ℤ)) → Distinct l → T (no_repeats l)
of-distinct [] d = tt
of-distinct (a ∷ l) d = and_in (every (differs a) l) (no_repeats l) (of-every (differs a) l new) (of-distinct l d.1)
  where
    new : (b : Vec ℤ) → b ∈ l → T (differs a b)
    new b m = test-fails (same_vector a b) (λ t. d.0 (subst (λ (b : Vec ℤ). b ∈ l) (sym (same-vectors a b t)) m))

-- ---- good lists
some-of : (k : ℕ) → T (not (eqb k 0)) → 0 < k
some-of zero t = absurd t
some-of (suc k) t = omega arith

of-some : (k : ℕ) → 0 < k → T (not (eqb k 0))
of-some k h = test-fails (eqb k 0) (λ t. omega (arith, eqb→eq k 0 t))

-- of one point
module _ (d : Vec ℕ) (p : ℕ) (l : List (Vec ℤ)) where
  abbrev has : Bool
  has = not (eqb (length l) 0)

  abbrev folded : Bool
  folded = every (λ a. eqb (index d a) p) l

  pub record GoodList : Type 0 where
    pub some : 0 < length l
    pub folds : {a : Vec ℤ} → a ∈ l → index d a ≡ p
    pub once : Distinct l

  pub list-good : T (good_list d p l) → GoodList
  list-good t =
      let u = and_r has (folded && no_repeats l) t in
      record {
        some = some-of (length l) (and_l has (folded && no_repeats l) t);
        folds = λ {a} m. eqb→eq (index d a) p (every_of (λ a. eqb (index d a) p) l (and_l folded (no_repeats l) u) a m);
        once = distinct-of l (and_r folded (no_repeats l) u);
      }

  pub good-list : GoodList → T (good_list d p l)
  good-list h =
      and_in has (folded && no_repeats l) (of-some (length l) h.some)
      (and_in folded (no_repeats l) (of-every (λ a. eqb (index d a) p) l (λ a m. rw (h.folds m) (eqb_refl p))) (of-distinct l h.once))

-- of all
module _ (d : Vec ℕ) (g : ℕ → List (Vec ℤ)) where
  pub good-of : T (all_below (λ p. good_list d p (g p)) (size d)) → Good d g
  good-of t = record { some = λ p l. (at p l).some; folds = λ p l m. (at p l).folds m; once = λ p l. (at p l).once }
    where
      at : (p : ℕ) → p < size d → GoodList d p (g p)
      at p l = list-good d p (g p) (below-of (λ p. good_list d p (g p)) (size d) t p l)

  pub good-in : Good d g → T (all_below (λ p. good_list d p (g p)) (size d))
  good-in h = of-below (λ p. good_list d p (g p)) (size d) (λ p l. good-list d p (g p) (at p l))
    where
      at : (p : ℕ) → p < size d → GoodList d p (g p)
      at p l = record { some = h.some p l; folds = λ m. h.folds p l m; once = h.once p l }

-- lists that agree are good together
module _ {d : Vec ℕ} {g : ℕ → List (Vec ℤ)} (h : ℕ → List (Vec ℤ)) (e : (p : ℕ) → p < size d → h p ≡ g p) where
  pub good-agree : Good d g → Good d h
  good-agree w = record {
    some = λ p l. rw (e p l) (w.some p l);
    folds = λ p l {a} m. w.folds p l (subst (λ l. a ∈ l) (e p l) m);
    once = λ p l. rw (e p l) (w.once p l);
  }

-- ---- equal lists and tables
pub lists-equal : (l m : List ℤ) → T (same_list l m) → l ≡ m
lists-equal [] [] t = refl
lists-equal [] (b ∷ m) t = absurd t
lists-equal (a ∷ l) [] t = absurd t
lists-equal (a ∷ l) (b ∷ m) t = ap₂ ◌∷◌ (same-eq a b (and_l (same a b) (same_list l m) t)) (lists-equal l m (and_r (same a b) (same_list l m) t))

pub list-same : (l : List ℤ) → T (same_list l l)
list-same [] = tt
list-same (a ∷ l) = and_in (same a a) (same_list l l) (same_refl a) (list-same l)

pub tables-equal : (x y : Table) → T (same_table x y) → x ≡ y
tables-equal x y t = λ i. record {
  addresses = lists-equal x.addresses y.addresses (and_r points addresses u) i;
  map = lists-equal x.map y.map (and_l maps (points && addresses) t) i;
  grg = lists-equal x.grg y.grg (and_l points addresses u) i;
}
  where
    maps : Bool
    maps = same_list x.map y.map

    points : Bool
    points = same_list x.grg y.grg

    addresses : Bool
    addresses = same_list x.addresses y.addresses

    u : T (points && addresses)
    u = and_r maps (points && addresses) t

pub table-same : (x : Table) → T (same_table x x)
table-same x =
    and_in (same_list x.map x.map) (same_list x.grg x.grg && same_list x.addresses x.addresses) (list-same x.map)
    (and_in (same_list x.grg x.grg) (same_list x.addresses x.addresses) (list-same x.grg) (list-same x.addresses))
