-- What the code keeps of a candidate: its sizes, and what it says of two candidates.
use mathlib.Core.Path.{◌≡◌, sym, ◌∙◌, ap, ap₂}
use mathlib.Core.List.{List, [], ◌∷◌}
use Prim.Native.Nat.{ℕ, zero, suc, ◌+◌, ◌<◌, ◌≤◌, zero-le}
use native.Mathlib.Nat.{le_trans, lt_of_le_of_lt}
use native.Mathlib.Numerals.{add-one}
use mir.Syntax.{w64}
use mir.Val.{SFits}
use mir.Facts.{to_z-of_z}
use native.Mathlib.Omega.{arith}
use lib.Dec.{T}
use lib.IntN.{ℤ, pos, nat_abs, ◌+ℤ◌, ◌*ℤ◌, ◌-ℤ◌}
use lib.ListN.{get_or}
use lib.Signed.{le_z, lt_z, ◌<ℤ◌, lt_z_yes}
use Rattle.integer.proofs.Parts.{ints, sum, difference}
use Rattle.integer.proofs.Test.{same_test}
use Rattle.integer.proofs.Size.{abs-add, sfits-abs}
use Rattle.integer.proofs.Fits.{held}
use Rattle.integer.proofs.Plain.{plain, fits-plain, plain-is, plain-within}
use Rattle.common.specs.Matrix.{Vec}
use Rattle.common.specs.Array.{vector_of, Sized}
use Rattle.common.proofs.Bounds.{p-sized}
use Rattle.mark_candidates.specs.declared.table.Ranges.{Ranges}
use Rattle.mark_candidates.specs.InnerProducts.{products, sum_over, length_squared, ordered, most}
use Rattle.mark_candidates.specs.InnerProducts as inner
use Rattle.mark_candidates.specs.ScaledCoordinates.{position}
use Rattle.mark_candidates.specs.MarkCandidates.{ranges_of}
use Rattle.mark_candidates.specs.Code.Table.{length_by, term_at, width_at, compared_at, rises, most_of}
use Rattle.mark_candidates.specs.Code.Marks.{longer, never_longer}
use Rattle.mark_candidates.proofs.LowestHighest.{lift, most-by, least_by}

-- ---- sizes
module _ {w lowest highest : List ℤ} (f : Sized 214748364800 w) (g : Sized 1000000 lowest) (h : Sized 1000000 highest) where
  pub width-size : (k : ℕ) → nat_abs (width_at w lowest highest k) ≤ 429496729600000000
  width-size k = plain-within {v = width_at w lowest highest k} (search (plain, p-sized) depth 12) tt

-- six numbers by a rule
pub six-sized : {n : ℕ} (x : ℕ → ℤ) → ((k : ℕ) → nat_abs (x k) ≤ n) → Sized n (x 0 ∷ x 1 ∷ x 2 ∷ x 3 ∷ x 4 ∷ x 5 ∷ [])
six-sized {n} x h = record { each = at }
  where
    at : (k : ℕ) → nat_abs (get_or (x 0 ∷ x 1 ∷ x 2 ∷ x 3 ∷ x 4 ∷ x 5 ∷ []) k (pos 0)) ≤ n
    at zero = h 0
    at (suc zero) = h 1
    at (suc (suc zero)) = h 2
    at (suc (suc (suc zero))) = h 3
    at (suc (suc (suc (suc zero)))) = h 4
    at (suc (suc (suc (suc (suc zero))))) = h 5
    at (suc (suc (suc (suc (suc (suc k)))))) = zero-le

-- ---- a sum that a loop adds up
abbrev pub sum_to : (ℕ → ℤ) → ℕ → ℤ
sum_to f zero = pos 0
sum_to f (suc n) = sum_to f n +ℤ f n

pub six-summed : (f : ℕ → ℤ) → sum_to f 6 ≡ f 0 +ℤ f 1 +ℤ f 2 +ℤ f 3 +ℤ f 4 +ℤ f 5
six-summed f = ap (λ z. z +ℤ f 1 +ℤ f 2 +ℤ f 3 +ℤ f 4 +ℤ f 5) (zero-sum (f 0))
  where
    zero-sum : (z : ℤ) → pos 0 +ℤ z ≡ z
    zero-sum z = omega (arith, ints, sum (pos 0) z)

-- one more, as the code adds it
module _ (s x : ℤ) {p n : ℕ} (h : nat_abs s ≤ p) (l : nat_abs x ≤ n) (few : p + n < 0x8000000000000000) where
  pub added-fits : SFits w64 (s +ℤ x)
  added-fits = sfits-abs (lt_of_le_of_lt (abs-add s x) (omega arith))

  pub added-small : nat_abs (held (s +ℤ x)) ≤ p + n
  added-small = rw (to_z-of_z {w = w64} added-fits) (le_trans (abs-add s x) (omega arith))

  pub added : (f : ℕ → ℤ) (k : ℕ) → s ≡ sum_to f k → x ≡ f k → held (s +ℤ x) ≡ sum_to f (k + 1)
  added f k d e = to_z-of_z {w = w64} added-fits ∙ ap₂ ◌+ℤ◌ d e ∙ ap (sum_to f) (sym (add-one k))

-- ---- the products of a candidate, as the code works them out
module _ {a b : List ℤ} (f : Sized 214748364800 a) (g : Sized 1000000 b) (k : ℕ) where
  pub term-is : held (held (get_or a k (pos 0)) *ℤ held (get_or b k (pos 0))) ≡ term_at a b k
  term-is = plain-is (search (plain, p-sized) depth 12) tt

  pub term-size : nat_abs (held (held (get_or a k (pos 0)) *ℤ held (get_or b k (pos 0)))) ≤ 214748364800000000
  term-size = plain-within {v = held (held (get_or a k (pos 0)) *ℤ held (get_or b k (pos 0)))} (search (plain, p-sized) depth 12) tt

module _ {w lowest highest : List ℤ} (f : Sized 214748364800 w) (g : Sized 1000000 lowest) (h : Sized 1000000 highest) (k : ℕ) where
  pub width-fits : SFits w64 (held (get_or w k (pos 0)) *ℤ held (held (get_or highest k (pos 0)) -ℤ held (get_or lowest k (pos 0))))
  width-fits = fits-plain (search (plain, p-sized) depth 12) tt

  pub width-is : held (held (get_or w k (pos 0)) *ℤ held (held (get_or highest k (pos 0)) -ℤ held (get_or lowest k (pos 0)))) ≡ width_at w lowest highest k
  width-is = plain-is (search (plain, p-sized) depth 12) tt

-- ---- two candidates, at v and w
module _ (s : List ℤ) (n : ℕ) (r : Ranges) (o : T (ordered (ranges_of r.lowest r.highest))) (a b : Vec ℤ) where
  abbrev v : Vec ℤ
  v = position n (vector_of s) a

  abbrev w : Vec ℤ
  w = position n (vector_of s) b

  most-is : most_of (compared_at s n r a) (compared_at s n r b) ≡ most (ranges_of r.lowest r.highest) v w
  unfolding rises length_by
  most-is = sym (most-by (ranges_of r.lowest r.highest) o v w)

  pub nearest-test : never_longer (compared_at s n r a) (compared_at s n r b) ≡ inner.never_longer (ranges_of r.lowest r.highest) v w
  nearest-test = ap (λ z. le_z z (pos 0)) most-is

  pub beaten-test : longer (compared_at s n r a) (compared_at s n r b) ≡ inner.shorter (ranges_of r.lowest r.highest) w v
  unfolding rises length_by
  beaten-test =
      turned (length_squared (products r.highest) v -ℤ length_squared (products r.highest) w) (sum_over (lift (ranges_of r.lowest r.highest) o v w))
      ∙ ap (λ z. lt_z z (pos 0)) (sym (least_by (ranges_of r.lowest r.highest) o v w))
    where
      turned : (a b : ℤ) → lt_z (pos 0) (a -ℤ b) ≡ lt_z (b -ℤ a) (pos 0)
      turned a b =
          same_test (lt_z (pos 0) (a -ℤ b)) (lt_z (b -ℤ a) (pos 0))
          (λ t. let h : pos 0 <ℤ (a -ℤ b) = lt_z_yes t in (below h).lt) (λ t. let h : (b -ℤ a) <ℤ pos 0 = lt_z_yes t in (above h).lt)
        where
          below : pos 0 <ℤ (a -ℤ b) → (b -ℤ a) <ℤ pos 0
          below h = omega (arith, ints, difference a b, difference b a)

          above : (b -ℤ a) <ℤ pos 0 → pos 0 <ℤ (a -ℤ b)
          above h = omega (arith, ints, difference a b, difference b a)
