-- The numbers along an axis: in either order each number of a span stands there once, and no other.
use mathlib.Core.Path.{◌≡◌, refl, sym, ◌∙◌, ap}
use mathlib.Core.Logic.{◌⊎◌, inl, inr, ⊎_elim}
use mathlib.Core.Bool.{Bool, true, false, cond}
use Prim.Native.Nat.{ℕ, ◌+◌, ◌-◌, ◌≤◌, ◌<◌, zero-le}
use native.Mathlib.Nat.{not-suc-le-zero, add-le-add}
use native.Mathlib.Omega.{arith}
use lib.Dec.{T, ltb}
use lib.IntN.{ℤ, pos, negsuc, nat_abs, ◌+ℤ◌, ◌-ℤ◌}
use lib.Signed.{◌≤ℤ◌, ◌<ℤ◌, lt_z, lt_z_yes, lt_z_no}
use borrow.Author.Tests.{ltb-true, ltb-false, lt-ltb, le-ltb}
use Rattle.integer.specs.Parts.{up, dn}
use Rattle.integer.proofs.Parts.{ints, eq-parts, sum, difference}
use Rattle.integer.proofs.Order.{slack, nonneg-dn}
use Rattle.integer.proofs.Test.{pick-cases, holds, fails}
use Rattle.bzsearch.proofs.Spans.{within-16, span-low, span-high}
use Rattle.bzsearch.specs.Search.{Span, Numbers, number_at, max_z, min_z, to_nat, count, count_of, upwards, from_zero, below_zero, fft_order, nearby, clipped, span_fits}

-- ---- one of two
pub below : (a b : ℕ) → (a < b) ⊎ (b ≤ a)
below a b = go (ltb a b) refl
  where
    go : (t : Bool) → ltb a b ≡ t → (a < b) ⊎ (b ≤ a)
    go true e = inl (ltb-true a b e)
    go false e = inr (ltb-false a b e)

pub belowℤ : (a b : ℤ) → (a <ℤ b) ⊎ (b ≤ℤ a)
belowℤ a b = go (lt_z a b) refl
  where
    go : (t : Bool) → lt_z a b ≡ t → (a <ℤ b) ⊎ (b ≤ℤ a)
    go true e = inl (lt_z_yes (holds e))
    go false e = inr (lt_z_no (fails e))

-- lo ≤ z ≤ hi
pub record InSpan (r : Span) (z : ℤ) : Type 0 where
  pub low : r.lo ≤ℤ z
  pub high : z ≤ℤ r.hi

pub record Lists (x : Numbers) (r : Span) : Type 0 where
  pub inside : (k : ℕ) → k < x.n → InSpan r (number_at x k)
  pub once : (i j : ℕ) → i < x.n → j < x.n → number_at x i ≡ number_at x j → i ≡ j
  pub each : (z : ℤ) → InSpan r z → (k : ℕ) × (k < x.n) × (number_at x k ≡ z)

-- ---- the greater and the less of two
max-is : (a b : ℤ) → (a ≤ℤ max_z a b) × (b ≤ℤ max_z a b) × ((z : ℤ) → a ≤ℤ z → b ≤ℤ z → max_z a b ≤ℤ z)
max-is a b =
    pick-cases (lt_z a b) b a (λ m. (a ≤ℤ m) × (b ≤ℤ m) × ((z : ℤ) → a ≤ℤ z → b ≤ℤ z → m ≤ℤ z))
    (λ t. let h : a <ℤ b = lt_z_yes t in (omega (arith, ints), omega (arith, ints), λ z p q. q))
    (λ t. let h : b ≤ℤ a = lt_z_no t in (omega (arith, ints), h, λ z p q. p))

min-is : (a b : ℤ) → (min_z a b ≤ℤ a) × (min_z a b ≤ℤ b) × ((z : ℤ) → z ≤ℤ a → z ≤ℤ b → z ≤ℤ min_z a b)
min-is a b =
    pick-cases (lt_z b a) b a (λ m. (m ≤ℤ a) × (m ≤ℤ b) × ((z : ℤ) → z ≤ℤ a → z ≤ℤ b → z ≤ℤ m))
    (λ t. let h : b <ℤ a = lt_z_yes t in (omega (arith, ints), omega (arith, ints), λ z p q. q))
    (λ t. let h : a ≤ℤ b = lt_z_no t in (omega (arith, ints), h, λ z p q. p))

-- ---- how many there are
up-nat : (z : ℤ) → to_nat z ≡ up z
up-nat (pos n) = refl
up-nat (negsuc n) = refl

no-dn : (z : ℤ) (k : ℕ) → k < to_nat z → dn z ≡ 0
no-dn (pos n) k h = refl
no-dn (negsuc n) k h = absurd (not-suc-le-zero h)

-- the number at k of the span from lo to hi
in_count : (lo hi : ℤ) (k : ℕ) → k < count lo hi → (lo +ℤ pos k) ≤ℤ hi
in_count lo hi k h =
    omega (arith, ints, up-nat (hi +ℤ pos 1 -ℤ lo), no-dn (hi +ℤ pos 1 -ℤ lo) k h, sum hi (pos 1), difference (hi +ℤ pos 1) lo, sum lo (pos k))

count-in : (lo hi : ℤ) (k : ℕ) → (lo +ℤ pos k) ≤ℤ hi → k < count lo hi
count-in lo hi k h = omega (arith, ints, up-nat (hi +ℤ pos 1 -ℤ lo), sum hi (pos 1), difference (hi +ℤ pos 1) lo, sum lo (pos k))

nat-mono : (x y : ℤ) → x ≤ℤ y → to_nat x ≤ to_nat y
nat-mono (pos n) y h = omega (arith, ints, up-nat y)
nat-mono (negsuc n) y h = zero-le

-- a span within another
count-mono : (a b lo hi : ℤ) → a ≤ℤ lo → hi ≤ℤ b → count lo hi ≤ count a b
count-mono a b lo hi h k =
    nat-mono (hi +ℤ pos 1 -ℤ lo) (b +ℤ pos 1 -ℤ a) (omega (arith, ints, sum hi (pos 1), sum b (pos 1), difference (hi +ℤ pos 1) lo, difference (b +ℤ pos 1) a))

-- the place of a number from lo on
pub from-lo : (lo z : ℤ) → lo ≤ℤ z → lo +ℤ pos (to_nat (z -ℤ lo)) ≡ z
from-lo lo z h = omega (arith, ints, up-nat (z -ℤ lo), nonneg-dn (slack h), difference z lo, sum lo (pos (to_nat (z -ℤ lo))))

back : (a b : ℕ) → a + b - a ≡ b
back a b = omega arith

same_place : (lo : ℤ) (i j : ℕ) → lo +ℤ pos i ≡ lo +ℤ pos j → i ≡ j
same_place lo i j e = omega (arith, ints, sum lo (pos i), sum lo (pos j))

-- ---- upwards
module _ (r : Span) where
  up_at : (k : ℕ) → k < count_of r → number_at (upwards r) k ≡ r.lo +ℤ pos k
  up_at k h = ap (λ t. cond t (r.lo +ℤ pos k) (pos 0 +ℤ pos (k - count_of r))) (lt-ltb k (count_of r) h)

  pub upwards-lists : Lists (upwards r) r
  upwards-lists = record {
    inside = λ k h. rw (up_at k h) (record { low = omega (arith, ints, sum r.lo (pos k)); high = in_count r.lo r.hi k h });
    once = λ i j h k e. same_place r.lo i j (sym (up_at i h) ∙ e ∙ up_at j k);
    each = at;
  }
    where
      at : (z : ℤ) → InSpan r z → (k : ℕ) × (k < count_of r) × (number_at (upwards r) k ≡ z)
      at z s =
          let e = from-lo r.lo z s.low in
          let h : to_nat (z -ℤ r.lo) < count_of r = count-in r.lo r.hi (to_nat (z -ℤ r.lo)) (rw e s.high) in
          (to_nat (z -ℤ r.lo), h, up_at (to_nat (z -ℤ r.lo)) h ∙ e)

-- ---- from 0 on, then those below 0
module _ (r : Span) where
  abbrev p : Span
  p = from_zero r

  abbrev q : Span
  q = below_zero r

  -- of two orders
  first-at : (k : ℕ) → k < count_of p → number_at (fft_order r) k ≡ p.lo +ℤ pos k
  first-at k h = ap (λ t. cond t (p.lo +ℤ pos k) (r.lo +ℤ pos (k - count_of p))) (lt-ltb k (count_of p) h)

  then_at : (k : ℕ) → count_of p ≤ k → number_at (fft_order r) k ≡ r.lo +ℤ pos (k - count_of p)
  then_at k h = ap (λ t. cond t (p.lo +ℤ pos k) (r.lo +ℤ pos (k - count_of p))) (le-ltb k (count_of p) h)

  first-in : (k : ℕ) → k < count_of p → (pos 0 ≤ℤ (p.lo +ℤ pos k)) × InSpan r (p.lo +ℤ pos k)
  first-in k h =
      let m = max-is r.lo (pos 0) in
      let b = in_count p.lo r.hi k h in
      (omega (arith, ints, m.1, sum p.lo (pos k)), record { low = omega (arith, ints, m.0, sum p.lo (pos k)); high = b })

  then-in : (k : ℕ) → k < count_of q → ((r.lo +ℤ pos k) <ℤ pos 0) × InSpan r (r.lo +ℤ pos k)
  then-in k h =
      let m = min-is r.hi (negsuc 0) in
      let b = in_count r.lo q.hi k h in
      (omega (arith, ints, m.1, b), record { low = omega (arith, ints, sum r.lo (pos k)); high = omega (arith, ints, m.0, b) })

  pub fft-lists : Lists (fft_order r) r
  fft-lists = record { inside = inside; once = once; each = each }
    where
      later : (k : ℕ) → k < count_of p + count_of q → count_of p ≤ k → k - count_of p < count_of q
      later k h l = omega arith

      inside : (k : ℕ) → k < count_of p + count_of q → InSpan r (number_at (fft_order r) k)
      inside k h = ⊎_elim (λ l. rw (first-at k l) (first-in k l).1) (λ l. rw (then_at k l) (then-in (k - count_of p) (later k h l)).1) (below k (count_of p))

      clash : (i j : ℕ) → i < count_of p → j < count_of q → p.lo +ℤ pos i ≡ r.lo +ℤ pos j → ⊥
      clash i j h k e = let a = (first-in i h).0 in let b = (then-in j k).0 in omega (arith, ints, eq-parts e)

      once : (i j : ℕ) → i < count_of p + count_of q → j < count_of p + count_of q → number_at (fft_order r) i ≡ number_at (fft_order r) j → i ≡ j
      once i j h k e =
          ⊎_elim
          (λ l. ⊎_elim (λ m. same_place p.lo i j (sym (first-at i l) ∙ e ∙ first-at j m)) (λ m. absurd (clash i (j - count_of p) l (later j k m) (sym (first-at i l) ∙ e ∙ then_at j m))) (below j (count_of p)))
          (λ l. ⊎_elim (λ m. absurd (clash j (i - count_of p) m (later i h l) (sym (first-at j m) ∙ sym e ∙ then_at i l))) (λ m. let f = same_place r.lo (i - count_of p) (j - count_of p) (sym (then_at i l) ∙ e ∙ then_at j m) in omega arith) (below j (count_of p)))
          (below i (count_of p))

      each : (z : ℤ) → InSpan r z → (k : ℕ) × (k < count_of p + count_of q) × (number_at (fft_order r) k ≡ z)
      each z s = ⊎_elim negative other (belowℤ z (pos 0))
        where
          other : pos 0 ≤ℤ z → (k : ℕ) × (k < count_of p + count_of q) × (number_at (fft_order r) k ≡ z)
          other h =
              let e = from-lo p.lo z ((max-is r.lo (pos 0)).2 z s.low h) in
              let l = count-in p.lo r.hi (to_nat (z -ℤ p.lo)) (rw e s.high) in
              (to_nat (z -ℤ p.lo), omega arith, first-at (to_nat (z -ℤ p.lo)) l ∙ e)

          negative : z <ℤ pos 0 → (k : ℕ) × (k < count_of p + count_of q) × (number_at (fft_order r) k ≡ z)
          negative h =
              let e = from-lo r.lo z s.low in
              let l = count-in r.lo q.hi (to_nat (z -ℤ r.lo)) (rw e ((min-is r.hi (negsuc 0)).2 z s.high (omega (arith, ints)))) in
              (count_of p + to_nat (z -ℤ r.lo), omega arith, then_at (count_of p + to_nat (z -ℤ r.lo)) (omega arith) ∙ ap (λ (i : ℕ). r.lo +ℤ pos i) (back (count_of p) (to_nat (z -ℤ r.lo))) ∙ e)

-- ---- clipped to -2..2
pub clipped-in : (r : Span) (z : ℤ) → InSpan r z → InSpan nearby z → InSpan (clipped r) z
clipped-in r z s t = record { low = (max-is r.lo (negsuc 1)).2 z s.low t.low; high = (min-is r.hi (pos 2)).2 z s.high t.high }

pub clipped-of : (r : Span) (z : ℤ) → InSpan (clipped r) z → InSpan r z × InSpan nearby z
clipped-of r z s =
    let a = max-is r.lo (negsuc 1) in
    let b = min-is r.hi (pos 2) in (
      record { low = omega (arith, ints, a.0, s.low); high = omega (arith, ints, b.0, s.high) },
      record { low = omega (arith, ints, a.1, s.low); high = omega (arith, ints, b.1, s.high) },
    )

pub clipped-few : (r : Span) → (fft_order (clipped r)).n ≤ 5
clipped-few r =
    let c = clipped r in
    let a = max-is c.lo (pos 0) in
    let b = min-is c.hi (negsuc 0) in
    add-le-add (count-mono (pos 0) (pos 2) (from_zero c).lo c.hi a.1 (min-is r.hi (pos 2)).1)
    (count-mono (negsuc 1) (negsuc 0) c.lo (below_zero c).hi (max-is r.lo (negsuc 1)).1 b.1)

-- within -16..16
module _ (r : Span) (t : T (span_fits r)) where
  pub upwards-few : (upwards r).n ≤ 33
  upwards-few = count-mono (negsuc 15) (pos 16) r.lo r.hi (span-low r t) (span-high r t)

  pub span-size : (z : ℤ) → InSpan r z → nat_abs z ≤ 16
  span-size z s =
      let low : negsuc 15 ≤ℤ z = omega (arith, ints, span-low r t, s.low) in
      let high : z ≤ℤ pos 16 = omega (arith, ints, span-high r t, s.high) in
      within-16 z low high
