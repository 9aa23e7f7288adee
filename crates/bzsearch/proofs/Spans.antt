-- Spans: how many numbers one has, and that those from 0 on and then those below lie within -16..16.
use mathlib.Core.Bool.{cond}
use mathlib.Core.Path.{◌≡◌, ◌∙◌, ap, ap₂}
use Prim.Native.Nat.{ℕ, ◌+◌, ◌-◌, ◌≤◌, ◌<◌}
use native.Mathlib.Omega.{arith}
use borrow.Author.Tests.{ltb-false}
use lib.Dec.{T, ltb, ltb→lt}
use lib.IntN.{ℤ, pos, negsuc, nat_abs, ◌+ℤ◌, ◌-ℤ◌}
use lib.Signed.{◌≤ℤ◌, ◌<ℤ◌, le_z, lt_z, le_z_yes, lt_z_yes, lt_z_no}
use Rattle.integer.specs.Parts.{up, dn}
use Rattle.integer.proofs.Parts.{ints, sum, difference}
use Rattle.integer.proofs.Size.{abs-between}
use Rattle.integer.proofs.Test.{is_false, and_l, and_r, pick-cases}
use Rattle.bzsearch.specs.Search.{Room, Span, number_at, to_nat, count, count_of, from_zero, below_zero, fft_order, span_fits}

-- ---- which of two
less-cases : {A : Type 0} (P : A → Type 0) (a b : ℤ) (x y : A) → (a ≤ℤ b → P x) → (b ≤ℤ a → P y) → P (cond (lt_z a b) x y)
less-cases P a b x y f g = pick-cases (lt_z a b) x y P (λ t. f (weaker (lt_z_yes t))) (λ t. g (lt_z_no t))
  where
    weaker : a <ℤ b → a ≤ℤ b
    weaker h = omega (arith, ints)

-- ---- how many numbers there are
to_nat-most : (z : ℤ) {m : ℕ} → z ≤ℤ pos m → to_nat z ≤ m
to_nat-most (pos n) h = omega (arith, ints)
to_nat-most (negsuc n) h = omega arith

to_nat-below : (z : ℤ) {k : ℕ} → k < to_nat z → pos k <ℤ z
to_nat-below (pos n) h = omega (arith, ints)
to_nat-below (negsuc n) h = absurd (never h)
  where
    never : {k : ℕ} → k < 0 → ⊥
    never h = omega arith

module _ (lo hi : ℤ) where
  -- one more than hi less lo
  abbrev pub reach : ℤ
  reach = hi +ℤ pos 1 -ℤ lo

  reach-parts : up reach + (dn hi + up lo) ≡ dn reach + (up hi + 1 + dn lo)
  reach-parts = omega (arith, sum hi (pos 1), difference (hi +ℤ pos 1) lo)

  count_most : (m : ℕ) → reach ≤ℤ pos m → count lo hi ≤ m
  count_most m h = to_nat-most reach h

  -- the k-th number from lo lies below hi
  below-count : (k : ℕ) → k < count lo hi → (lo +ℤ pos k) ≤ℤ hi
  below-count k h = omega (arith, ints, sum lo (pos k), reach-parts, to_nat-below reach h)

-- ---- numbers within -16..16
pub within-16 : (z : ℤ) → negsuc 15 ≤ℤ z → z ≤ℤ pos 16 → nat_abs z ≤ 16
within-16 z l h = omega (arith, abs-between z 17 (omega (arith, ints)))

run-size : (lo hi : ℤ) → negsuc 15 ≤ℤ lo → hi ≤ℤ pos 16 → (k : ℕ) → k < count lo hi → nat_abs (lo +ℤ pos k) ≤ 16
run-size lo hi l h k o = let b = below-count lo hi k o in within-16 (lo +ℤ pos k) (omega (arith, ints, sum lo (pos k))) (omega (arith, ints, sum lo (pos k)))

module _ (r : Span) (t : T (span_fits r)) where
  pub span-low : negsuc 15 ≤ℤ r.lo
  span-low = le_z_yes (and_l (le_z (negsuc 15) r.lo) (le_z r.hi (pos 16)) t)

  pub span-high : r.hi ≤ℤ pos 16
  span-high = le_z_yes (and_r (le_z (negsuc 15) r.lo) (le_z r.hi (pos 16)) t)

  -- ---- from 0 on, and below 0
  abbrev from : Span
  from = from_zero r

  abbrev below : Span
  below = below_zero r

  from_low : pos 0 ≤ℤ from.lo
  from_low = less-cases (λ z. pos 0 ≤ℤ z) r.lo (pos 0) (pos 0) r.lo (λ _. omega (arith, ints)) (λ h. h)

  below-high : below.hi ≤ℤ negsuc 0
  below-high = less-cases (λ z. z ≤ℤ negsuc 0) (negsuc 0) r.hi (negsuc 0) r.hi (λ _. omega (arith, ints)) (λ h. h)

  fft-size : (k : ℕ) → k < count_of from + count_of below → nat_abs (number_at (fft_order r) k) ≤ 16
  fft-size k o =
      pick-cases (ltb k (count_of from)) (from.lo +ℤ pos k) (r.lo +ℤ pos (k - count_of from)) (λ z. nat_abs z ≤ 16)
      (λ t. run-size from.lo r.hi (omega (arith, ints, from_low)) span-high k (ltb→lt k (count_of from) t))
      (λ t. run-size r.lo below.hi span-low (omega (arith, ints, below-high)) (k - count_of from) (omega (arith, ltb-false k (count_of from) (is_false (ltb k (count_of from)) t))))

  pub fft-room : Room (fft_order r)
  fft-room = record {
    each = fft-size;
    few = omega (arith, count_most from.lo r.hi 17 (omega (arith, ints, reach-parts from.lo r.hi, from_low, span-high)), count_most r.lo below.hi 16 (omega (arith, ints, reach-parts r.lo below.hi, below-high, span-low)));
  }

-- ---- the numbers as the code puts them together, from ends that its locals hold
pub fft-of : (r : Span) {f b : Span} {flo fhi blo bhi lo : ℤ} {n m : ℕ} → f ≡ from_zero r → b ≡ below_zero r → flo ≡ f.lo → fhi ≡ f.hi → blo ≡ b.lo → bhi ≡ b.hi → lo ≡ r.lo
    → n ≡ count flo fhi → m ≡ count blo bhi → record { a = flo; low = n; b = lo; n = n + m } ≡ fft_order r
fft-of r {flo} {n} {m} f b p q u v l d e =
    let x : flo ≡ (from_zero r).lo = p ∙ ap (λ s. s.lo) f in
    let y : n ≡ count_of (from_zero r) = d ∙ ap₂ count p q ∙ ap count_of f in
    let z : m ≡ count_of (below_zero r) = e ∙ ap₂ count u v ∙ ap count_of b in
    λ i. record { a = x i; low = y i; b = l i; n = y i + z i }
