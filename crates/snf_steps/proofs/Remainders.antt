-- The loop of the extended gcd, with its count: where it ends, and one more division.
use mathlib.Core.Path.{◌≡◌, refl, sym, ◌∙◌, ap}
use mathlib.Core.Bool.{Bool, true, false, ◌&&◌, cond}
use Prim.Native.Nat.{ℕ, zero, suc, ◌+◌}
use native.Mathlib.Omega.{arith}
use lib.IntN.{ℤ, ◌*ℤ◌, ◌-ℤ◌}
use Rattle.std.specs.Prelude.{Option, Some, None}
use Rattle.integer.specs.Checked.{fits64, is_zero}
use Rattle.integer.specs.Division.{div_euclid, rem_euclid}
use Rattle.snf_steps.specs.Then.{◌then◌, provided}
use Rattle.snf_steps.specs.declared.gcd.Euclid.{Euclid}
use Rattle.snf_steps.specs.Gcd.{start, less_fits, next, step, euclid, extended_gcd, divisions, steps, counted_gcd}
use Rattle.snf_steps.specs.Code.SmallWalk.{after, walked}
use Rattle.snf_steps.proofs.Accepted.{Accepted, accepted, overflowed}
use Rattle.snf_steps.proofs.Bezout as gcd

-- ---- one division, by its tests
abbrev pub whole : ℤ → ℤ → Option ℤ
whole a d = provided (fits64 (div_euclid a d)) (div_euclid a d)

abbrev pub less : (x q y : ℤ) → Option ℤ
less x q y = provided (less_fits x q y) (x -ℤ q *ℤ y)

abbrev pub with-s : Euclid → ℤ → ℤ → Option Euclid
with-s e s t = Some (record { r = e.r1; r1 = rem_euclid e.r e.r1; s = e.s1; s1 = s; t = e.t1; t1 = t })

abbrev pub with-quotient : Euclid → ℤ → Option Euclid
with-quotient e q = less e.s q e.s1 then λ s. less e.t q e.t1 then λ t. with-s e s t

pub step-by : (e : Euclid) {r : Option ℤ} → r ≡ whole e.r e.r1 → step e ≡ (r then with-quotient e)
unfolding step
step-by e {r} h = first (fits64 q) ∙ ap (λ r. r then with-quotient e) (sym h)
  where
    q : ℤ
    q = div_euclid e.r e.r1

    both : (b c : Bool) (s t : ℤ) → provided (b && c) (record { r = e.r1; r1 = rem_euclid e.r e.r1; s = e.s1; s1 = s; t = e.t1; t1 = t }) ≡ (provided b s then λ s. provided c t then λ t. with-s e s t)
    both true true s t = refl
    both true false s t = refl
    both false c s t = refl

    first : (a : Bool) → provided (a && (less_fits e.s q e.s1 && less_fits e.t q e.t1)) (next q e) ≡ (provided a q then with-quotient e)
    first true = both (less_fits e.s q e.s1) (less_fits e.t q e.t1) (e.s -ℤ q *ℤ e.s1) (e.t -ℤ q *ℤ e.t1)
    first false = refl

-- ---- the walk
pub begun : (a b : ℤ) → counted_gcd a b ≡ walked 1000 0 (start a b)
unfolding extended_gcd
begun a b = ap (λ (k : ℕ). extended_gcd a b then after k) (none_before (steps a b))
  where
    none_before : (n : ℕ) → n ≡ 0 + n
    none_before n = omega arith

no_more : (i : ℕ) → i + 0 ≡ i
no_more i = omega arith

pub ended : (n i : ℕ) (e : Euclid) → is_zero e.r1 ≡ true → walked n i e ≡ after i e
unfolding euclid divisions
ended zero i e h = ap (λ (k : ℕ). after k e) (no_more i)
ended (suc n) i e h =
    ap (λ (t : Bool). cond t (Some e) (step e then euclid n) then after (i + cond t 0 (suc (divisions n e.r1 (rem_euclid e.r e.r1))))) h
    ∙ ap (λ (k : ℕ). after k e) (no_more i)

pub none_left : {n : ℕ} (i : ℕ) (e : Euclid) → n ≡ 0 → walked n i e ≡ after i e
unfolding euclid divisions
none_left i e h = ap (λ (n : ℕ). walked n i e) h ∙ ap (λ (k : ℕ). after k e) (no_more i)

module _ (n i : ℕ) (e : Euclid) where
  abbrev more : ℕ
  more = divisions n e.r1 (rem_euclid e.r e.r1)

  one_more : (k : ℕ) → i + suc k ≡ i + 1 + k
  one_more k = omega arith

  stepped : (m : Option Euclid) → Accepted (λ f. f ≡ gcd.divided e) m → (m then euclid n then after (i + suc more)) ≡ (m then walked n (i + 1))
  stepped (Some f) (accepted p) = ap (λ (k : ℕ). euclid n f then after k) (one_more more ∙ ap (λ (g : Euclid). i + 1 + divisions n g.r g.r1) (sym p))
  stepped None overflowed = refl

  pub divided : {k : ℕ} {r : Option Euclid} → k ≡ suc n → is_zero e.r1 ≡ false → r ≡ step e → walked k i e ≡ (r then walked n (i + 1))
  unfolding euclid divisions
  divided h t p =
      ap (λ (k : ℕ). walked k i e) h ∙ ap (λ (t : Bool). cond t (Some e) (step e then euclid n) then after (i + cond t 0 (suc more))) t
      ∙ stepped (step e) (gcd.step-divides e) ∙ ap (λ (r : Option Euclid). r then walked n (i + 1)) (sym p)
