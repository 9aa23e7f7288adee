-- The worst pair up to a limit is two neighbours in Fibonacci's row, and there is no other.
use mathlib.Core.Path.{◌≡◌, refl, sym, ◌∙◌, ap₂, subst}
use Prim.Native.Nat.{ℕ, suc, ◌+◌, ◌≤◌, ◌<◌}
use native.Mathlib.Nat.{le_trans}
use native.Mathlib.Omega.{arith}
use Rattle.worst_pair.specs.Worst.{steps, UpTo, Worst, OnlyWorst}
use Rattle.worst_pair.proofs.Fibonacci.{fib, fib-next, fib-positive, fib-mono, most, least, taken, few}

-- ---- neighbours, of which the next is over the limit
module _ (n limit : ℕ) (low : fib (suc (suc n)) ≤ limit) (high : limit < fib (suc (suc (suc n)))) (bound : limit ≤ 1000000) where
  neighbours-steps : steps (fib (suc n)) (fib (suc (suc n))) ≡ suc n
  neighbours-steps = taken n 999 (let l = few (suc n) (le_trans low bound) in omega arith)

  pub neighbours-worst : Worst limit (fib (suc n)) (fib (suc (suc n)))
  neighbours-worst = record {
    up_to = record { first-low = fib-positive n; first-high = le_trans (fib-mono n) low; second-low = fib-positive (suc n); second-high = low };
    most = λ a b u. omega (arith, neighbours-steps, most n limit high 1000 a b u.first-low u.second-low u.first-high u.second-high);
    least-sum = λ a b u e. let l = at_least a b u e in let x = l.0 in let y = l.1 in omega arith;
    least_first = λ a b u e s. (at_least a b u e).0;
  }
    where
      at_least : (a b : ℕ) → UpTo limit a b → steps a b ≡ steps (fib (suc n)) (fib (suc (suc n))) → (fib (suc n) ≤ a) × (fib (suc (suc n)) ≤ b)
      at_least a b u e = least n limit high 1000 a b u.first-low u.second-low u.first-high u.second-high (omega (arith, neighbours-steps))

-- ---- no other
worst-unique : (limit a b c d : ℕ) → Worst limit a b → Worst limit c d → (c ≡ a) × (d ≡ b)
worst-unique limit a b c d v w =
    let same : steps c d ≡ steps a b = omega (arith, v.most c d w.up_to, w.most a b v.up_to) in
    let sum : c + d ≡ a + b = omega (arith, v.least-sum c d w.up_to same, w.least-sum a b v.up_to (sym same)) in
    let first : c ≡ a = omega (arith, v.least_first c d w.up_to same sum, w.least_first a b v.up_to (sym same) (sym sum)) in
    (first, omega arith)

only_one : {limit a b : ℕ} → Worst limit a b → OnlyWorst limit a b
only_one {limit} {a} {b} w = record { worst = w; only = λ c d v. worst-unique limit a b c d w v }

-- ---- the loop's two numbers
pub record Row (n x y : ℕ) : Type 0 where
  pub first : x ≡ fib (suc n)
  pub second : y ≡ fib (suc (suc n))

pub row-begun : Row 0 1 1
unfolding fib
row-begun = record { first = refl; second = refl }

pub row_next : {n x y : ℕ} → Row n x y → Row (suc n) y (x + y)
row_next {n} {x} {y} r = record { first = r.second; second = omega (arith, r.first, r.second, fib-next (suc n)) }

-- the theorem: where the next is over the limit, they are the worst pair, and no other is
pub row-worst : {n limit x y : ℕ} → Row n x y → y ≤ limit → limit < x + y → limit ≤ 1000000 → OnlyWorst limit x y × (suc n ≡ steps x y)
row-worst {n} {limit} {x} {y} r low high bound =
    let l : fib (suc (suc n)) ≤ limit = omega (arith, r.second) in
    let h : limit < fib (suc (suc (suc n))) = omega (arith, r.first, r.second, fib-next (suc n)) in (
      only_one (subst (λ (k : ℕ). Worst limit k y) (sym r.first) (subst (Worst limit (fib (suc n))) (sym r.second) (neighbours-worst n limit l h bound))),
      sym (ap₂ steps r.first r.second ∙ neighbours-steps n limit l h bound),
    )
