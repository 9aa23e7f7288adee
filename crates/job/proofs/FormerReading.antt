-- Two words are eight bytes, so that the join reads what was read before.
use mathlib.Core.Path.{◌≡◌, refl, sym, ◌∙◌, ap}
use mathlib.Core.Bool.{Bool, true, false}
use mathlib.Core.Logic.{inl, inr}
use mathlib.Core.List.{List}
use Prim.Native.Nat.{ℕ, suc, ◌+◌, ◌*◌}
use native.Mathlib.Omega.{arith}
use lib.Ieee.{Float, binary64, of_bits}
use lib.Ieee.Scale.{finite}
use Rattle.job.specs.Job.{little_endian, word, float}
use Rattle.job.specs.FormerReading.{former_float, SameNumber, SameReading}

two-words : (b : List ℕ) (at : ℕ) → word b at + 0x100000000 * word b (at + 4) ≡ little_endian b at 8
unfolding word
two-words b at =
    let past : at + 4 ≡ suc (suc (suc (suc at))) = omega arith in
    omega (arith, ap (λ p. little_endian b p 4) past)

same-number : {x y : Float} → x ≡ y → SameNumber x y
same-number {x} {y} e = go (finite x) refl
  where
    go : (t : Bool) → finite x ≡ t → SameNumber x y
    go true f = inl (f, e)
    go false f = inr (f, ap finite (sym e) ∙ f)

pub same-reading : (b : List ℕ) (at : ℕ) → SameReading b at
unfolding float former_float
same-reading b at =
    let e = ap (of_bits binary64) (two-words b at) in
    record { same = e; number = same-number e }
