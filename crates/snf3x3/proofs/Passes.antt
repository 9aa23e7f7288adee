-- One pass of the 100-pass walk: what the code's round leaves decides what is left to do.
use mathlib.Core.Path.{◌≡◌, ◌∙◌, ap}
use Prim.Native.Nat.{ℕ, suc}
use Rattle.std.specs.Prelude.{Option}
use Rattle.common.specs.declared.Refusal.TheVariants.{NotConverged}
use Rattle.snf_steps.specs.Stages.{Triple, Outcome}
use Rattle.snf3x3.specs.Snf3x3.{refused, after, round, rounds}

pub none_left : {k : ℕ} (n : ℕ) (x : Triple) → k ≡ 0 → rounds k n x ≡ refused NotConverged
unfolding rounds
none_left n x e = ap (λ (k : ℕ). rounds k n x) e

pub one_pass : {k : ℕ} (m n : ℕ) (x : Triple) {o : Option Outcome} → k ≡ suc m → round x ≡ o → rounds k n x ≡ after (suc n) (rounds m (suc n)) o
unfolding rounds
one_pass m n x e h = ap (λ (k : ℕ). rounds k n x) e ∙ ap (after (suc n) (rounds m (suc n))) h
