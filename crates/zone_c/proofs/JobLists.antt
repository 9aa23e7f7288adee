-- The bytes of a listing are a count that an i64 holds.
use mathlib.Core.Path.{◌≡◌, refl, sym, subst}
use mathlib.Core.Bool.{true, false}
use mathlib.Core.List.{List}
use Prim.Native.Nat.{ℕ, ◌≤◌, ◌<◌}
use native.Mathlib.Nat.{lt_of_le_of_lt}
use lib.Dec.{leb, leb→le}
use lib.ListN.{length}
use Rattle.std.specs.Prelude.{Bool, Result, Ok, Err, IfOk}
use Rattle.integer.proofs.Test.{holds}
use Rattle.common.specs.declared.Refusal.{Refusal}
use Rattle.common.specs.declared.Refusal.TheVariants.{WrongLength}
use Rattle.common.specs.Tested.{require, Accepted}
use Rattle.common.proofs.Tests.{same-ok, refused-not-ok}
use Rattle.zone.specs.declared.Finished.{Finished}
use Rattle.zone_steps.specs.Steps.{Rooms, Outcome}
use Rattle.zone_list.specs.List.{step_by, run_job, text, list}

-- ---- a listing that was printed had room
module _ (job : List ℕ) (r : Rooms) (n : ℕ) where
  bytes_below : (m : ℕ) → (list job r n).answer ≡ Ok m → m ≤ n
  unfolding list
  bytes_below m = let o = run_job job r in go o.answer o (leb (length (text job r)) n) refl
    where
      go : (a : Result Finished Refusal) (o : Outcome Finished) (b : Bool) → leb (length (text job r)) n ≡ b
          → (step_by (require b WrongLength Accepted) (length (text job r)) r a o).answer ≡ Ok m → m ≤ n
      go (Ok _) o true p e = subst (λ (k : ℕ). k ≤ n) (same-ok e) (leb→le (length (text job r)) n (holds p))
      go (Ok _) o false p e = absurd (refused-not-ok e)
      go (Err x) o b p e = absurd (refused-not-ok e)

  pub bytes_fit : (a : Result ℕ Refusal) → n < 0x8000000000000000 → a ≡ (list job r n).answer → IfOk a (λ m. m < 0x8000000000000000)
  bytes_fit (Ok m) h e = lt_of_le_of_lt (bytes_below m (sym e)) h
  bytes_fit (Err x) h e = tt
