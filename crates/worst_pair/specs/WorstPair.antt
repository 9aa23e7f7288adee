-- What the call answers: for a limit from 1 to 1,000,000 the worst pair, with its steps; for another, refusal 3.
use Rattle.std.specs.Prelude.{◌≡◌, Bool, not, ◌&&◌, ℕ, T, ℤ, pos, nat_abs, Result, Ok, Err}
use Rattle.std.specs.Int.Signed.{le_z}
use Rattle.common.specs.declared.Refusal.{Refusal}
use Rattle.common.specs.declared.Refusal.TheVariants.{OutsideLimits}
use Rattle.worst_pair.specs.declared.WorstPair.{WorstPair}
use Rattle.worst_pair.specs.Worst.{steps, OnlyWorst}

abbrev pub limit_fits : ℤ → Bool
limit_fits limit = le_z (pos 1) limit && le_z limit (pos 1000000)

-- within a limit that fits
abbrev pub Finds : ℕ → WorstPair → Type 0
Finds limit w = OnlyWorst limit w.a w.b × (w.steps ≡ steps w.a w.b)

abbrev pub Answers : ℤ → Result WorstPair Refusal → Type 0
Answers limit (Ok w) = T (limit_fits limit) × Finds (nat_abs limit) w
Answers limit (Err r) = T (not (limit_fits limit)) × (r ≡ OutsideLimits)
