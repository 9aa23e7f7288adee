-- One more case counted, or a line that is none.
use Rattle.std.specs.Prelude.{ℕ, suc, min, Option, Some, None}
use Rattle.vectors.specs.declared.Verdict.{Verdict}
use Rattle.vectors.specs.declared.Verdict.TheVariants.{Same, Differs}
use Rattle.vectors.specs.declared.tally.Tally.{Tally}

abbrev pub more : ℕ → ℕ
more n = min (suc n) 0xffffffffffffffff

abbrev pub counted : Tally → Option Verdict → Tally
counted t (Some Same) = record { cases = more t.cases; differences = t.differences; unread = t.unread }
counted t (Some Differs) = record { cases = more t.cases; differences = more t.differences; unread = t.unread }
counted t None = record { cases = t.cases; differences = t.differences; unread = more t.unread }
