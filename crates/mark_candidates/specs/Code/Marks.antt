-- The mark of a candidate by a table of all.
use Rattle.std.specs.Prelude.{Bool, List, ℤ, pos, cond}
use Rattle.std.specs.Int.Signed.{le_z, lt_z}
use Rattle.common.specs.Every.{every, some}
use Rattle.mark_candidates.specs.declared.marks.Against.{Against}
use Rattle.mark_candidates.specs.declared.marks.Against.TheVariants.{Longer, NeverLonger, Open}
use Rattle.mark_candidates.specs.Code.Table.{Compared, rises, least_of, most_of}

abbrev pub longer : Compared → Compared → Bool
longer a o = lt_z (pos 0) (least_of a o)

abbrev pub never_longer : Compared → Compared → Bool
never_longer a o = le_z (most_of a o) (pos 0)

abbrev pub verdict : (longer never : Bool) → Against
verdict longer never = cond longer Longer (cond never NeverLonger Open)

unfoldable pub against : Compared → Compared → Against
unfolding rises
against a o = verdict (longer a o) (never_longer a o)

unfoldable pub mark_of : List Compared → Compared → ℤ
unfolding rises
mark_of t a = cond (some (longer a) t) (pos 2) (cond (every (never_longer a) t) (pos 1) (pos 0))
