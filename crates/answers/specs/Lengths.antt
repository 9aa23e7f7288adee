-- What an export answers to slices of other lengths, and what it leaves in an output.
use Rattle.std.specs.Prelude.{List, ℕ, ℤ, pos, negsuc, replicate}
use Rattle.common.specs.declared.Refusal.TheVariants.{WrongLength}
use Rattle.common.specs.Refusal.{number_of}

abbrev pub wrong_length : ℤ
wrong_length = pos (number_of WrongLength)

-- -1 in each of n places
abbrev pub unwritten : ℕ → List ℤ
unwritten n = replicate n (negsuc 0)
