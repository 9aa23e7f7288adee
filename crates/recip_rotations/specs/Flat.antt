-- Matrices in a lent list, nine numbers each by rows.
use Rattle.std.specs.Prelude.{List, ◌++◌, ◌*◌, ℤ, length, drop}
use Rattle.common.specs.Matrix.{Mat}
use Rattle.common.specs.Array.{flat}

-- l, and from there on d
abbrev pub laid : List (Mat ℤ) → List ℤ → List ℤ
laid l d = flat l ++ drop (length l * 9) d
