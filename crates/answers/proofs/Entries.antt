-- Lists of so many numbers, as an export hands them on.
use mathlib.Core.Path.{◌≡◌}
use mathlib.Core.List.{List}
use lib.IntN.{ℤ, pos}
use lib.ListN.{length}
use Rattle.common.specs.Array.{row_at}
use Rattle.grgrid.proofs.Built.{build-list}
use Rattle.answers.specs.Marks.{six_of}

pub three-entries : (l : List ℤ) → length l ≡ 3 → row_at l 0 ≡ l
three-entries l e = build-list l (pos 0) 3 e

pub six-entries : (l : List ℤ) → length l ≡ 6 → six_of l ≡ l
six-entries l e = build-list l (pos 0) 6 e
