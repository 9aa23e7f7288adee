-- The test of no repeats says so.
use mathlib.Core.Bool.{not}
use mathlib.Core.List.{List, [], ◌∷◌}
use lib.Dec.{T, T_not, not_T}
use lib.IntN.{ℤ}
use Rattle.integer.proofs.Test.{and_l, and_r, and_in}
use Rattle.common.specs.Matrix.{Mat}
use Rattle.grgrid.proofs.Lists.{Distinct}
use Rattle.recip_rotations.specs.Unique.{among}
use Rattle.recip_rotations.proofs.Told.{among_in, in-among}
use Rattle.rotation_group.specs.Group.{no_repeats}

pub repeats-none : (l : List (Mat ℤ)) → T (no_repeats l) → Distinct l
repeats-none [] t = tt
repeats-none (m ∷ l) t = (λ k. T_not (among m l) (and_l (not (among m l)) (no_repeats l) t) (in-among m l k), repeats-none l (and_r (not (among m l)) (no_repeats l) t))

pub none-repeats : (l : List (Mat ℤ)) → Distinct l → T (no_repeats l)
none-repeats [] d = tt
none-repeats (m ∷ l) d = and_in (not (among m l)) (no_repeats l) (not_T (among m l) (λ t. d.0 (among_in m l t))) (none-repeats l d.1)
