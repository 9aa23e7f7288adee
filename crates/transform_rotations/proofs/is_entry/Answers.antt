use mathlib.Core.Path.{refl, subst}
use native.Mathlib.Nat.{lt_of_le_of_lt}
use lib.Ieee.{binary64, eq, of_int}
use lib.Dec.{T, lit<}
use Rattle.integer.proofs.Fits.{held_of, size_fits}
use Rattle.integer.proofs.Test.{holds}
use Rattle.transform_rotations.proofs.Found.{found}
use Rattle.transform_rotations.proofs.is_entry.Goals as goal

pub returns : goal.returns
returns c t =
    let s = c.args in
    let size = c.requires in
    let h = held_of refl (size_fits s.n (lt_of_le_of_lt size (lit< tt))) in
    found s.x s.n size (holds c.well_formed.1.0.1) (subst (λ n. T (eq (of_int binary64 n) s.x)) h t)
