-- The loop that stores the negatives of the first `half` numbers after them: turn i, with entries so small that each negative fits.
use mathlib.Core.Path.{◌≡◌, sym, ◌∙◌, ap}
use mathlib.Core.List.{List, ◌++◌, map}
use Prim.Native.Nat.{ℕ, ◌+◌, ◌<◌, ◌≤◌}
use native.Mathlib.Nat.{lt_of_le_of_lt}
use native.Mathlib.Omega.{arith}
use lib.Dec.{lit<}
use lib.IntN.{ℤ, pos, neg_ℤ, nat_abs, ◌-ℤ◌, +ℤ_idl}
use lib.ListN.{length, get_or, set, take, drop, length-append, length-map, get_or-append, get_or-map}
use lib.Seq.{paste, length-take-le, get_or-take}
use mir.Syntax.{w64}
use mir.Val.{SFits}
use mir.Facts.{to_z-of_z}
use Rattle.integer.proofs.Size.{abs_neg, sfits-abs}
use Rattle.integer.proofs.Fits.{held}
use Rattle.common.specs.Array.{Sized}
use Rattle.recip_rotations.proofs.Pasted.{paste_more}

small-fits : (z : ℤ) → nat_abs z ≤ 100000 → SFits w64 z
small-fits z h = sfits-abs (lt_of_le_of_lt h (lit< tt))

module _ (d : List ℤ) (s : Sized 100000 d) (half i : ℕ) (h : i < half) (g : half + half ≤ length d) {out : List ℤ} (e : out ≡ paste d half (map neg_ℤ d) i) where
  -- the numbers below `half` are as they were
  as_before : get_or out i (pos 0) ≡ get_or d i (pos 0)
  as_before =
      let first : length (take half d) ≡ half = length-take-le half d (omega arith) in
      ap (λ l. get_or l i (pos 0)) e
      ∙ get_or-append (take half d ++ take i (map neg_ℤ d)) (drop (half + i) d) (pos 0) i (omega (arith, length-append (take half d) (take i (map neg_ℤ d))))
      ∙ get_or-append (take half d) (take i (map neg_ℤ d)) (pos 0) i (omega arith)
      ∙ get_or-take half d i (pos 0) h

  negative : pos 0 -ℤ held (get_or out i (pos 0)) ≡ neg_ℤ (get_or d i (pos 0))
  negative = +ℤ_idl (neg_ℤ (held (get_or out i (pos 0)))) ∙ ap neg_ℤ (ap held as_before ∙ to_z-of_z (small-fits (get_or d i (pos 0)) (s.each i)))

  negative_fits : SFits w64 (pos 0 -ℤ held (get_or out i (pos 0)))
  negative_fits = rw negative (small-fits (neg_ℤ (get_or d i (pos 0))) (rw abs_neg (s.each i)))

  pub negative-stored : set out (half + i) (held (pos 0 -ℤ held (get_or out i (pos 0)))) ≡ paste d half (map neg_ℤ d) (i + 1)
  negative-stored =
      paste_more d half (map neg_ℤ d) i (pos 0) e (to_z-of_z negative_fits ∙ negative ∙ sym (get_or-map neg_ℤ d i (pos 0))) (omega arith) (simp length-map (omega arith))
