-- Signed words, and the numbers of a section.
use mathlib.Core.Bool.{cond}
use mathlib.Core.Path.{◌≡◌, sym, ◌∙◌, ap}
use mathlib.Core.List.{List}
use Prim.Native.Nat.{ℕ, ◌+◌, ◌*◌, ◌<◌}
use native.Mathlib.Omega.{arith}
use lib.Ieee.{Float}
use lib.IntN.{ℤ, pos, ◌-ℤ◌}
use mir.Syntax.{w64}
use mir.Val.{SFits, to_z}
use mir.Facts.{to_z_pos, to_z-of_z}
use borrow.Author.Tests.{lt-ltb}
use Rattle.integer.proofs.Fits.{held, range-sfits}
use Rattle.integer.proofs.Parts.{difference}
use Rattle.job.specs.Job.{word, signed, float}

-- ---- a word less 2^32, as the code's locals hold it
module _ {w : ℕ} (h : w < 0x100000000) where
  held_word : to_z w64 w ≡ pos w
  held_word = to_z_pos w64 (omega arith)

  pub negative_fits : SFits w64 (to_z w64 w -ℤ pos 0x100000000)
  negative_fits = rw held_word (range-sfits (pos w -ℤ pos 0x100000000) (omega (arith, difference (pos w) (pos 0x100000000))))

  pub negative-word : held (to_z w64 w -ℤ pos 0x100000000) ≡ pos w -ℤ pos 0x100000000
  negative-word = to_z-of_z negative_fits ∙ ap (λ z. z -ℤ pos 0x100000000) held_word

pub small_word : (w : ℕ) → w < 0x80000000 → to_z w64 w ≡ signed w
unfolding signed
small_word w h = to_z_pos w64 (omega arith) ∙ sym (ap (λ t. cond t (pos w) (pos w -ℤ pos 0x100000000)) (lt-ltb w 0x80000000 h))

-- ---- the numbers of a section
abbrev pub signed_item : List ℕ → ℕ → ℕ → List ℤ → ℤ
signed_item b at k done = signed (word b (at + 4 * k))

abbrev pub float_item : List ℕ → ℕ → ℕ → List Float → Float
float_item b at k done = float b (at + 8 * k)
