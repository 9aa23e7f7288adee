-- The answer of `rotate_grid_index`, from what its tests and its rotation gave.
use mathlib.Core.Path.{◌≡◌, ◌∙◌, ap, ap₂}
use mathlib.Core.Bool.{Bool}
use mathlib.Core.List.{List}
use Prim.Native.Nat.{ℕ}
use native.Mathlib.Nat.{lt_of_le_of_lt}
use lib.Dec.{lit<}
use lib.IntN.{ℤ, pos, nat_abs}
use mir.Syntax.{w64}
use mir.Val.{to_z}
use mir.Facts.{to_z_pos}
use Rattle.std.specs.Prelude.{Result, Ok}
use Rattle.common.specs.declared.Refusal.{Refusal}
use Rattle.common.specs.declared.Refusal.TheVariants.{OutsideLimits}
use Rattle.common.specs.Array.{vector_of, sides_of, matrix_of, items}
use Rattle.common.specs.Limits.{diagonal_fits, shift_fits, matrix_within, point_fits}
use Rattle.common.specs.Tested.{require}
use Rattle.grgrid.specs.declared.grid.Grid.{Grid}
use Rattle.grgrid.specs.declared.Folded.{Folded}
use Rattle.grgrid.specs.Grid.{size, index, cell, rotated, rotate}
use Rattle.grgrid.specs.Folding.{fold_address, rotate_grid_index}
use Rattle.grgrid.specs.Sides.{sides}
use Rattle.grgrid.proofs.Sizes.{grid-few}

module _ (point : ℤ) (m : List (List ℤ)) (d ps : List ℤ) where
  abbrev pub carried : Folded
  carried = fold_address (sides_of d) (rotated (sides_of d) (vector_of ps) (matrix_of m) (nat_abs point))

  pub tests-told : {a b c e : Bool} {r : Result Folded Refusal} → a ≡ diagonal_fits d → b ≡ shift_fits ps → c ≡ matrix_within 100000 (matrix_of m)
      → e ≡ point_fits point (pos (size (sides_of d))) → r ≡ Ok carried
      → require a OutsideLimits (require b OutsideLimits (require c OutsideLimits (require e OutsideLimits r))) ≡ rotate_grid_index point m d ps
  unfolding rotate_grid_index
  tests-told a b c e r = λ i. require (a i) OutsideLimits (require (b i) OutsideLimits (require (c i) OutsideLimits (require (e i) OutsideLimits (r i))))

  module _ (g : Grid) (eg : sides g ≡ sides_of d) {z : ℤ} (ez : z ≡ point) where
    -- the test of the point, whose bound is the grid's number of points
    pub point-tested : {t : Bool} {n : ℕ} → t ≡ point_fits z (to_z w64 n) → n ≡ size (sides g) → t ≡ point_fits point (pos (size (sides_of d)))
    point-tested e en = e ∙ ap₂ point_fits ez (ap (to_z w64) en ∙ to_z_pos w64 (lt_of_le_of_lt (grid-few g) (lit< tt)) ∙ ap (λ d. pos (size d)) eg)

    pub rotation-told : {f : Folded} {s : List ℤ} → s ≡ ps → f.index ≡ rotate (sides g) (vector_of s) (matrix_of m) (nat_abs z)
        → f.cell ≡ items (cell (sides g) (rotated (sides g) (vector_of s) (matrix_of m) (nat_abs z))) → f ≡ carried
    unfolding rotate
    rotation-told es ei ec = λ i. record {
      index = (ei ∙ (λ i. index (eg i) (rotated (eg i) (vector_of (es i)) (matrix_of m) (nat_abs (ez i))))) i;
      cell = (ec ∙ (λ i. items (cell (eg i) (rotated (eg i) (vector_of (es i)) (matrix_of m) (nat_abs (ez i)))))) i;
    }
