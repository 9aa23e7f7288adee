-- `rotate_bz_grid_indices`: the rotation of many images of one table. Its tests are those of the single call, once, and its answer with the two outputs, which
-- have n and m places, is one outcome.
use Rattle.std.specs.Prelude.{◌&&◌, List, map as map_list, ℕ, eqb, ℤ, pos, length, Result}
use Rattle.common.specs.Tested.{require, output_of, Tested, Accepted, ◌then◌}
use Rattle.common.specs.declared.Refusal.{Refusal}
use Rattle.common.specs.declared.Refusal.TheVariants.{WrongLength}
use Rattle.bzgrid.specs.declared.GridType.{GridType}
use Rattle.bzgrid.specs.declared.TableRecord.{TableRecord}
use Rattle.bztable.specs.declared.rotate.Rotated.{Rotated}
use Rattle.bztable.specs.declared.rotate.Rotated.TheVariants.{Image, Fallback}
use Rattle.bztable.specs.Agreement.{agrees, layout_where}
use Rattle.bztable.specs.Reading.{Read, list_of, read_each}
use Rattle.bztable.specs.Rotate.{rotate_tests, rotated_at, rotate_read}

-- as the outputs hold them
abbrev pub place_told : Rotated → ℤ
place_told (Image i) = i
place_told (Fallback i) = i

-- 1 for a fallback
abbrev pub fallback_told : Rotated → ℤ
fallback_told (Image i) = pos 0
fallback_told (Fallback i) = pos 1

pub record RotatedIndices : Type 0 where
  pub answer : Tested
  pub out : List ℤ
  pub fallbacks : List ℤ

-- of a table of layout k
module _ (k : Result GridType Refusal) (indices : List ℤ) (rotation : List (List ℤ)) (addresses map d ps : List ℤ) where
  unfoldable pub each_rotated : Read (List Rotated)
  unfolding rotate_tests rotated_at
  each_rotated = rotate_tests rotation addresses d ps k then λ t. read_each (λ i. rotate_read i rotation addresses map d ps t) indices

  module _ (n m : ℕ) where
    unfoldable pub burst_tests : Tested
    unfolding each_rotated
    burst_tests = require (eqb n (length indices) && eqb m (length indices)) WrongLength (each_rotated then λ _. Accepted)

    unfoldable pub burst_in : RotatedIndices
    unfolding burst_tests each_rotated
    burst_in = record {
      answer = burst_tests;
      out = output_of burst_tests n (map_list place_told (list_of each_rotated));
      fallbacks = output_of burst_tests m (map_list fallback_told (list_of each_rotated));
    }

-- the record of the table agrees with the call, or refusal 17
unfoldable pub rotate_bz_grid_indices : List ℤ → List (List ℤ) → (addresses map : List ℤ) → TableRecord → (d ps : List ℤ) → ℤ → (n m : ℕ) → RotatedIndices
unfolding burst_in
rotate_bz_grid_indices indices rotation addresses map r d ps t n m = burst_in (layout_where (agrees r d ps t) t) indices rotation addresses map d ps n m
