-- A burst against the single call: accepted, it tells in each place what the single call tells for that index; refused, some index is the first that the
-- single call refuses, for that reason; without an index only the tests speak.
use Rattle.std.specs.Prelude.{◌≡◌, List, [], ℕ, ◌<◌, ℤ, pos, length, get_or, Ok, Err}
use Rattle.common.specs.Tested.{Accepted, without_value}
use Rattle.common.specs.declared.Refusal.{Refusal}
use Rattle.bzgrid.specs.declared.TableRecord.{TableRecord}
use Rattle.bztable.specs.declared.rotate.Rotated.{Rotated}
use Rattle.bztable.specs.Agreement.{agrees, layout_where}
use Rattle.bztable.specs.Reading.{Read}
use Rattle.bztable.specs.Rotate.{rotate_tests, rotate_bz_grid_index}
use Rattle.bztable.specs.Burst.{place_told, fallback_told, RotatedIndices, rotate_bz_grid_indices}

module _ (indices : List ℤ) (rotation : List (List ℤ)) (addresses map : List ℤ) (r : TableRecord) (d ps : List ℤ) (t : ℤ) (n m : ℕ) where
  abbrev burst : RotatedIndices
  burst = rotate_bz_grid_indices indices rotation addresses map r d ps t n m

  -- what the single call answers for the j-th index
  abbrev single : ℕ → Read Rotated
  single j = rotate_bz_grid_index (get_or indices j (pos 0)) rotation addresses map r d ps t

  pub record BurstSingles : Type 0 where
    pub accepted : burst.answer ≡ Accepted → (length burst.out ≡ length indices) × (length burst.fallbacks ≡ length indices)
        × ((j : ℕ) → j < length indices
        → (w : Rotated) × (single j ≡ Ok w) × (get_or burst.out j (pos 0) ≡ place_told w) × (get_or burst.fallbacks j (pos 0) ≡ fallback_told w))
    pub refused : n ≡ length indices → m ≡ length indices → 0 < length indices → (x : Refusal) → burst.answer ≡ Err x
        → (j : ℕ) × (j < length indices) × (single j ≡ Err x) × ((i : ℕ) → i < j → (w : Rotated) × (single i ≡ Ok w))
    pub none : indices ≡ [] → n ≡ 0 → m ≡ 0 → burst.answer ≡ without_value (rotate_tests rotation addresses d ps (layout_where (agrees r d ps t) t))
