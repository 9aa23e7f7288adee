-- The record of a table that agrees with a call, and one by which a call was not refused.
use mathlib.Core.Path.{◌≡◌, refl, ◌∙◌, ap}
use mathlib.Core.Bool.{Bool, true, ◌&&◌}
use mathlib.Core.List.{List}
use lib.Dec.{T}
use lib.IntN.{ℤ}
use Rattle.std.specs.Prelude.{Result, Ok, Err}
use Rattle.integer.specs.Same.{same}
use Rattle.integer.proofs.Same.{same_refl}
use Rattle.integer.proofs.Test.{holds, is_true, and_l}
use Rattle.common.specs.Matrix.{same_vector}
use Rattle.common.specs.Array.{vector_of}
use Rattle.common.proofs.Same.{same-itself}
use Rattle.common.specs.Tested.{require, ◌then◌}
use Rattle.common.specs.declared.Refusal.{Refusal}
use Rattle.common.specs.declared.Refusal.TheVariants.{OtherGrid}
use Rattle.bzgrid.specs.declared.GridType.{GridType}
use Rattle.bzgrid.specs.declared.TableRecord.{TableRecord}
use Rattle.bzgrid.specs.BzGridAddresses.{grid_type_of}
use Rattle.bzgrid.proofs.Accepted.{passes, passes-first}
use Rattle.bztable.specs.Agreement.{agrees_grid, agrees, layout_where}
use Rattle.bztable.specs.Rotate.{rotate_in, rotate_bz_grid_index}
use Rattle.bztable.specs.Neighbours.{neighbours_in, neighboring_grid_points_many}
use Rattle.bztable.specs.Agreeing.{LeftRecord, AgreeingRotation, AgreeingNeighbours}
use Rattle.bztable.proofs.AcceptedCall.{call-accepted}

-- ---- a record and what it was made of
pub agrees-itself : (d ps : List ℤ) (t : ℤ) → T (agrees (record { d = d; ps = ps; bz_grid_type = t }) d ps t)
agrees-itself d ps t = holds (λ i. (same-itself (vector_of d) i && is_true (same t t) (same_refl t) i) && same-itself (vector_of ps) i)

pub agrees-on-grid : (r : TableRecord) (d ps : List ℤ) (t : ℤ) → T (agrees r d ps t) → T (agrees_grid r d t)
agrees-on-grid r d ps t = and_l (agrees_grid r d t) (same_vector (vector_of r.ps) (vector_of ps))

pub left-record : LeftRecord
left-record d q ps lattice t a b c l e = rw (call-accepted d q ps lattice t a b c l e).table (agrees-itself d ps t)

-- ---- the layout
pub layout-agreed : (agreed : Bool) (t : ℤ) → T agreed → layout_where agreed t ≡ grid_type_of t
layout-agreed agreed t a = ap (λ b. layout_where b t) (is_true agreed a) ∙ known (grid_type_of t)
  where
    known : (k : Result GridType Refusal) → (k then λ t. require true OtherGrid (Ok t)) ≡ k
    known (Ok t) = refl
    known (Err r) = refl

pub layout-known : (agreed : Bool) (t : ℤ) {k : GridType} → layout_where agreed t ≡ Ok k → T agreed × (grid_type_of t ≡ Ok k)
layout-known agreed t e =
    let a = passes-first (grid_type_of t) (λ k. require agreed OtherGrid (Ok k)) e in
    let b = passes agreed OtherGrid (Ok a.0) a.2 in
    (holds b.0, a.1 ∙ b.1)

-- ---- the calls
pub agreeing-rotation : AgreeingRotation
unfolding rotate_bz_grid_index
agreeing-rotation i rotation addresses map r d ps t a = ap (λ k. rotate_in k i rotation addresses map d ps) (layout-agreed (agrees r d ps t) t a)

pub agreeing-neighbours : AgreeingNeighbours
unfolding neighboring_grid_points_many
agreeing-neighbours points offsets addresses map r d t n a = ap (λ k. neighbours_in k points offsets addresses map d n) (layout-agreed (agrees_grid r d t) t a)
