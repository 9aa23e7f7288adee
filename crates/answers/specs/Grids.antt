-- What the exports of grgrid answer and leave in their outputs.
use Rattle.std.specs.Prelude.{Bool, ◌&&◌, List, [], ◌∷◌, ℕ, eqb, ℤ, pos, length, Result, cond}
use Rattle.common.specs.declared.Refusal.{Refusal}
use Rattle.common.specs.Tested.{answer_of, told_of}
use Rattle.common.specs.Array.{rows, matrix_at}
use Rattle.answers.specs.Lengths.{wrong_length, unwritten}
use Rattle.grgrid.specs.declared.Folded.{Folded}
use Rattle.grgrid.specs.IrGridMap.{ir_grid_map}
use Rattle.grgrid.specs.Addresses.{all_grid_addresses}
use Rattle.grgrid.specs.Folding.{grid_index_from_address, rotate_grid_index}

-- ---- the class map and the addresses
-- in the one place of `told`
abbrev pub classes_told : Result ℤ Refusal → List ℤ
classes_told = told_of (λ n. n ∷ []) 1

-- of d, ps and `told`
abbrev pub class_lengths : ℕ → ℕ → ℕ → Bool
class_lengths d ps told = eqb d 3 && (eqb ps 3 && eqb told 1)

pub record ZoneIrGridMap : Type 0 where
  pub answer : ℤ
  pub map : List ℤ
  pub told : List ℤ

-- the outputs have n and m places
abbrev pub zone_ir_grid_map : (rotations d ps : List ℤ) → (n m : ℕ) → ZoneIrGridMap
zone_ir_grid_map rotations d ps n m =
    let o = ir_grid_map rotations d ps n in
    cond (class_lengths (length d) (length ps) m)
    (record { answer = answer_of o.answer; map = o.map; told = classes_told o.answer })
    (record { answer = wrong_length; map = unwritten n; told = unwritten m })

pub record ZoneAllGridAddresses : Type 0 where
  pub answer : ℤ
  pub out : List ℤ

-- the output has n places
abbrev pub zone_all_grid_addresses : List ℤ → ℕ → ZoneAllGridAddresses
zone_all_grid_addresses d n =
    let o = all_grid_addresses d n in
    cond (eqb (length d) 3) (record { answer = answer_of o.answer; out = o.addresses }) (record { answer = wrong_length; out = unwritten n })

-- ---- folding
-- the index and the three quotients of the cell, in the four places of `told`
abbrev pub folded_told : Result Folded Refusal → List ℤ
folded_told = told_of (λ f. pos f.index ∷ f.cell) 4

-- of the address, d and `told`
abbrev pub folding_lengths : ℕ → ℕ → ℕ → Bool
folding_lengths address d told = eqb address 3 && (eqb d 3 && eqb told 4)

pub record ZoneGridIndexFromAddress : Type 0 where
  pub answer : ℤ
  pub told : List ℤ

-- the output has n places
abbrev pub zone_grid_index_from_address : (address d : List ℤ) → ℕ → ZoneGridIndexFromAddress
zone_grid_index_from_address address d n =
    let o = grid_index_from_address address d in
    cond (folding_lengths (length address) (length d) n)
    (record { answer = answer_of o; told = folded_told o }) (record { answer = wrong_length; told = unwritten n })

-- ---- the rotation of a point
-- of the rotation, d, ps and `told`
abbrev pub point_lengths : ℕ → ℕ → ℕ → ℕ → Bool
point_lengths rotation d ps told = eqb rotation 9 && (eqb d 3 && (eqb ps 3 && eqb told 4))

pub record ZoneRotateGridIndex : Type 0 where
  pub answer : ℤ
  pub told : List ℤ

-- the output has n places
abbrev pub zone_rotate_grid_index : ℤ → (rotation d ps : List ℤ) → ℕ → ZoneRotateGridIndex
zone_rotate_grid_index point rotation d ps n =
    let o = rotate_grid_index point (rows (matrix_at rotation 0)) d ps in
    cond (point_lengths (length rotation) (length d) (length ps) n)
    (record { answer = answer_of o; told = folded_told o }) (record { answer = wrong_length; told = unwritten n })
