-- What the tests of the input leave known, and the outcome of the call from them and the tables.
use mathlib.Core.Path.{◌≡◌, refl, sym, ◌∙◌, ap}
use mathlib.Core.Bool.{Bool, true, false, not, ◌&&◌}
use mathlib.Core.List.{List}
use Prim.Native.Nat.{ℕ}
use lib.Dec.{T}
use lib.IntN.{ℤ}
use lib.Ieee.{Float}
use borrow.Author.Tests.{not-true}
use Rattle.std.specs.Prelude.{Option, Result, Ok, Err}
use Rattle.common.specs.Tested.{require, ◌then◌}
use Rattle.integer.proofs.Test.{and_l, and_r, holds}
use Rattle.common.specs.Array.{matrix_of}
use Rattle.common.specs.FloatMatrix.{float_matrix}
use Rattle.common.specs.Limits.{matrix_within, diagonal_fits, shift_fits}
use Rattle.common.specs.declared.Refusal.{Refusal}
use Rattle.common.specs.declared.Refusal.TheVariants.{OutsideLimits, NotUnimodularQ, SingularReciprocalLattice}
use Rattle.common.proofs.Tests.{refused-not-ok}
use Rattle.bzgrid.specs.declared.GridType.{GridType}
use Rattle.bzgrid.specs.declared.TableRecord.{TableRecord}
use Rattle.bzsearch.specs.Lattice.{singular, lattice_fits}
use Rattle.bzsearch.specs.Search.{Search, unimodular}
use Rattle.bzgrid.specs.BzGridAddresses.{grid_type_of, search_of, within_limits, input_tests, unbuilt, built, built_for, recorded, tables_told}

-- ---- a call that gives a value passed each of its tests
module _ {A : Type 0} {a : A} where
  pub passes : (t : Bool) (r : Refusal) (rest : Result A Refusal) → require t r rest ≡ Ok a → (t ≡ true) × (rest ≡ Ok a)
  passes true r rest e = (refl, e)
  passes false r rest e = absurd (refused-not-ok e)

  pub passes-first : {B : Type 0} (r : Result B Refusal) (f : B → Result A Refusal) → (r then f) ≡ Ok a → (b : B) × (r ≡ Ok b) × (f b ≡ Ok a)
  passes-first (Ok b) f e = (b, refl, e)
  passes-first (Err r) f e = absurd (refused-not-ok e)

pub record InputAccepted (d : List ℤ) (q : List (List ℤ)) (ps : List ℤ) (lattice : List (List Float)) (t : ℤ) (k : GridType) : Type 0 where
  pub grid : T (diagonal_fits d)
  pub entries : T (matrix_within 1000 (matrix_of q))
  pub shift : T (shift_fits ps)
  pub bounded : T (lattice_fits (float_matrix lattice))
  pub known : grid_type_of t ≡ Ok k
  pub unit : T (unimodular (matrix_of q))
  pub regular : singular (float_matrix lattice) ≡ false

pub input-accepted : (d : List ℤ) (q : List (List ℤ)) (ps : List ℤ) (lattice : List (List Float)) (t : ℤ) {k : GridType} → input_tests d q ps lattice t ≡ Ok k → InputAccepted d q ps lattice t k
unfolding input_tests
input-accepted d q ps lattice t {k} e =
    let a = passes (within_limits d q ps lattice) OutsideLimits _ e in
    let b = passes-first (grid_type_of t) _ a.1 in
    let c = passes (unimodular (matrix_of q)) NotUnimodularQ _ b.2 in
    let f = passes (not (singular (float_matrix lattice))) SingularReciprocalLattice _ c.1 in
    let g = and_r (diagonal_fits d) (matrix_within 1000 (matrix_of q) && (shift_fits ps && lattice_fits (float_matrix lattice))) (holds a.0) in
    let h = and_r (matrix_within 1000 (matrix_of q)) (shift_fits ps && lattice_fits (float_matrix lattice)) g in
    record {
      grid = and_l (diagonal_fits d) (matrix_within 1000 (matrix_of q) && (shift_fits ps && lattice_fits (float_matrix lattice))) (holds a.0);
      entries = and_l (matrix_within 1000 (matrix_of q)) (shift_fits ps && lattice_fits (float_matrix lattice)) g;
      shift = and_l (shift_fits ps) (lattice_fits (float_matrix lattice)) h;
      bounded = and_r (shift_fits ps) (lattice_fits (float_matrix lattice)) h;
      known = b.1 ∙ f.1;
      unit = holds c.0;
      regular = not-true (singular (float_matrix lattice)) f.0;
    }

module _ (d : List ℤ) (q : List (List ℤ)) (ps : List ℤ) (lattice : List (List Float)) where
  -- ---- the tests that follow that of the limits
  pub typed : (t : ℤ) {r : Result GridType Refusal} {u v : Bool} → true ≡ within_limits d q ps lattice → r ≡ grid_type_of t → u ≡ unimodular (matrix_of q) → v ≡ singular (float_matrix lattice)
      → (r then λ k. require u NotUnimodularQ (require (not v) SingularReciprocalLattice (Ok k))) ≡ input_tests d q ps lattice t
  unfolding input_tests
  typed t b e f g = λ i. require (b i) OutsideLimits (e i then λ k. require (f i) NotUnimodularQ (require (not (g i)) SingularReciprocalLattice (Ok k)))

  -- ---- the call, with outputs of lengths x, y and z
  module _ (t : ℤ) (w : Option (List ℤ)) (x y z : ℕ) where
    abbrev table : TableRecord
    table = record { d = d; ps = ps; bz_grid_type = t }

    pub accepted-call : {k : GridType} → input_tests d q ps lattice t ≡ Ok k → {s : Search} → s ≡ search_of d q ps lattice → recorded table (built k s w x y z) ≡ tables_told d q ps lattice t w x y z
    unfolding tables_told
    accepted-call h e = λ i. recorded table (built_for (sym h i) (e i) w x y z)

    pub refused-call : {r : Refusal} → input_tests d q ps lattice t ≡ Err r → unbuilt x y z r ≡ tables_told d q ps lattice t w x y z
    unfolding tables_told
    refused-call h = ap (λ r. recorded table (built_for r (search_of d q ps lattice) w x y z)) (sym h)
