-- `ir_grid_map`: its tests, in document 01's order, and its answer with the class map, which has n places, as one outcome.
use Rattle.std.specs.Prelude.{List, map, ℕ, eqb, ℤ, pos, Result}
use Rattle.common.specs.declared.Refusal.{Refusal}
use Rattle.common.specs.Array.{vector_of, sides_of, matrices}
use Rattle.common.specs.Limits.{whole_matrices, diagonal_fits, shift_fits, rotations_fit}
use Rattle.common.specs.Tested.{require, giving, output_of, Tested, Accepted}
use Rattle.common.specs.declared.Refusal.TheVariants.{OutsideLimits, WrongLength}
use Rattle.grgrid.specs.Grid.{size}
use Rattle.grgrid.specs.ClassMap.{class_map_of, classes}

unfoldable pub map_tests : List ℤ → List ℤ → List ℤ → ℕ → Tested
map_tests rotations d ps n =
    require (whole_matrices rotations) WrongLength
    (require (diagonal_fits d) OutsideLimits
    (require (eqb n (size (sides_of d))) WrongLength
    (require (shift_fits ps) OutsideLimits
    (require (rotations_fit 100000 rotations) OutsideLimits Accepted))))

pub record IrGridMap : Type 0 where
  pub answer : Result ℤ Refusal
  pub map : List ℤ

unfoldable pub ir_grid_map : List ℤ → List ℤ → List ℤ → ℕ → IrGridMap
unfolding map_tests class_map_of classes
ir_grid_map rotations d ps n =
    let t = map_tests rotations d ps n in
    record {
      answer = giving t (pos (classes (sides_of d) (vector_of ps) (matrices rotations)));
      map = output_of t n (map pos (class_map_of (sides_of d) (vector_of ps) (matrices rotations)));
    }
