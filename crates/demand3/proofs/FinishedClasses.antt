-- The classes of the finished list: an accepted chain leaves the class map of the operations that keep q0, whatever way the list went into transforming.
use mathlib.Core.Path.{◌≡◌, sym, ◌∙◌, ap, ap₂, subst}
use mathlib.Core.Logic.{⊎_elim, ◌↔◌}
use mathlib.Core.Bool.{false}
use mathlib.Core.List.Memᴰ.{append_right}
use mathlib.Core.List.{List, map}
use Prim.Native.Nat.{ℕ, ◌<◌, ◌≤◌}
use lib.Dec.{T}
use lib.IntN.{ℤ, pos, nat_abs}
use lib.ListN.{length, get_or, get_or-map}
use Rattle.common.specs.Matrix.{Mat}
use Rattle.common.specs.Array.{items, rows, matrix_of, matrices}
use Rattle.common.specs.Limits.{diagonal_fits}
use Rattle.common.specs.Tested.{output_of, Accepted}
use Rattle.common.proofs.Unimodular.{Unimodular}
use Rattle.grgrid.specs.Picked.{Rising}
use Rattle.grgrid.specs.Own.{own_places, own_points}
use Rattle.grgrid.proofs.Lists.{◌∈◌}
use Rattle.grgrid.specs.Orbits.{Least, OneEach}
use Rattle.grgrid.proofs.Count.{Classified}
use Rattle.grgrid.proofs.Folding.{Sides}
use Rattle.grgrid.proofs.Acting.{Acts}
use Rattle.grgrid.proofs.MatrixGroup.{MatrixGroup, joined-acts}
use Rattle.recip_rotations.specs.PointGroup.{with_negatives, point_group}
use Rattle.snf3x3.proofs.Diagonal.{diagonalised-right}
use Rattle.transform_rotations.specs.TransformRotations.{transform_tests}
use Rattle.transform_rotations.proofs.ExactCall.{sides-positive, written-tests}
use Rattle.transform_rotations.proofs.ExactTransform.{call-acts}
use Rattle.triplet_grid.specs.IrTriplets.{triplet_tests, map_triplets_of, classes_at, ir_triplets_at_q}
use Rattle.triplet_grid.specs.Classes.{Meets, Operation}
use Rattle.triplet_grid.proofs.Joining.{joined_meets}
use Rattle.triplet_grid.proofs.Stabilizer.{carries-equiv, carries-partner, swapped-classes, joined-operations}
use Rattle.triplet_grid.proofs.Swapping.{length-triplets, classes-low, triplets-low}
use Rattle.triplet_grid.proofs.Outcome.{InputAccepted}
use Rattle.grgrid.proofs.Own.{own-rising, own-each}
use Rattle.demand3.specs.FinishedList.{Calls, grid, points, number, carries, partner_of, Class, lowest_points}
use Rattle.demand3.proofs.AcceptedTriplets.{tests-accepted, classes-accepted}
use Rattle.demand3.proofs.JoinedList.{list-distinct, told_is, given-joined, transformed-joined}

-- ---- accepted calls
module _ (c : Calls) where
  transform-passed : transform_tests c.rotations (items c.d) (rows c.q) c.room ≡ Accepted
  transform-passed = written-tests c.rotations (items c.d) (rows c.q) c.room c.transforms

  -- the numbers that the class call leaves
  abbrev numbers : List ℕ
  numbers = map_triplets_of c.swappable (grid c) c.q0 (classes_at c.q0 (grid c) (matrices c.transformed) c.time_reversal)

  class-tests : triplet_tests (pos c.q0) (items c.d) c.transformed c.time_reversal c.class-room c.point-room ≡ Accepted
  class-tests = tests-accepted (pos c.q0) (items c.d) c.transformed c.time_reversal c.swappable c.class-room c.point-room c.classifies

  class-input : InputAccepted (pos c.q0) (items c.d) c.transformed c.class-room c.point-room
  class-input = classes-accepted (pos c.q0) (items c.d) c.transformed c.time_reversal c.swappable c.class-room c.point-room c.classifies

  pub q0-inside : c.q0 < points c
  q0-inside = class-input.point

  pub sides-fit : T (diagonal_fits (items c.d))
  sides-fit = class-input.grid

  pub sides : Sides (grid c)
  sides = sides-positive (items c.d) sides-fit

  classes-are : c.classes ≡ map pos numbers
  unfolding ir_triplets_at_q
  classes-are = c.classifies-to ∙ ap (λ t. output_of t c.class-room (map pos numbers)) class-tests

  number_is : (p : ℕ) → number c p ≡ pos (get_or numbers p 0)
  number_is p = ap (λ l. get_or l p (pos 0)) classes-are ∙ get_or-map pos numbers p 0

  -- ---- of any list
  pub every-number : length c.classes ≡ points c
  every-number = length-triplets c.swappable (grid c) c.q0 (classes_at c.q0 (grid c) (matrices c.transformed) c.time_reversal) classes-are

  pub number-low : (p : ℕ) → p < points c → (n : ℕ) × (number c p ≡ pos n) × (n ≤ p)
  number-low p h =
      let here = classes_at c.q0 (grid c) (matrices c.transformed) c.time_reversal in
      (get_or numbers p 0, number_is p, triplets-low c.swappable (grid c) c.q0 here (classes-low c.q0 (grid c) (matrices c.transformed) c.time_reversal) p h)

  pub lowest-rise : Rising (lowest_points c)
  lowest-rise = own-rising c.classes (length c.classes)

  -- ---- of a group
  module _ (g : MatrixGroup (with_negatives c.time_reversal (matrices c.list))) where
    change : Unimodular (matrix_of (rows c.q))
    change = (diagonalised-right (matrix_of c.matrix) c.d c.p c.q c.rounds c.diagonalises).unimodular-q

    operations : MatrixGroup (with_negatives c.time_reversal (matrices c.transformed))
    operations =
        subst (λ l. MatrixGroup (with_negatives c.time_reversal (matrices l))) (sym c.transforms-to)
        (transformed-joined c.rotations (items c.d) (rows c.q) c.room change transform-passed c.time_reversal (given-joined c.given g))

    -- the class call works with just these
    worked-with : point_group (matrices c.transformed) c.time_reversal false ≡ with_negatives c.time_reversal (matrices c.transformed)
    worked-with = told_is (matrices c.transformed) (list-distinct c.time_reversal (matrices c.transformed) operations) c.time_reversal false

    group : MatrixGroup (point_group (matrices c.transformed) c.time_reversal false)
    group = subst MatrixGroup (sym worked-with) operations

    members : (M : Mat ℤ) → (M ∈ point_group (matrices c.transformed) c.time_reversal false) ↔ Operation c.time_reversal (matrices c.transformed) M
    members M = rw worked-with (joined-operations c.time_reversal (matrices c.transformed) M)

    acts : (M : Mat ℤ) → Operation c.time_reversal (matrices c.transformed) M → Acts (grid c) M
    acts M k = ⊎_elim (listed M) (λ j. joined-acts listed M (append_right (matrices c.transformed) j.1)) k
      where
        listed : (M : Mat ℤ) → M ∈ matrices c.transformed → Acts (grid c) M
        listed =
            subst (λ l. (M : Mat ℤ) → M ∈ matrices l → Acts (grid c) M) (sym c.transforms-to)
            (call-acts c.rotations (items c.d) (rows c.q) c.room change transform-passed)

    classified : Classified (points c) (Class c) numbers (own_places (map pos numbers) (points c))
    unfolding classes_at
    classified = swapped-classes (grid c) sides group members acts c.q0 q0-inside c.swappable

    -- ---- the laws
    pub one_number : (p q : ℕ) → p < points c → q < points c → (number c p ≡ number c q) ↔ Meets c.swappable (carries c) (partner_of c) p q
    one_number p q h k =
        let one = classified.one_number p q h k in
        let two =
        joined_meets (carries-equiv (grid c) sides group members acts c.q0 q0-inside) (carries-partner (grid c) sides group members acts c.q0 q0-inside)
        c.swappable p q h k in
        (λ e. two.0 (one.0 (ap nat_abs (sym (number_is p) ∙ e ∙ number_is q))), λ m. number_is p ∙ ap pos (one.1 (two.1 m)) ∙ sym (number_is q))

    pub lowest-number : (p : ℕ) → p < points c → (r : ℕ) × (number c p ≡ pos r) × Least (Class c p) r
    lowest-number p h = (get_or numbers p 0, number_is p, classified.lowest p h)

    pub lowest-each : OneEach (points c) (Class c) (lowest_points c)
    lowest-each = subst (OneEach (points c) (Class c)) (ap₂ own_points (sym classes-are) (sym every-number)) (own-each classified)
