-- The points of document 01 that are proved, as rows: what is computed, and what it comes to.
use mathlib.Core.Path.{◌≡◌, refl}
use mathlib.Core.List.{List, [], ◌∷◌}
use Prim.Native.Nat.{ℕ}
use native.Mathlib.Omega.{arith}
use lib.IntN.{ℤ, pos, negsuc}
use Rattle.std.specs.Prelude.{Option, Some, None}
use Rattle.common.specs.Refusal.{number_of}
use Rattle.common.specs.Matrix.{Mat, entries, diagonal, identity}
use Rattle.common.specs.IntegerMatrix.{product_fits, det_fits}
use Rattle.snf_steps.specs.declared.gcd.Euclid.{Euclid}
use Rattle.snf_steps.specs.Gcd.{step, euclid, extended_gcd, divisions, steps}
use Rattle.snf_steps.specs.Columns.{multiply, make_zero, first_column, second_column}
use Rattle.snf_steps.specs.Pivot.{pivot}
use Rattle.snf_steps.specs.Stages.{Triple, one_loop, first, second, again}
use Rattle.snf_steps.specs.Finalize.{make_diag_positive, finalize_sort, finalize_disturb, flip_pq, put_in_order, finalize}
use Rattle.snf3x3.specs.Snf3x3.{Answer, refused, diagonalised, round, rounds, begun, snf3x3}
use Rattle.snf3x3.specs.FewRounds.{Reached, from, on}

pub record Row : Type 0 where
  pub computed : List ℤ
  pub stated : List ℤ

abbrev Right : List Row → Type 0
Right [] = Unit {0}
Right (r ∷ rows) = (r.computed ≡ r.stated) × Right rows

-- the number of a refusal, or the rounds, d, P and Q
abbrev numbers : Answer → List ℤ
numbers (refused r) = pos (number_of r) ∷ []
numbers (diagonalised d p q n) = pos n ∷ d.x ∷ d.y ∷ d.z ∷ entries p (entries q [])

-- r, s and t, or the refusal 4
abbrev gcd : Option Euclid → List ℤ
gcd (Some e) = e.r ∷ e.s ∷ e.t ∷ []
gcd None = []

abbrev diag : ℕ → ℕ → ℕ → List ℤ
diag x y z = numbers (snf3x3 (diagonal (record { x = pos x; y = pos y; z = pos z })))

-- the smallest matrix known that is refused by 4
abbrev smallest : Mat ℤ
smallest = record { a = pos 56; b = pos 36; c = pos 47; d = pos 68; e = pos 66; f = negsuc 35; g = pos 14; h = negsuc 41; i = negsuc 36 }

abbrev table : List Row
table =
    -- no Smith form
    record {
      computed = diag 2 2 3;
      stated =
          pos 1 ∷ pos 2 ∷ pos 1 ∷ pos 6
          ∷ pos 1 ∷ pos 0 ∷ pos 0 ∷ pos 0 ∷ negsuc 0 ∷ pos 1 ∷ pos 0 ∷ negsuc 2 ∷ pos 2
          ∷ pos 1 ∷ pos 0 ∷ pos 0 ∷ pos 0 ∷ pos 1 ∷ negsuc 2 ∷ pos 0 ∷ pos 1 ∷ negsuc 1 ∷ [];
    }
    ∷ record {
      computed = diag 3 1 1;
      stated =
          pos 1 ∷ pos 1 ∷ pos 1 ∷ pos 3
          ∷ pos 0 ∷ pos 1 ∷ pos 0 ∷ pos 0 ∷ pos 0 ∷ pos 1 ∷ pos 1 ∷ pos 0 ∷ pos 0
          ∷ pos 0 ∷ pos 0 ∷ pos 1 ∷ pos 1 ∷ pos 0 ∷ pos 0 ∷ pos 0 ∷ pos 1 ∷ pos 0 ∷ [];
    }
    ∷ record { computed = diag 0 0 0; stated = pos 1 ∷ [] }
    ∷ record { computed = numbers (snf3x3 smallest); stated = pos 4 ∷ [] }
    ∷ record { computed = gcd (extended_gcd (pos 2) (pos 2)); stated = pos 2 ∷ pos 0 ∷ pos 1 ∷ [] }
    ∷ record { computed = gcd (extended_gcd (pos 4) (negsuc 1)); stated = negsuc 1 ∷ pos 0 ∷ pos 1 ∷ [] }
    ∷ record { computed = gcd (extended_gcd (negsuc 1) (pos 4)); stated = pos 2 ∷ pos 1 ∷ pos 1 ∷ [] }
    ∷ []

points : Right table
unfolding snf3x3 rounds round finalize put_in_order make_diag_positive finalize_sort finalize_disturb flip_pq first second one_loop first_column second_column make_zero multiply extended_gcd euclid step product_fits det_fits
points = (refl, (refl, (refl, (refl, (refl, (refl, (refl, tt)))))))

-- a round without an answer: the pivot that it leaves is 2, which divides the determinant 30
abbrev uneven : Mat ℤ
uneven = record { a = pos 6; b = pos 4; c = pos 0; d = pos 0; e = pos 5; f = pos 0; g = pos 0; h = pos 0; i = pos 1 }

abbrev left : Triple
left = record {
  a = record { a = pos 2; b = pos 0; c = pos 0; d = negsuc 4; e = pos 15; f = pos 0; g = pos 0; h = pos 0; i = pos 1 };
  p = identity;
  q = record { a = pos 1; b = negsuc 0; c = pos 0; d = negsuc 1; e = pos 3; f = pos 0; g = pos 0; h = pos 0; i = pos 1 };
}

failed : round (begun uneven) ≡ again left
unfolding round first one_loop first_column make_zero multiply extended_gcd euclid step product_fits
failed = refl

pivot-left : pivot left.a ≡ pos 2
pivot-left = refl

reached : Reached uneven left
reached = on (from tt (omega arith)) failed

-- the most divisions that a pair of 64 bits takes
most-steps : steps (pos 4660046610375530309) (pos 7540113804746346429) ≡ 91
unfolding divisions
most-steps = refl
