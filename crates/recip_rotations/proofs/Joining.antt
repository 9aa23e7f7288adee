-- What `join` answers and leaves, by its branches; out holds f matrices.
use mathlib.Core.Path.{◌≡◌, sym, ◌∙◌, ap, ap₂}
use mathlib.Core.Bool.{Bool, true, false, not, ◌||◌}
use mathlib.Core.List.{List, ◌++◌, map}
use Prim.Native.Nat.{ℕ, ◌*◌, ◌<◌, ◌≤◌}
use native.Mathlib.Omega.{arith}
use lib.Dec.{leb}
use lib.IntN.{ℤ, neg_ℤ}
use lib.ListN.{length, length-append, length-map}
use lib.Seq.{paste}
use borrow.Author.Tests.{le-leb, lt-leb}
use Rattle.std.specs.Prelude.{Ok, Err}
use Rattle.common.specs.Matrix.{Mat, negate}
use Rattle.common.specs.Array.{matrices_from}
use Rattle.common.specs.Tested.{require, Tested, Accepted}
use Rattle.common.specs.declared.Refusal.TheVariants.{TooManyForInversion}
use Rattle.common.proofs.Reading.{length_from}
use Rattle.recip_rotations.specs.Flat.{laid}
use Rattle.recip_rotations.specs.PointGroup.{joins, with_negatives, join_tests}
use Rattle.recip_rotations.specs.Code.Steps.{Grouped}
use Rattle.recip_rotations.proofs.Blocks.{laid-self, laid-negatives}
use Rattle.recip_rotations.proofs.Outcomes.{accepted, refused}

-- whether the negatives are joined, and whether they have room
abbrev tests : Bool → Bool → Tested
tests j k = require (not j || k) TooManyForInversion Accepted

module _ (out : List ℤ) (f : ℕ) (t : Bool) (h : f * 9 ≤ length out) where
  abbrev list : List (Mat ℤ)
  list = matrices_from out 0 f

  abbrev told : Bool → List (Mat ℤ)
  told j = elim j [ true ↦ list ++ map negate list | false ↦ list ]

  pub join-none : joins t list ≡ false → Grouped (join_tests t list) (with_negatives t list) out out (Ok f)
  join-none e =
      accepted (ap (λ j. tests j (leb (length list) 24)) e)
      (sym (length_from out 0 f) ∙ ap (λ j. length (told j)) (sym e))
      (laid-self out f h ∙ ap (λ j. laid (told j) out) (sym e))

  module _ (e : joins t list ≡ true) where
    pub join-full : {after : List ℤ} → 24 < f → Grouped (join_tests t list) (with_negatives t list) out after (Err TooManyForInversion)
    join-full k = refused (ap₂ tests e (lt-leb (length list) 24 (omega (arith, length_from out 0 f))))

    pub join-all : {after : List ℤ} → f ≤ 24 → after ≡ paste out (f * 9) (map neg_ℤ out) (f * 9) → Grouped (join_tests t list) (with_negatives t list) out after (Ok (f * 2))
    join-all k p =
        let twice : f * 2 ≡ length (list ++ map negate list) = omega (arith, length-append list (map negate list), length-map list negate, length_from out 0 f) in
        accepted (ap₂ tests e (le-leb (length list) 24 (omega (arith, length_from out 0 f))))
        (twice ∙ ap (λ j. length (told j)) (sym e))
        (p ∙ laid-negatives out f h ∙ ap (λ j. laid (told j) out) (sym e))
