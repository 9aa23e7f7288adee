-- The outcomes of `list_grid` and `list_in_basis`, from those of their steps.
use mathlib.Core.Path.{◌≡◌, sym, ◌∙◌, ap}
use mathlib.Core.Bool.{Bool}
use mathlib.Core.List.{List}
use Prim.Native.Nat.{ℕ, ◌<◌, ◌≤◌}
use native.Mathlib.Omega.{arith}
use lib.Dec.{T}
use lib.IntN.{ℤ}
use lib.ListN.{length}
use borrow.Author.Tests.{le-leb, lt-leb}
use Rattle.std.specs.Prelude.{Result, Ok, Err}
use Rattle.common.specs.Limits.{diagonal_fits}
use Rattle.common.specs.Tested.{require, after, Tested, Accepted, without_value}
use Rattle.common.specs.declared.Refusal.{Refusal}
use Rattle.common.specs.declared.Refusal.TheVariants.{WrongLength}
use Rattle.common.proofs.Tests.{both-accepted}
use Rattle.rotation_group.specs.ReciprocalGroup.{reciprocal_tests}
use Rattle.transform_rotations.specs.TransformRotations.{transform_tests}
use Rattle.transform_rotations.proofs.Accepted.{input-accepted}
use Rattle.transform_rotations.proofs.ExactCall.{tests-input}
use Rattle.bzgrid.specs.declared.Built.{Built}
use Rattle.bzgrid.specs.BzGridAddresses.{bz_grid_addresses}
use Rattle.zone_steps.specs.StepsView.{grid}
use Rattle.zone_steps.specs.Steps.{Rooms, Setting, Lists, group, rotation_tests, points_of, table_of, list_tests, lists_of, images, listed}

module _ (g : Setting) (shift : List ℤ) (r : Rooms) where
  abbrev rest : Tested
  rest = let i = images g shift r in after (without_value i.answer) (list_tests g i.addresses i.map (table_of i.answer))

  pub no_room : {n : ℕ} → n ≡ points_of g → r.classes < n → Err WrongLength ≡ (listed g shift r).answer
  unfolding listed
  no_room e h = sym (ap (λ b. require b WrongLength rest) (lt-leb (points_of g) r.classes (omega arith)))

  module _ {n : ℕ} (e : n ≡ points_of g) (h : n ≤ r.classes) where
    with-room : rest ≡ (listed g shift r).answer
    unfolding listed
    with-room = sym (ap (λ b. require b WrongLength rest) (le-leb (points_of g) r.classes (omega arith)))

    -- images by a number u that stands for the type
    module _ {u : ℤ} (eu : u ≡ g.type) {t : Result Built Refusal} {a b c : List ℤ} (o : record { answer = t; addresses = a; map = b; grg = c } ≡ bz_grid_addresses g.d g.q shift g.lattice u r.addresses r.map r.grg) where
      built : record { answer = t; addresses = a; map = b; grg = c } ≡ images g shift r
      unfolding images
      built = o ∙ ap (λ u. bz_grid_addresses g.d g.q shift g.lattice u r.addresses r.map r.grg) eu

      then-listed : after (without_value t) (list_tests g a b (table_of t)) ≡ (listed g shift r).answer
      then-listed = ap (λ o. after (without_value o.answer) (list_tests g o.addresses o.map (table_of o.answer))) built ∙ with-room

      pub images-refused : {x : Refusal} → t ≡ Err x → Err x ≡ (listed g shift r).answer
      images-refused f = ap (λ t. after (without_value t) (list_tests g a b (table_of t))) (sym f) ∙ then-listed

      module _ {k : Built} (f : t ≡ Ok k) {v : Tested} (ev : v ≡ list_tests g a b k.table) where
        pub grid-tested : v ≡ (listed g shift r).answer
        grid-tested = ev ∙ ap (λ t. after (without_value t) (list_tests g a b (table_of t))) (sym f) ∙ then-listed

        pub grid-listed : v ≡ Accepted → {l : Lists} → l ≡ lists_of g a b k.table r.classes → record { answer = Accepted; addresses = a; map = b; grg = c; lists = l } ≡ listed g shift r
        unfolding listed
        grid-listed ea el = λ i. record {
          answer = (sym ea ∙ grid-tested) i;
          addresses = (built i).addresses;
          map = (built i).map;
          grg = (built i).grg;
          lists = (el ∙ ap (λ t. lists_of g a b (table_of t) r.classes) (sym f) ∙ ap (λ o. lists_of g o.addresses o.map (table_of o.answer) r.classes) built) i;
        }

-- ---- the rotations
module _ (list : List ℤ) (time : Bool) (d : List ℤ) (q : List (List ℤ)) where
  pub rotations-fit : rotation_tests list time d q ≡ Accepted → T (diagonal_fits d)
  unfolding rotation_tests
  rotations-fit e =
      let l = group list time in
      (input-accepted l d q (length l) (tests-input l d q (length l) (both-accepted (reciprocal_tests list time 432) (transform_tests l d q (length l)) e).1)).grid

  pub basis-fits : {t : Result ℕ Refusal} {n : ℕ} → without_value t ≡ rotation_tests list time d q → t ≡ Ok n → T (diagonal_fits d)
  basis-fits e f = rotations-fit (sym e ∙ ap without_value f)

-- and the list of the grid of the rotations l that the steps before it left, where u and v stand for its type and q0
pub in-basis : (g : Setting) (shift : List ℤ) (r : Rooms) {l : List ℤ} {u v : ℤ} {t w : Tested} → l ≡ g.rotations → u ≡ g.type → v ≡ g.q0 → t ≡ Accepted
    → w ≡ (listed (grid g.d g.q l g.lattice g.time_reversal g.swappable u v) shift r).answer → w ≡ after t (listed g shift r).answer
in-basis g shift r el eu ev et e =
    e ∙ (λ i. (listed (grid g.d g.q (el i) g.lattice g.time_reversal g.swappable (eu i) (ev i)) shift r).answer) ∙ ap (λ t. after t (listed g shift r).answer) (sym et)
