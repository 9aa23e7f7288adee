-- What accepted tests say of the input; and the outcome of the call, once the tests are known.
use mathlib.Core.Path.{◌≡◌, sym, ◌∙◌, ap, subst}
use mathlib.Core.Bool.{Bool, true, false, ◌&&◌}
use mathlib.Core.List.{List, map}
use Prim.Native.Nat.{ℕ, ◌<◌}
use lib.Dec.{T, eqb}
use lib.IntN.{ℤ, pos, negsuc, nat_abs}
use lib.ListN.{replicate}
use lib.Signed.{non_neg}
use borrow.Author.Tests.{eqb-true}
use Rattle.std.specs.Prelude.{Result, Ok, Err}
use Rattle.std.specs.Result.{is_err}
use Rattle.integer.proofs.Test.{holds, and_l, and_r, is_true}
use Rattle.common.specs.Array.{sides_of, matrices}
use Rattle.common.specs.Limits.{whole_matrices, rotations_fit, diagonal_fits, point_fits}
use Rattle.common.specs.Tested.{giving, output_of, after, Tested, Accepted}
use Rattle.common.specs.declared.Refusal.{Refusal}
use Rattle.common.specs.declared.Refusal.TheVariants.{OutsideLimits, WrongLength}
use Rattle.common.proofs.Tests.{passed}
use Rattle.grgrid.specs.Grid.{size}
use Rattle.grgrid.specs.Own.{own_places}
use Rattle.grgrid.proofs.Accepted.{point-inside}
pub use Rattle.grgrid.proofs.Refusing.{refused, onward}
use Rattle.recip_rotations.specs.PointGroup.{room_tests}
use Rattle.triplet_grid.specs.IrTriplets.{map_triplets_of, input_tests, triplet_tests, classes_at, IrTriplets, ir_triplets_at_q}

pub record InputAccepted (q0 : ℤ) (d rotations : List ℤ) (n m : ℕ) : Type 0 where
  pub whole : T (whole_matrices rotations)
  pub grid : T (diagonal_fits d)
  pub triplets : n ≡ size (sides_of d)
  pub classes : m ≡ size (sides_of d)
  pub sign : T (non_neg q0)
  pub point : nat_abs q0 < size (sides_of d)
  pub fit : T (rotations_fit 100000 rotations)

pub input-accepted : (q0 : ℤ) (d rotations : List ℤ) (n m : ℕ) → input_tests q0 d rotations n m ≡ Accepted → InputAccepted q0 d rotations n m
unfolding input_tests
input-accepted q0 d rotations n m e =
    let size = size (sides_of d) in
    let a = passed (whole_matrices rotations) WrongLength _ e in
    let b = passed (diagonal_fits d) OutsideLimits _ a.1 in
    let c = passed (eqb n size && eqb m size) WrongLength _ b.1 in
    let f = passed (point_fits q0 (pos size)) OutsideLimits _ c.1 in
    let g = passed (rotations_fit 100000 rotations) OutsideLimits _ f.1 in
    let p = point-inside q0 size (holds f.0) in
    record {
      whole = holds a.0;
      grid = holds b.0;
      triplets = eqb-true n size (is_true (eqb n size) (and_l (eqb n size) (eqb m size) (holds c.0)));
      classes = eqb-true m size (is_true (eqb m size) (and_r (eqb n size) (eqb m size) (holds c.0)));
      sign = p.0;
      point = p.1;
      fit = holds g.0;
    }

-- where the call's tests of the input passed, of q0 as a local holds it
pub call-accepted : {held q0 : ℤ} {d rotations : List ℤ} {n m : ℕ} {t : Tested} → t ≡ input_tests held d rotations n m → held ≡ q0 → t ≡ Accepted
    → (input_tests q0 d rotations n m ≡ Accepted) × InputAccepted q0 d rotations n m
call-accepted {q0 = q0} {d} {rotations} {n} {m} e f g = let h = sym (e ∙ ap (λ q. input_tests q d rotations n m) f) ∙ g in (h, input-accepted q0 d rotations n m h)

module _ (q0 : ℤ) (d rotations : List ℤ) (time : Bool) (n m : ℕ) where
  abbrev room : Tested
  room = room_tests (matrices rotations) time false

  pub input-refused : {r : Refusal} → input_tests q0 d rotations n m ≡ Err r → Err r ≡ triplet_tests q0 d rotations time n m
  unfolding triplet_tests
  input-refused e = sym (ap (λ t. after t room) e)

  pub then-room : input_tests q0 d rotations n m ≡ Accepted → room ≡ triplet_tests q0 d rotations time n m
  unfolding triplet_tests
  then-room e = sym (ap (λ t. after t room) e)

  -- ---- the outcome of the call
  module _ (swappable : Bool) where
    abbrev here : List ℕ
    here = classes_at (nat_abs q0) (sides_of d) (matrices rotations) time

    abbrev all : List ℕ
    all = map_triplets_of swappable (sides_of d) (nat_abs q0) here

    abbrev count : ℤ
    count = pos (own_places (map pos all) (size (sides_of d)))

    abbrev outcome : Tested → IrTriplets
    outcome t = record { answer = giving t count; map_triplets = output_of t n (map pos all); map_q = output_of t m (map pos here) }

    outcome-by : {t : Tested} → t ≡ triplet_tests q0 d rotations time n m → outcome t ≡ ir_triplets_at_q q0 d rotations time swappable n m
    unfolding ir_triplets_at_q
    outcome-by e = ap outcome e

    pub answer-refused : {r : Refusal} → Err r ≡ triplet_tests q0 d rotations time n m → Err r ≡ (ir_triplets_at_q q0 d rotations time swappable n m).answer
    answer-refused e = ap (λ o. o.answer) (outcome-by e)

    module _ {x y : List ℤ} where
      pub told : Accepted ≡ triplet_tests q0 d rotations time n m → {k : ℤ} → k ≡ count → x ≡ map pos all → y ≡ map pos here → record { answer = Ok k; map_triplets = x; map_q = y } ≡ ir_triplets_at_q q0 d rotations time swappable n m
      told e f g h = (λ i. record { answer = Ok (f i); map_triplets = g i; map_q = h i }) ∙ outcome-by e

      -- where the answer is a refusal
      pub told-refused : {a : Result ℤ Refusal} → is_err a ≡ true → a ≡ (ir_triplets_at_q q0 d rotations time swappable n m).answer → x ≡ replicate n (negsuc 0) → y ≡ replicate m (negsuc 0)
          → record { answer = a; map_triplets = x; map_q = y } ≡ ir_triplets_at_q q0 d rotations time swappable n m
      unfolding ir_triplets_at_q
      told-refused {a} h e f g = step (triplet_tests q0 d rotations time n m) e
        where
          step : (t : Tested) → a ≡ giving t count → record { answer = a; map_triplets = x; map_q = y } ≡ outcome t
          step (Ok _) e = absurd (subst T (sym h ∙ ap is_err e) tt)
          step (Err r) e = λ i. record { answer = e i; map_triplets = f i; map_q = g i }
