-- What accepted tests say of the input of `triplets_in`, and its outcome from that of the walk over the classes.
use mathlib.Core.Path.{◌≡◌, refl, sym, ◌∙◌, ap, ap₂}
use mathlib.Core.Bool.{Bool, true, ◌&&◌, ◌||◌, true≢false}
use mathlib.Core.List.{List}
use Prim.Native.Nat.{ℕ, ◌*◌, ◌<◌}
use native.Mathlib.Nat.{lt_of_lt_of_le, le_trans}
use lib.Dec.{T, eqb, lit≤}
use lib.IntN.{ℤ, pos, negsuc, nat_abs}
use lib.ListN.{length, replicate}
use lib.Ieee.{Float, binary64, of_int}
use lib.Signed.{non_neg, mag}
use mir.Syntax.{w64}
use mir.Val.{SFits}
use mir.Facts.{to_z-of_z}
use borrow.Author.Tests.{eqb-true}
use Rattle.std.specs.Prelude.{Result, Ok, Err, is_err, IfOk}
use Rattle.integer.proofs.Fits.{held}
use Rattle.integer.proofs.Test.{holds, and_l, and_r, is_true}
use Rattle.common.specs.Matrix.{Vec}
use Rattle.common.specs.Array.{sides_of, matrix_of}
use Rattle.common.specs.FloatMatrix.{float_matrix}
use Rattle.common.specs.Limits.{matrix_within, diagonal_fits, point_fits}
use Rattle.common.specs.Tested.{require, giving, filled_or, output_of, Tested, Accepted, ◌then◌}
use Rattle.common.specs.declared.Refusal.{Refusal}
use Rattle.common.specs.declared.Refusal.TheVariants.{WrongLength, OutsideLimits}
use Rattle.common.proofs.Tests.{same-ok, refused-not-ok}
use Rattle.grgrid.specs.Grid.{size}
use Rattle.grgrid.specs.Sides.{GridFits}
use Rattle.grgrid.specs.Own.{own_places, own_points}
use Rattle.grgrid.proofs.Folding.{index-lt}
use Rattle.bzgrid.specs.declared.GridType.{GridType}
use Rattle.bzgrid.specs.declared.GridType.TheVariants.{Sparse, Dense}
use Rattle.bzgrid.specs.BzGridAddresses.{grid_type_of}
use Rattle.bzgrid.proofs.Accepted.{passes}
use Rattle.bzsearch.specs.Lattice.{lattice_fits}
use Rattle.bztable.specs.Reading.{Read, got, whole_addresses, address_of, list_of, read_each}
use Rattle.bz_triplets.specs.BzTriplets.{State, Walk, walk_of, point_of, triplet_of, triplet_at, is_dense, input_tests, triplets_read, states_read, triplet_list, cell_list, marks, lengths, BzTriplets, triplet_tests, triplets_in}
use Rattle.bz_triplets.specs.Code.TripletsView.{RoomFor}

-- ---- an address that was read was asked for by a number that is not negative
pub asked-for : (addresses : List ℤ) (q0 : ℤ) {a : Vec ℤ} → got a ≡ address_of addresses q0 → T (non_neg q0)
asked-for addresses (pos n) e = tt
asked-for addresses (negsuc n) e = absurd (refused-not-ok (sym e))

-- which then fits, as does the grid point of q0
pub whole_below : {z : ℤ} → SFits w64 z → T (non_neg (held z)) → nat_abs (held z) < 9223372036854775808
whole_below {z} f = rw (to_z-of_z f) (below z f.sfits)
  where
    below : (z : ℤ) → mag z < 9223372036854775808 → T (non_neg z) → nat_abs z < 9223372036854775808
    below (pos n) h t = h
    below (negsuc n) h t = absurd t

pub point-below : (d : Vec ℕ) → GridFits d → (t : GridType) {n : ℕ} → n < 9223372036854775808 → (a0 : Vec ℤ) → point_of d t n a0 < 9223372036854775808
point-below d g Sparse h a0 = h
point-below d g Dense h a0 = lt_of_lt_of_le (index-lt d (record { positive = g.positive }) a0) (le_trans g.few (lit≤ tt))

-- ---- the input of a call, with the type t of its tables and the lengths of its outputs
pub record Input : Type 0 where
  pub layout : Result GridType Refusal
  pub q0 : ℤ
  pub addresses : List ℤ
  pub map : List ℤ
  pub classes : List ℤ
  pub d : List ℤ
  pub q : List (List ℤ)
  pub lattice : List (List Float)
  pub t : ℤ
  pub n : ℕ
  pub m : ℕ
  pub l : ℕ
  pub c : ℕ

pub record InputAccepted (i : Input) (k : GridType) : Type 0 where
  pub room : RoomFor i.classes i.n i.m i.l i.c
  pub grid : T (diagonal_fits i.d)
  pub known : i.layout ≡ Ok k

-- over the grid g by the walk w, where p is the point of q0
abbrev each : Input → GridType → Vec ℕ → Walk → Vec ℤ → ℕ → Read (List State)
each i k g w a0 p = read_each (triplet_of k g i.map w a0 p) (own_points i.classes (length i.classes))

module _ (i : Input) where
  abbrev pub inputs : (q0 t : ℤ) → Result GridType Refusal
  inputs q0 t = input_tests i.layout q0 i.addresses i.classes i.d i.q i.lattice t i.n i.m i.l i.c

  abbrev pub read : GridType → Read (List State)
  read k = triplets_read i.q0 i.addresses i.map i.classes i.d i.q i.lattice k

  abbrev pub states : List State
  states = states_read i.layout i.q0 i.addresses i.map i.classes i.d i.q i.lattice

  abbrev pub answer : Tested
  answer = triplet_tests i.layout i.q0 i.addresses i.map i.classes i.d i.q i.lattice i.t i.n i.m i.l i.c

  abbrev pub lengths_fit : ℕ → Bool
  lengths_fit own = whole_addresses i.addresses && (eqb i.n (own * 3) && (eqb i.m own && (eqb i.l own && eqb i.c (own * 3))))

  abbrev limits_fit : Bool
  limits_fit = diagonal_fits i.d && (matrix_within 1000 (matrix_of i.q) && lattice_fits (float_matrix i.lattice))

  abbrev pub point_inside : ℤ → Result GridType Refusal → Bool
  point_inside q0 r = is_dense r || point_fits q0 (pos (size (sides_of i.d)))

  -- ---- the tests of the input
  pub tested : (q0 t : ℤ) {u v w : Bool} → u ≡ lengths_fit (own_places i.classes (length i.classes)) → v ≡ limits_fit → w ≡ point_inside q0 (grid_type_of t)
      → require u WrongLength (require v OutsideLimits (require w OutsideLimits i.layout)) ≡ inputs q0 t
  unfolding input_tests
  tested q0 t a b c = λ j. require (a j) WrongLength (require (b j) OutsideLimits (require (c j) OutsideLimits i.layout))

  input-passed : {k : GridType} → inputs i.q0 i.t ≡ Ok k → InputAccepted i k
  unfolding input_tests
  input-passed e =
      let own = own_places i.classes (length i.classes) in
      let triplets = eqb i.n (own * 3) in
      let left = eqb i.m own in
      let lengths = eqb i.l own in
      let cells = eqb i.c (own * 3) in
      let limits = matrix_within 1000 (matrix_of i.q) && lattice_fits (float_matrix i.lattice) in
      let a = passes (whole_addresses i.addresses && (triplets && (left && (lengths && cells)))) WrongLength _ e in
      let b = passes (diagonal_fits i.d && limits) OutsideLimits _ a.1 in
      let c = passes (point_inside i.q0 (grid_type_of i.t)) OutsideLimits i.layout b.1 in
      let four = and_r (whole_addresses i.addresses) (triplets && (left && (lengths && cells))) (holds a.0) in
      let three = and_r triplets (left && (lengths && cells)) four in
      let two = and_r left (lengths && cells) three in
      record {
        room = record {
          triplets = eqb-true i.n (own * 3) (is_true triplets (and_l triplets (left && (lengths && cells)) four));
          left = eqb-true i.m own (is_true left (and_l left (lengths && cells) three));
          lengths = eqb-true i.l own (is_true lengths (and_l lengths cells two));
          cells = eqb-true i.c (own * 3) (is_true cells (and_r lengths cells two));
        };
        grid = and_l (diagonal_fits i.d) limits (holds b.0);
        known = c.1;
      }

  -- ---- where the code has q0 and the type back from their bits
  module _ {q0 t : ℤ} (same : q0 ≡ i.q0) (same-type : t ≡ i.t) where
    pub input-accepted : {k : GridType} → Ok k ≡ inputs q0 t → InputAccepted i k
    input-accepted e = input-passed (sym (e ∙ ap₂ inputs same same-type))

    pub tests-read : {r : Result GridType Refusal} → r ≡ inputs q0 t → (r then λ k. read k then λ _. Accepted) ≡ answer
    unfolding triplet_tests
    tests-read e = ap (λ r. r then λ k. read k then λ _. Accepted) (e ∙ ap₂ inputs same same-type)

  module _ (k : GridType) where
    module _ {q0 : ℤ} (same : q0 ≡ i.q0) where
      abbrev from : Read (Vec ℤ) → Read (List State)
      from b = b then λ a0. read_each (triplet_at i.q0 i.addresses i.map i.classes i.d i.q i.lattice k a0) (own_points i.classes (length i.classes))

      pub read-from : {b : Read (Vec ℤ)} → b ≡ address_of i.addresses q0 → from b ≡ read k
      unfolding triplets_read
      read-from e = ap from (e ∙ ap (address_of i.addresses) same)

      pub walked : {a0 : Vec ℤ} → got a0 ≡ address_of i.addresses q0 → {g : Vec ℕ} → g ≡ sides_of i.d → {w : Walk} → w ≡ walk_of i.addresses i.d i.q i.lattice → {p : ℕ} → p ≡ point_of g k (nat_abs q0) a0 → each i k g w a0 p ≡ read k
      walked {a0} f {g} eg ew ep = (λ j. each i k (eg j) (ew j) a0 ((ep ∙ (λ j. point_of (eg j) k (nat_abs (same j)) a0)) j)) ∙ read-from f

    -- cells by the grid that stands for d
    pub celled : (r : Tested) (x : List ℤ) {g : Vec ℕ} {y : Read (List State)} → giving r x ≡ (y then λ l. got (cell_list g l)) → g ≡ sides_of i.d → y ≡ read k
        → giving r x ≡ (read k then λ l. got (cell_list (sides_of i.d) l))
    celled r x e eg ey = e ∙ (λ j. ey j then λ l. got (cell_list (eg j) l))

    -- ---- where the walk gave r and left x
    module _ {B : Type 0} (f : List State → B) (r : Tested) (x : B) (w : giving r x ≡ (read k then λ l. got (f l))) where
      pub walk-answer : r ≡ (read k then λ _. Accepted)
      walk-answer = given r ∙ ap (λ y. y then λ _. Accepted) w ∙ dropped (read k)
        where
          given : (r : Tested) → r ≡ (giving r x then λ _. Accepted)
          given (Ok _) = refl
          given (Err e) = refl

          dropped : (y : Read (List State)) → ((y then λ l. got (f l)) then λ _. Accepted) ≡ (y then λ _. Accepted)
          dropped (Ok l) = refl
          dropped (Err e) = refl

      pub walk-output : InputAccepted i k → r ≡ Accepted → x ≡ f states
      unfolding states_read
      walk-output a e = go (read k) (ap (λ r. giving r x) (sym e) ∙ w) ∙ ap (λ t. f (list_of (t then read))) (sym a.known)
        where
          go : (y : Read (List State)) → got x ≡ (y then λ l. got (f l)) → x ≡ f (list_of y)
          go (Ok l) h = same-ok h
          go (Err e) h = absurd (refused-not-ok (sym h))

  -- ---- the outcome of the call
  abbrev call : BzTriplets
  call = triplets_in i.layout i.q0 i.addresses i.map i.classes i.d i.q i.lattice i.t i.n i.m i.l i.c

  abbrev outcome : Tested → BzTriplets
  outcome s = record {
    answer = s;
    out = output_of s i.n (triplet_list states);
    left = output_of s i.m (marks states);
    left_length = filled_or (of_int binary64 (negsuc 0)) s i.l (lengths states);
    cells = output_of s i.c (cell_list (sides_of i.d) states);
  }

  module _ {out left : List ℤ} {left_length : List Float} {cells : List ℤ} where
    pub chosen : (s : Tested) → s ≡ answer → (s ≡ Accepted → out ≡ triplet_list states) → (s ≡ Accepted → left ≡ marks states) → (s ≡ Accepted → left_length ≡ lengths states)
        → (s ≡ Accepted → cells ≡ cell_list (sides_of i.d) states) → IfOk s (λ _. record { answer = Accepted; out = out; left = left; left_length = left_length; cells = cells } ≡ call)
    unfolding triplets_in
    chosen (Ok _) e f g h k = (λ j. record { answer = Accepted; out = f refl j; left = g refl j; left_length = h refl j; cells = k refl j }) ∙ ap outcome e
    chosen (Err r) e f g h k = tt

    pub refused : (s : Tested) → is_err s ≡ true → s ≡ answer → out ≡ replicate i.n (negsuc 0) → left ≡ replicate i.m (negsuc 0) → left_length ≡ replicate i.l (of_int binary64 (negsuc 0))
        → cells ≡ replicate i.c (negsuc 0) → record { answer = s; out = out; left = left; left_length = left_length; cells = cells } ≡ call
    unfolding triplets_in
    refused (Ok _) k e f g h l = absurd (true≢false (sym k))
    refused (Err r) k e f g h l = (λ j. record { answer = Err r; out = f j; left = g j; left_length = h j; cells = l j }) ∙ ap outcome e
