-- What accepted tests say of the input of `neighbours_in`, and its outcome from that of the walk.
use mathlib.Core.Path.{◌≡◌, refl, sym, ◌∙◌, ap}
use mathlib.Core.Bool.{true, false, true≢false}
use mathlib.Core.List.{List, [], ◌∷◌}
use Prim.Native.Nat.{ℕ, zero, suc, ◌*◌, ◌/◌}
use native.Mathlib.Omega.{arith}
use lib.Dec.{T, eqb}
use lib.IntN.{ℤ, negsuc}
use lib.ListN.{length, replicate}
use borrow.Author.Tests.{eqb-true}
use Rattle.std.specs.Prelude.{Result, Ok, Err, is_err, IfOk}
use Rattle.integer.proofs.Test.{holds}
use Rattle.common.specs.Array.{sides_of}
use Rattle.common.specs.Limits.{all_within, diagonal_fits}
use Rattle.common.specs.Tested.{giving, output_of, Tested, Accepted, ◌then◌}
use Rattle.common.specs.declared.Refusal.{Refusal}
use Rattle.common.specs.declared.Refusal.TheVariants.{WrongLength, OutsideLimits}
use Rattle.common.proofs.Tests.{passed}
use Rattle.bzgrid.specs.declared.GridType.{GridType}
use Rattle.bztable.specs.Reading.{Read, got, whole_addresses, tests_after, list_of}
use Rattle.bztable.specs.Neighbours.{all_neighbours, read_for, input_tests, neighbours_read, Neighbours, neighbour_tests, neighbours_in}

-- ---- the tests of the input
pub record InputAccepted (points : ℕ) (offsets d : List ℤ) (n : ℕ) : Type 0 where
  pub places : n ≡ points * (length offsets / 3)
  pub grid : T (diagonal_fits d)
  pub steps : T (all_within 1000 offsets)

pub input-accepted : (points : ℕ) (offsets addresses d : List ℤ) (n : ℕ) → input_tests points offsets addresses d n ≡ Accepted → InputAccepted points offsets d n
unfolding input_tests
input-accepted points offsets addresses d n e =
    let a = passed (whole_addresses offsets) WrongLength _ e in
    let b = passed (whole_addresses addresses) WrongLength _ a.1 in
    let c = passed (eqb n (points * (length offsets / 3))) WrongLength _ b.1 in
    let f = passed (diagonal_fits d) OutsideLimits _ c.1 in
    let g = passed (all_within 1000 offsets) OutsideLimits _ f.1 in
    record { places = eqb-true n (points * (length offsets / 3)) c.0; grid = holds f.0; steps = holds g.0 }

-- ---- the walk
module _ (k : Result GridType Refusal) (points offsets addresses map d : List ℤ) (n : ℕ) where
  abbrev read : Read (List ℤ)
  read = neighbours_read k points offsets addresses map d n

  abbrev all : GridType → Read (List ℤ)
  all t = all_neighbours t (sides_of d) offsets addresses map points

  pub read-none : n ≡ 0 → read ≡ got []
  unfolding neighbours_read
  read-none e = ap (λ n. read_for n (k then all)) e

  pub read-some : (n ≡ 0 → ⊥) → {r : Result GridType Refusal} → r ≡ k → read ≡ (r then all)
  unfolding neighbours_read
  read-some h e = some n h ∙ ap (λ r. r then all) (sym e)
    where
      some : (n : ℕ) → (n ≡ 0 → ⊥) → read_for n (k then all) ≡ (k then all)
      some zero h = absurd (h refl)
      some (suc n) h = refl

  pub after-tests : {s : Tested} → s ≡ input_tests (length points) offsets addresses d n → tests_after s read ≡ neighbour_tests k points offsets addresses map d n
  unfolding neighbour_tests
  after-tests e = ap (λ s. tests_after s read) e

  -- where the walk gave r and left `out`
  module _ (r : Tested) (out : List ℤ) (w : giving r out ≡ read) where
    pub walk-answer : r ≡ (read then λ _. Accepted)
    walk-answer = go r ∙ ap (λ x. x then λ _. Accepted) w
      where
        go : (r : Tested) → r ≡ (giving r out then λ _. Accepted)
        go (Ok _) = refl
        go (Err e) = refl

    pub walk-output : r ≡ Accepted → out ≡ list_of read
    walk-output e = ap (λ r. list_of (giving r out)) (sym e) ∙ ap list_of w

  -- ---- the outcome
  abbrev outcome : Tested → Neighbours
  outcome s = record { answer = s; out = output_of s n (list_of read) }

  module _ {out : List ℤ} where
    pub found : Accepted ≡ neighbour_tests k points offsets addresses map d n → out ≡ list_of read → record { answer = Accepted; out = out } ≡ neighbours_in k points offsets addresses map d n
    unfolding neighbours_in
    found e f = (λ i. record { answer = Accepted; out = f i }) ∙ ap outcome e

    pub found-if : (r : Tested) → r ≡ neighbour_tests k points offsets addresses map d n → (r ≡ Accepted → out ≡ list_of read) → IfOk r (λ _. record { answer = Accepted; out = out } ≡ neighbours_in k points offsets addresses map d n)
    found-if (Ok _) e f = found e (f refl)
    found-if (Err r) e f = tt

    pub refused : (r : Tested) → is_err r ≡ true → r ≡ neighbour_tests k points offsets addresses map d n → out ≡ replicate n (negsuc 0) → record { answer = r; out = out } ≡ neighbours_in k points offsets addresses map d n
    unfolding neighbours_in
    refused (Ok _) h e f = absurd (true≢false (sym h))
    refused (Err r) h e f = (λ i. record { answer = Err r; out = f i }) ∙ ap outcome e

pub none : (out : List ℤ) → length out ≡ 0 → out ≡ []
none [] h = refl
none (z ∷ out) h = absurd (never (length out) h)
  where
    never : (n : ℕ) → suc n ≡ 0 → ⊥
    never n h = omega arith

pub some : (n : ℕ) → eqb n 0 ≡ false → n ≡ 0 → ⊥
some zero e h = true≢false e
some (suc n) e h = omega (arith, h)
