-- The loop over the rotations: what is tested and written after n turns, and what is left.
use mathlib.Core.Path.{◌≡◌, refl, sym, ◌∙◌, ap, ap₂}
use mathlib.Core.Bool.{Bool, true, false, ◌&&◌}
use mathlib.Core.List.{List, [], ◌∷◌, ◌++◌, append_assoc, append-nil, map}
use Prim.Native.Nat.{ℕ, suc, ◌+◌, ◌-◌, ◌*◌, ◌≤◌, ◌<◌}
use native.Mathlib.Omega.{arith}
use lib.IntN.{ℤ}
use lib.Ieee.{Float}
use lib.ListN.{length, take, drop, length-append, take-append-drop, drop_of_length-le}
use lib.Seq.{sets, sets-eq, take_at, length-take-le, drop-drop}
use borrow.Rule.Slice.PartMut.{put_mid}
use Rattle.std.specs.Prelude.{Result, Ok, Err}
use Rattle.common.specs.declared.Refusal.{Refusal}
use Rattle.common.specs.declared.Refusal.TheVariants.{SymmetryBroken}
use Rattle.common.specs.Tested.{require}
use Rattle.common.proofs.Tests.{same-ok, same-refusal, refused-not-ok}
use Rattle.common.specs.Matrix.{Mat, entries}
use Rattle.common.specs.Array.{rows, matrix_at, matrices_from, flat}
use Rattle.common.specs.Every.{every}
use Rattle.transform_rotations.specs.Transform.{is_whole, rounded}

-- ---- lists
module _ (out : List ℤ) (at : ℕ) (m : Mat ℤ) (h : at + 9 ≤ length out) where
  abbrev front : List ℤ
  front = take at out ++ entries m []

  length_front : length front ≡ at + 9
  length_front = length-append (take at out) (entries m []) ∙ ap (λ n. n + 9) (length-take-le at out (omega arith))

  -- nine numbers copied
  pub copied : put_mid at (at + 9 - at) out (entries m []) ≡ sets out at (entries m [])
  copied =
      ap (λ k. put_mid at k out (entries m [])) nine
      ∙ ap (λ t. take at out ++ (entries m [] ++ t)) (drop-drop 9 at out)
      ∙ sym (append_assoc (take at out) (entries m []) (drop (at + 9) out))
      ∙ sym (sets-eq (entries m []) out at h)
    where
      nine : at + 9 - at ≡ 9
      nine = omega arith

  -- after nine stores
  taken-sets : take (at + 9) (sets out at (entries m [])) ≡ front
  taken-sets =
      ap (take (at + 9)) (sets-eq (entries m []) out at h) ∙ take_at front (drop (at + 9) out) (at + 9) length_front

-- a part that is all
taken : (out : List ℤ) (n : ℕ) → length out ≤ n → take n out ≡ out
taken out n h = sym (append-nil (take n out)) ∙ ap (λ r. take n out ++ r) (sym (drop_of_length-le out h)) ∙ take-append-drop n out

-- ---- what a turn is given: the rounded entries, or the refusal
abbrev pub turn : Mat Float → Result (List (List ℤ)) Refusal
turn t = require (is_whole t) SymmetryBroken (Ok (rows (rounded t)))

module _ {A : Type 0} where
  pub kept : (b : Bool) (r : Refusal) (a k : A) → Ok k ≡ require b r (Ok a) → (b ≡ true) × (k ≡ a)
  kept true r a k e = (refl, same-ok e)
  kept false r a k e = absurd (refused-not-ok (sym e))

  pub dropped : (b : Bool) (r : Refusal) (a : A) (s : Refusal) → Err s ≡ require b r (Ok a) → (b ≡ false) × (s ≡ r)
  dropped true r a s e = absurd (refused-not-ok e)
  dropped false r a s e = (refl, same-refusal e)

-- ---- n turns of the loop
-- the rotations of l, each transformed by g, as the test and the output have them
module _ (g : Mat ℤ → Mat Float) (l : List (Mat ℤ)) where
  abbrev whole_by : Bool
  whole_by = every (λ r. is_whole (g r)) l

  abbrev list_by : List ℤ
  list_by = flat (map (λ r. rounded (g r)) l)

pub record Turned (g : Mat ℤ → Mat Float) (l : List ℤ) (count n : ℕ) (out : List ℤ) : Type 0 where
  pub whole : whole_by g (matrices_from l n (count - n)) ≡ whole_by g (matrices_from l 0 count)
  pub list : take (n * 9) out ++ list_by g (matrices_from l n (count - n)) ≡ list_by g (matrices_from l 0 count)

module _ (g : Mat ℤ → Mat Float) (l : List ℤ) (count : ℕ) where
  pub turned_none : (out : List ℤ) → Turned g l count 0 out
  turned_none out = let e : matrices_from l 0 (count - 0) ≡ matrices_from l 0 count = ap (matrices_from l 0) (none-off count) in record { whole = ap (whole_by g) e; list = ap (list_by g) e }
    where
      none-off : (n : ℕ) → n - 0 ≡ n
      none-off n = omega arith

  module _ (n : ℕ) (h : n < count) where
    next : matrices_from l n (count - n) ≡ matrix_at l n ∷ matrices_from l (n + 1) (count - (n + 1))
    next = ap (matrices_from l n) (one_more n count h) ∙ ap (λ k. matrix_at l n ∷ matrices_from l k (count - (n + 1))) (plus_one n)
      where
        one_more : (n count : ℕ) → n < count → count - n ≡ suc (count - (n + 1))
        one_more n count h = omega arith

        plus_one : (n : ℕ) → suc n ≡ n + 1
        plus_one n = omega arith

    module _ {out : List ℤ} (t : Turned g l count n out) where
      pub broken : is_whole (g (matrix_at l n)) ≡ false → whole_by g (matrices_from l 0 count) ≡ false
      broken e = sym t.whole ∙ ap (whole_by g) next ∙ ap (λ b. b && whole_by g (matrices_from l (n + 1) (count - (n + 1)))) e

      -- one more rotation tested and written
      module _ (r : n * 9 + 9 ≤ length out) (e : is_whole (g (matrix_at l n)) ≡ true) where
        abbrev m : Mat ℤ
        m = rounded (g (matrix_at l n))

        abbrev rest : List (Mat ℤ)
        rest = matrices_from l (n + 1) (count - (n + 1))

        listed : take ((n + 1) * 9) (sets out (n * 9) (entries m [])) ++ list_by g rest ≡ list_by g (matrices_from l 0 count)
        listed =
            ap (λ k. take k (sets out (n * 9) (entries m [])) ++ list_by g rest) (nine n)
            ∙ ap (λ p. p ++ list_by g rest) (taken-sets out (n * 9) m r)
            ∙ append_assoc (take (n * 9) out) (entries m []) (list_by g rest)
            ∙ sym (ap (λ r. take (n * 9) out ++ list_by g r) next)
            ∙ t.list
          where
            nine : (n : ℕ) → (n + 1) * 9 ≡ n * 9 + 9
            nine n = omega arith

        pub turned_on : {done : List ℤ} → done ≡ sets out (n * 9) (entries m []) → Turned g l count (n + 1) done
        turned_on f = record { whole = sym (ap (λ b. b && whole_by g rest) e) ∙ sym (ap (whole_by g) next) ∙ t.whole; list = ap (λ o. take ((n + 1) * 9) o ++ list_by g rest) f ∙ listed }

  module _ (n : ℕ) (h : count ≤ n) {out : List ℤ} (t : Turned g l count n out) where
    none : matrices_from l n (count - n) ≡ []
    none = ap (matrices_from l n) (zero_left n count h)
      where
        zero_left : (n count : ℕ) → count ≤ n → count - n ≡ 0
        zero_left n count h = omega arith

    pub all_whole_lem : true ≡ whole_by g (matrices_from l 0 count)
    all_whole_lem = sym (ap (whole_by g) none) ∙ t.whole

    pub all_listed : length out ≤ n * 9 → out ≡ list_by g (matrices_from l 0 count)
    all_listed k =
        sym (ap₂ (λ p r. p ++ list_by g r) (taken out (n * 9) k) none ∙ append-nil out) ∙ t.list
