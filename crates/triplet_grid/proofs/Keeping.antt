-- The operations that keep q0, found matrix by matrix and moved to the front of their list.
use mathlib.Core.Path.{◌≡◌, refl, sym, ◌∙◌, ap, ap₂}
use mathlib.Core.Bool.{Bool, true, false, cond}
use mathlib.Core.List.{List, [], ◌∷◌, ◌++◌, append-nil}
use Prim.Native.Nat.{ℕ, ◌+◌, ◌-◌, ◌*◌, ◌≤◌}
use native.Mathlib.Omega.{arith}
use lib.Dec.{T, eqb, lit≤}
use lib.IntN.{ℤ, pos}
use lib.ListN.{length, get_or, take, drop, length-append}
use lib.Seq.{paste, take_at, get_or-append-add, get_or-drop}
use borrow.Author.Tests.{eq-eqb, ne_eqb}
use Rattle.common.specs.Matrix.{Vec, Mat, entries, ◌▹◌}
use Rattle.common.specs.Array.{axis_index, vector_of, items, rows, matrix_of, matrix_at, matrices_from, matrices, flat}
use Rattle.common.specs.Limits.{all_within}
use Rattle.common.proofs.Matrix.{same-matrix}
use Rattle.common.proofs.Reading.{length-flat, read-flat, matrices-flat, length_from, read_small}
use Rattle.grgrid.specs.Grid.{index, address, carry}
use Rattle.grgrid.proofs.Picked.{of-passing, passing-append, passing-few}
use Rattle.recip_rotations.specs.Flat.{laid}
use Rattle.recip_rotations.proofs.Blocks.{from_more, laid-over, laid-copy}
use Rattle.recip_rotations.proofs.Sizes.{within-flat}
use Rattle.triplet_grid.specs.Partner.{keeping, stabilizer}

-- ---- a list with l laid over its front
module _ (before : List ℤ) (l : List (Mat ℤ)) where
  -- what comes after is as it was
  laid-after : (n : ℕ) → length l ≤ n → matrix_at (laid l before) n ≡ matrix_at before n
  laid-after n h = same-matrix (λ j k. at (length l * 9) (n * 9 + axis_index j * 3 + axis_index k) (omega arith) (length-flat l))
    where
      at : (i j : ℕ) → i ≤ j → length (flat l) ≡ i → get_or (flat l ++ drop i before) j (pos 0) ≡ get_or before j (pos 0)
      at i j h e =
          let there : j ≡ length (flat l) + (j - i) = omega arith in
          let back : i + (j - i) ≡ j = omega arith in
          ap (λ n. get_or (flat l ++ drop i before) n (pos 0)) there ∙ get_or-append-add (flat l) (drop i before) (j - i) (pos 0) ∙ get_or-drop i before (j - i) (pos 0) ∙ ap (λ n. get_or before n (pos 0)) back

  -- one matrix more
  laid_more : (m : Mat ℤ) → paste (laid l before) (length l * 9) (entries m []) 9 ≡ laid (l ++ (m ∷ [])) before
  laid_more m =
      laid-copy (laid l before) (length l) (omega (arith, length-append (flat l) (drop (length l * 9) before), length-flat l)) (entries m []) 0 (lit≤ tt)
      ∙ ap (λ k. laid (k ++ (m ∷ [])) (laid l before)) (read-flat l (drop (length l * 9) before))
      ∙ laid-over (l ++ (m ∷ [])) l before (omega (arith, length-append l (m ∷ [])))

-- what `carried` answers
pub carry-is : (d : Vec ℕ) (q0 : ℕ) {r : ℕ} {m : List (List ℤ)} {a : List ℤ} {n : Mat ℤ} → r ≡ index d (matrix_of m ▹ vector_of a) → m ≡ rows n → a ≡ items (address d q0) → r ≡ carry d n q0
unfolding carry
carry-is d q0 e f g = e ∙ ap₂ (λ m a. index d (matrix_of m ▹ vector_of a)) f g

module _ (d : Vec ℕ) (q0 : ℕ) where
  -- its test
  abbrev keeps : Mat ℤ → Bool
  keeps m = eqb (carry d m q0) q0

  -- ---- after n matrices of a list, `kept` of which stand at its front
  module _ (before : List ℤ) where
    abbrev front : ℕ → List (Mat ℤ)
    front n = stabilizer d q0 (matrices_from before 0 n)

    pub record Front (n kept : ℕ) (group : List ℤ) : Type 0 where
      pub few : kept ≤ n
      pub count : kept ≡ length (front n)
      pub held : group ≡ laid (front n) before

    pub front-start : Front 0 0 before
    unfolding stabilizer
    front-start = record { few = omega arith; count = refl; held = refl }

    module _ {n kept : ℕ} {group : List ℤ} (f : Front n kept group) where
      -- the next matrix is as it was
      pub front_read : matrix_at group n ≡ matrix_at before n
      front_read = ap (λ l. matrix_at l n) f.held ∙ laid-after before (front n) n (omega (arith, f.few, f.count))

      next : (t : Bool) → eqb (carry d (matrix_at before n) q0) q0 ≡ t → front (n + 1) ≡ front n ++ cond t (matrix_at before n ∷ []) []
      unfolding stabilizer
      next t e = ap (keeping d q0) (from_more before n) ∙ passing-append keeps (matrices_from before 0 n) (matrix_at before n ∷ []) ∙ ap (λ t. front n ++ cond t (matrix_at before n ∷ []) []) e

      module _ {r : ℕ} (c : r ≡ carry d (matrix_at before n) q0) where
        pub front-more : r ≡ q0 → {m : List (List ℤ)} {after : List ℤ} → m ≡ rows (matrix_at before n) → after ≡ paste group (kept * 9) (entries (matrix_of m) []) 9 → Front (n + 1) (kept + 1) after
        front-more e {m} {after} i p =
            let k = next true (eq-eqb (carry d (matrix_at before n) q0) q0 (sym c ∙ e)) in
            record {
              few = omega (arith, f.few);
              count = ap (λ i. i + 1) f.count ∙ sym (length-append (front n) (matrix_at before n ∷ [])) ∙ ap length (sym k);
              held = p ∙ ap₂ (λ l k. paste l (k * 9) (entries (matrix_of m) []) 9) f.held f.count ∙ ap (λ m. paste (laid (front n) before) (length (front n) * 9) (entries (matrix_of m) []) 9) i ∙ laid_more before (front n) (matrix_at before n) ∙ ap (λ l. laid l before) (sym k);
            }

        pub front_same : (r ≡ q0 → ⊥) → Front (n + 1) kept group
        front_same e =
            let k = next false (ne_eqb (carry d (matrix_at before n) q0) q0 (λ i. e (c ∙ i))) ∙ append-nil (front n) in
            record { few = omega (arith, f.few); count = f.count ∙ ap length (sym k); held = f.held ∙ ap (λ l. laid l before) (sym k) }

    -- ---- all of them
    module _ (count : ℕ) {kept : ℕ} (k : kept ≡ length (front count)) where
      pub front-room : count * 9 ≤ length before → kept * 9 ≤ length before
      unfolding stabilizer
      front-room h = omega (arith, passing-few keeps (matrices_from before 0 count), length_from before 0 count)

      -- the part from 0 on that holds them
      pub front-part : {group : List ℤ} → group ≡ laid (front count) before → take (kept * 9) group ≡ flat (front count)
      front-part e =
          let n : kept * 9 ≡ length (front count) * 9 = omega arith in
          ap₂ take n e ∙ take_at (flat (front count)) (drop (length (front count) * 9) before) (length (front count) * 9) (length-flat (front count))

      pub front-matrices : {group : List ℤ} → group ≡ laid (front count) before → matrices (take (kept * 9) group) ≡ front count
      front-matrices e = ap matrices (front-part e) ∙ matrices-flat (front count)

    pub front-within : (count : ℕ) → T (all_within 100000 before) → T (all_within 100000 (flat (front count)))
    unfolding stabilizer
    front-within count w = within-flat 100000 (front count) (λ m i. read_small 100000 before w 0 count m (of-passing keeps (matrices_from before 0 count) i).0)
