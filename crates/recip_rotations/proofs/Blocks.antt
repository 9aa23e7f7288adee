-- Matrices read from a list and laid into one.
use mathlib.Core.Path.{◌≡◌, refl, sym, ◌∙◌, ap, ap₂}
use mathlib.Core.List.{List, [], ◌∷◌, ◌++◌, map, map-append, append_assoc}
use Prim.Native.Nat.{ℕ, zero, suc, ◌+◌, ◌-◌, ◌*◌, ◌≤◌}
use native.Mathlib.Nat.{add-zero, zero-add, suc-add}
use native.Mathlib.Numerals.{add-one}
use native.Mathlib.Omega.{arith}
use lib.IntN.{ℤ, pos, neg_ℤ}
use lib.ListN.{length, get_or, take, drop, set, length-append, length-map, take-append-drop}
use lib.Seq.{drop-cons, drop-append-add, get_or-append-add, drop-drop, paste}
use Rattle.common.specs.Matrix.{Mat, entries, transpose, negate}
use Rattle.common.specs.Array.{matrix_at, matrices_from, flat}
use Rattle.common.proofs.Reading.{length-flat, length_from}
use Rattle.recip_rotations.specs.Flat.{laid}
use Rattle.recip_rotations.specs.Code.Steps.{swapped, transposed_at}

-- ---- reading
module _ (l : List ℤ) where
  three : (i : ℕ) → i + 3 ≤ length l → drop i l ≡ get_or l i (pos 0) ∷ get_or l (i + 1) (pos 0) ∷ get_or l (i + 2) (pos 0) ∷ drop (i + 3) l
  three i h =
      drop-cons l i (pos 0) (omega arith)
      ∙ ap (λ t. get_or l i (pos 0) ∷ t) (ap (λ k. drop k l) (sym (add-one i)) ∙ drop-cons l (i + 1) (pos 0) (omega arith))
      ∙ ap (λ t. get_or l i (pos 0) ∷ get_or l (i + 1) (pos 0) ∷ t) (ap (λ k. drop k l) (two i) ∙ drop-cons l (i + 2) (pos 0) (omega arith))
      ∙ ap (λ k. get_or l i (pos 0) ∷ get_or l (i + 1) (pos 0) ∷ get_or l (i + 2) (pos 0) ∷ drop k l) (one_more i)
    where
      two : (i : ℕ) → suc (i + 1) ≡ i + 2
      two i = omega arith

      one_more : (i : ℕ) → suc (i + 2) ≡ i + 3
      one_more i = omega arith

  -- from matrix k on: that matrix, and what is after it
  pub block : (k : ℕ) → k * 9 + 9 ≤ length l → drop (k * 9) l ≡ entries (matrix_at l k) (drop (k * 9 + 9) l)
  block k h = simp add-zero (
      three (k * 9) (omega arith)
      ∙ ap (λ t. get_or l (k * 9) (pos 0) ∷ get_or l (k * 9 + 1) (pos 0) ∷ get_or l (k * 9 + 2) (pos 0) ∷ t)
      (three (k * 9 + 3) (omega arith)
      ∙ ap (λ t. get_or l (k * 9 + 3) (pos 0) ∷ get_or l (k * 9 + 3 + 1) (pos 0) ∷ get_or l (k * 9 + 3 + 2) (pos 0) ∷ t)
      (ap (λ i. drop i l) (sum (k * 9) 3 3 6 refl)
      ∙ three (k * 9 + 6) (omega arith)
      ∙ ap (λ i. get_or l (k * 9 + 6) (pos 0) ∷ get_or l (k * 9 + 6 + 1) (pos 0) ∷ get_or l (k * 9 + 6 + 2) (pos 0) ∷ drop i l) (sum (k * 9) 6 3 9 refl))))
    where
      sum : (n a b c : ℕ) → a + b ≡ c → n + a + b ≡ n + c
      sum n a b c e = omega arith

  from-snoc : (n k : ℕ) → matrices_from l n (suc k) ≡ matrices_from l n k ++ (matrix_at l (n + k) ∷ [])
  from-snoc n zero = ap (λ i. matrix_at l i ∷ []) (sym (add-zero n))
  from-snoc n (suc k) = ap (λ t. matrix_at l n ∷ t) (from-snoc (suc n) k) ∙ ap (λ i. matrix_at l n ∷ matrices_from l (suc n) k ++ (matrix_at l i ∷ [])) (next n k)
    where
      next : (n k : ℕ) → suc n + k ≡ n + suc k
      next n k = omega arith

  pub from_more : (k : ℕ) → matrices_from l 0 (k + 1) ≡ matrices_from l 0 k ++ (matrix_at l k ∷ [])
  from_more k = ap (matrices_from l 0) (add-one k) ∙ from-snoc 0 k ∙ ap (λ i. matrices_from l 0 k ++ (matrix_at l i ∷ [])) (zero-add k)

  flat-from : (n k : ℕ) → (n + k) * 9 ≤ length l → flat (matrices_from l n k) ≡ take (k * 9) (drop (n * 9) l)
  flat-from n zero h = refl
  flat-from n (suc k) h =
      ap (entries (matrix_at l n)) (flat-from (suc n) k (omega arith))
      ∙ ap (λ t. entries (matrix_at l n) (take (k * 9) t)) (ap (λ i. drop i l) (next n))
      ∙ sym (ap₂ take (nine k) (block n (omega arith)))
    where
      next : (n : ℕ) → suc n * 9 ≡ n * 9 + 9
      next n = omega arith

      nine : (k : ℕ) → suc k * 9 ≡ suc (suc (suc (suc (suc (suc (suc (suc (suc (k * 9)))))))))
      nine k = omega arith

  pub flat-first : (k : ℕ) → k * 9 ≤ length l → flat (matrices_from l 0 k) ≡ take (k * 9) l
  flat-first k h = flat-from 0 k (omega arith)

-- ---- writing
pub flat_append : (a b : List (Mat ℤ)) → flat (a ++ b) ≡ flat a ++ flat b
flat_append [] b = refl
flat_append (m ∷ a) b = ap (entries m) (flat_append a b)

-- a longer list laid over one
pub laid-over : (k l : List (Mat ℤ)) (d : List ℤ) → length l ≤ length k → laid k (laid l d) ≡ laid k d
laid-over k l d h = ap (λ t. flat k ++ t) (past (length l * 9) (length k * 9) (omega arith) (length-flat l))
  where
    past : (i j : ℕ) → i ≤ j → length (flat l) ≡ i → drop j (flat l ++ drop i d) ≡ drop j d
    past i j h e =
        let there : j ≡ length (flat l) + (j - i) = omega arith in
        let back : i + (j - i) ≡ j = omega arith in
        ap (λ n. drop n (flat l ++ drop i d)) there ∙ drop-append-add (flat l) (drop i d) (j - i) ∙ drop-drop (j - i) i d ∙ ap (λ n. drop n d) back

-- ---- what the steps of the code leave
module _ (out : List ℤ) (f : ℕ) (h : f * 9 ≤ length out) where
  pub laid-self : out ≡ laid (matrices_from out 0 f) out
  laid-self = sym (ap₂ (λ p n. p ++ drop (n * 9) out) (flat-first out f h) (length_from out 0 f) ∙ take-append-drop (f * 9) out)

  -- one matrix more
  pub laid-copy : (s : List ℤ) (n : ℕ) → n * 9 + 9 ≤ length s → paste out (f * 9) (drop (n * 9) s) 9 ≡ laid (matrices_from out 0 f ++ (matrix_at s n ∷ [])) out
  laid-copy s n g =
      let e : f * 9 + 9 ≡ length (matrices_from out 0 f ++ (matrix_at s n ∷ [])) * 9 = omega (arith, length-append (matrices_from out 0 f) (matrix_at s n ∷ []), length_from out 0 f) in
      ap₂ (λ p q. p ++ take 9 q ++ drop (f * 9 + 9) out) (sym (flat-first out f h)) (block s n g)
      ∙ ap₂ (λ p k. p ++ drop k out) (sym (flat_append (matrices_from out 0 f) (matrix_at s n ∷ []))) e

  -- their negatives
  pub laid-negatives : paste out (f * 9) (map neg_ℤ out) (f * 9) ≡ laid (matrices_from out 0 f ++ map negate (matrices_from out 0 f)) out
  laid-negatives =
      let l = matrices_from out 0 f in
      let e : f * 9 + f * 9 ≡ length (l ++ map negate l) * 9 = omega (arith, length-append l (map negate l), length-map l negate, length_from out 0 f) in
      ap₂ (λ p q. p ++ q ++ drop (f * 9 + f * 9) out) (sym (flat-first out f h)) (take-map (f * 9) out ∙ ap (map neg_ℤ) (sym (flat-first out f h)) ∙ sym (flat-negate l))
      ∙ ap₂ (λ p k. p ++ drop k out) (sym (flat_append l (map negate l))) e
    where
      take-map : (n : ℕ) (l : List ℤ) → take n (map neg_ℤ l) ≡ map neg_ℤ (take n l)
      take-map zero l = refl
      take-map (suc n) [] = refl
      take-map (suc n) (x ∷ l) = ap (λ t. neg_ℤ x ∷ t) (take-map n l)

      flat-negate : (l : List (Mat ℤ)) → flat (map negate l) ≡ map neg_ℤ (flat l)
      flat-negate [] = refl
      flat-negate (m ∷ l) = ap (entries (negate m)) (flat-negate l)

-- ---- transposing in place
set-add : (p q : List ℤ) (i : ℕ) (v : ℤ) → set (p ++ q) (length p + i) v ≡ p ++ set q i v
set-add [] q i v = ap (λ k. set q k v) (zero-add i)
set-add (x ∷ p) q i v = ap (λ k. set (x ∷ p ++ q) k v) (suc-add (length p) i) ∙ ap (λ t. x ∷ t) (set-add p q i v)

swapped-add : (p q : List ℤ) (i j : ℕ) → swapped (p ++ q) (length p + i) (length p + j) ≡ p ++ swapped q i j
swapped-add p q i j =
    ap₂ (λ x y. set (set (p ++ q) (length p + i) x) (length p + j) y) (get_or-append-add p q j (pos 0)) (get_or-append-add p q i (pos 0))
    ∙ ap (λ l. set l (length p + j) (get_or q i (pos 0))) (set-add p q i (get_or q j (pos 0)))
    ∙ set-add p (set q i (get_or q j (pos 0))) j (get_or q i (pos 0))

transposed-block : (p : List ℤ) (m : Mat ℤ) (r : List ℤ) → transposed_at (p ++ entries m r) (length p) ≡ p ++ entries (transpose m) r
transposed-block p m r =
    ap (λ l. swapped (swapped l (length p + 2) (length p + 6)) (length p + 5) (length p + 7)) (swapped-add p (entries m r) 1 3)
    ∙ ap (λ l. swapped l (length p + 5) (length p + 7)) (swapped-add p (swapped (entries m r) 1 3) 2 6)
    ∙ swapped-add p (swapped (swapped (entries m r) 1 3) 2 6) 5 7

pub laid-transpose : (d : List ℤ) (k : ℕ) {out : List ℤ} → k * 9 + 9 ≤ length d → out ≡ laid (map transpose (matrices_from d 0 k)) d
    → transposed_at out (k * 9) ≡ laid (map transpose (matrices_from d 0 (k + 1))) d
laid-transpose d k h e =
    let l = map transpose (matrices_from d 0 k) in
    let n : length l ≡ k = length-map (matrices_from d 0 k) transpose ∙ length_from d 0 k in
    let w : length (flat l) ≡ k * 9 = omega (arith, length-flat l) in
    let v : k * 9 + 9 ≡ length (l ++ (transpose (matrix_at d k) ∷ [])) * 9 = omega (arith, length-append l (transpose (matrix_at d k) ∷ [])) in
    ap₂ transposed_at (e ∙ ap (λ i. flat l ++ drop (i * 9) d) n ∙ ap (λ t. flat l ++ t) (block d k h)) (sym w)
    ∙ transposed-block (flat l) (matrix_at d k) (drop (k * 9 + 9) d)
    ∙ sym (append_assoc (flat l) (entries (transpose (matrix_at d k)) []) (drop (k * 9 + 9) d))
    ∙ ap₂ (λ p i. p ++ drop i d) (sym (flat_append l (transpose (matrix_at d k) ∷ []))) v
    ∙ ap (λ x. laid x d) (sym (ap (map transpose) (from_more d k) ∙ map-append transpose (matrices_from d 0 k) (matrix_at d k ∷ [])))
