-- The numbers that are laid are within the limits.
use mathlib.Core.Path.{◌≡◌, refl, subst}
use mathlib.Core.Logic.{◌⊎◌, inl, inr, ⊎_elim}
use mathlib.Core.Bool.{Bool, true, false}
use mathlib.Core.List.Memᴰ.{append_cases}
use mathlib.Core.List.Memᴰ.{cases_cons as cases}
use mathlib.Core.List.Memᴰ.{head as here}
use mathlib.Core.List.Memᴰ.{not-nil}
use mathlib.Core.List.Memᴰ.{of_map}
use mathlib.Core.List.Memᴰ.{tail as there}
use mathlib.Core.List.{List, [], ◌∷◌, ◌++◌, map, foldl, append-nil}
use Prim.Native.Nat.{ℕ, zero, suc, ◌+◌, ◌*◌, ◌/◌, ◌≤◌, zero-le}
use lib.Dec.{T, le→leb, lit≤}
use lib.IntN.{ℤ, pos, negsuc, nat_abs, neg_ℤ}
use lib.ListN.{length, get_or, drop, replicate}
use lib.Seq.{get_or-drop}
use Rattle.integer.proofs.Test.{and_in}
use Rattle.integer.proofs.Size.{abs_neg}
use Rattle.common.specs.Matrix.{Axis, X, Y, Z, Mat, entry, entries, transpose, negate}
use Rattle.common.specs.Array.{matrices, flat, Sized}
use Rattle.common.specs.Limits.{within, all_within}
use Rattle.common.proofs.Matrix.{entry-matrix}
use Rattle.common.proofs.Reading.{read_small}
use Rattle.grgrid.proofs.Lists.{◌∈◌}
use Rattle.recip_rotations.specs.Unique.{among, with_new, unique}
use Rattle.recip_rotations.specs.Flat.{laid}
use Rattle.recip_rotations.specs.PointGroup.{transposed_if, joins, with_negatives, point_group}

-- ---- the members of `unique`
kept_of : (l : List (Mat ℤ)) (x : Mat ℤ) {m : Mat ℤ} → m ∈ with_new l x → (m ∈ l) ⊎ (m ≡ x)
kept_of l x {m} k = go (among x l) k
  where
    go : (t : Bool) → m ∈ (elim t [ true ↦ l | false ↦ l ++ (x ∷ []) ]) → (m ∈ l) ⊎ (m ≡ x)
    go true k = inl k
    go false k = ⊎_elim inl (λ j. inr (⊎_elim (λ e. e) (λ n. absurd (not-nil n)) (cases j))) (append_cases l k)

fold-of : (b l : List (Mat ℤ)) {m : Mat ℤ} → m ∈ foldl with_new b l → (m ∈ b) ⊎ (m ∈ l)
fold-of b [] k = inl k
fold-of b (x ∷ l) k = ⊎_elim (λ j. ⊎_elim inl (λ e. inr (here e)) (kept_of b x j)) (λ j. inr (there j)) (fold-of (with_new b x) l k)

pub unique-of : (l : List (Mat ℤ)) {m : Mat ℤ} → m ∈ unique l → m ∈ l
unique-of l k = ⊎_elim (λ n. absurd (not-nil n)) (λ j. j) (fold-of [] l k)

-- ---- sizes
module _ (b : ℕ) where
  abbrev Small : Mat ℤ → Type 0
  Small m = (j k : Axis) → nat_abs (entry m j k) ≤ b

  abbrev AllSmall : List (Mat ℤ) → Type 0
  AllSmall l = (m : Mat ℤ) → m ∈ l → Small m

  small-turned : (t : Bool) (l : List (Mat ℤ)) → AllSmall l → AllSmall (transposed_if t l)
  small-turned true l h m i = let r = of_map transpose l i in subst Small r.2 (λ j k. rw (entry-matrix (λ j k. entry r.0 k j) j k) (h r.0 r.1 k j))
  small-turned false l h m i = h m i

  small-joined : (time : Bool) (l : List (Mat ℤ)) → AllSmall l → AllSmall (with_negatives time l)
  small-joined time l h = step (joins time l)
    where
      step : (j : Bool) → AllSmall (elim j [ true ↦ l ++ map negate l | false ↦ l ])
      step true m i = ⊎_elim (h m) (λ k. let r = of_map negate l k in subst Small r.2 (λ j k. rw (entry-matrix (λ j k. neg_ℤ (entry r.0 j k)) j k, abs_neg) (h r.0 r.1 j k))) (append_cases l i)
      step false m i = h m i

  sized-entries : (m : Mat ℤ) → Small m → (l : List ℤ) → Sized b l → Sized b (entries m l)
  sized-entries m h l s = record { each = at }
    where
      at : (n : ℕ) → nat_abs (get_or (entries m l) n (pos 0)) ≤ b
      at zero = h X X
      at (suc zero) = h X Y
      at (suc (suc zero)) = h X Z
      at (suc (suc (suc zero))) = h Y X
      at (suc (suc (suc (suc zero)))) = h Y Y
      at (suc (suc (suc (suc (suc zero))))) = h Y Z
      at (suc (suc (suc (suc (suc (suc zero)))))) = h Z X
      at (suc (suc (suc (suc (suc (suc (suc zero))))))) = h Z Y
      at (suc (suc (suc (suc (suc (suc (suc (suc zero)))))))) = h Z Z
      at (suc (suc (suc (suc (suc (suc (suc (suc (suc n))))))))) = s.each n

  sized-flat : (l : List (Mat ℤ)) (r : List ℤ) → AllSmall l → Sized b r → Sized b (flat l ++ r)
  sized-flat [] r h s = s
  sized-flat (m ∷ l) r h s = sized-entries m (h m (here refl)) (flat l ++ r) (sized-flat l r (λ m i. h m (there i)) s)

  -- as a test
  sized-within : (l : List ℤ) → Sized b l → T (all_within b l)
  sized-within [] s = tt
  sized-within (z ∷ l) s = and_in (within b z) (all_within b l) (le→leb (nat_abs z) b (s.each 0)) (sized-within l (record { each = λ n. s.each (suc n) }))

  pub within-flat : (l : List (Mat ℤ)) → AllSmall l → T (all_within b (flat l))
  within-flat l h = rw (← append-nil (flat l)) (sized-within (flat l ++ []) (sized-flat l [] h (record { each = λ n. zero-le })))

-- ---- in an output of n places
abbrev Limited : List (Mat ℤ) → Type 0
Limited l = AllSmall 100000 l

sized-laid : (l : List (Mat ℤ)) → Limited l → (n : ℕ) → Sized 100000 (laid l (replicate n (negsuc 0)))
sized-laid l h n =
    sized-flat 100000 l (drop (length l * 9) (replicate n (negsuc 0))) h
    (record { each = λ i. rw (get_or-drop (length l * 9) (replicate n (negsuc 0)) i (pos 0)) (blank n (length l * 9 + i)) })
  where
    blank : (n i : ℕ) → nat_abs (get_or (replicate n (negsuc 0)) i (pos 0)) ≤ 100000
    blank zero i = zero-le
    blank (suc n) zero = lit≤ tt
    blank (suc n) (suc i) = blank n i

module _ (s : List ℤ) (w : T (all_within 100000 s)) (t : Bool) where
  turned-small : Limited (transposed_if t (unique (matrices s)))
  turned-small = small-turned 100000 t (unique (matrices s)) (λ m i. read_small 100000 s w 0 (length s / 9) m (unique-of (matrices s) i))

  pub sized-group : (n : ℕ) → Sized 100000 (laid (transposed_if t (unique (matrices s))) (replicate n (negsuc 0)))
  sized-group = sized-laid (transposed_if t (unique (matrices s))) turned-small

  pub within-told : (time : Bool) (n : ℕ) → T (all_within 100000 (laid (point_group (matrices s) time t) (replicate n (negsuc 0))))
  unfolding point_group
  within-told time n = let l = transposed_if t (unique (matrices s)) in sized-within 100000 (laid (with_negatives time l) (replicate n (negsuc 0))) (sized-laid (with_negatives time l) (small-joined 100000 time l turned-small) n)
