-- The candidates of a range are the vectors in it, each once, and at most 36,062 of them where the range lies within -16..16.
use mathlib.Core.Path.{◌≡◌, refl, sym, ap, subst}
use mathlib.Core.Logic.{◌⊎◌, inl, inr, ⊎_elim}
use mathlib.Core.Bool.{Bool, true, false, ◌&&◌, ◌||◌, cond}
use mathlib.Core.List.Memᴰ.{append_cases}
use mathlib.Core.List.Memᴰ.{append_left}
use mathlib.Core.List.Memᴰ.{append_right}
use mathlib.Core.List.Memᴰ.{eq_of_singleton as only}
use mathlib.Core.List.Memᴰ.{head as here}
use mathlib.Core.List.Memᴰ.{not-nil}
use mathlib.Core.List.{List, [], ◌∷◌, ◌++◌}
use Prim.Native.Nat.{ℕ, ◌*◌, ◌≤◌, ◌<◌, zero-le}
use native.Mathlib.Nat.{le_refl, le_trans, mul-le-mul}
use native.Mathlib.Omega.{arith}
use lib.Dec.{T}
use lib.IntN.{ℤ, pos, negsuc, nat_abs}
use lib.Signed.{◌≤ℤ◌, le_z, lt_z, le_z_yes, lt_z_yes, clash_ℤ}
use lib.ListN.{length, length-append}
use Rattle.integer.proofs.Parts.{ints}
use Rattle.integer.proofs.Test.{and_l, and_r, or_l, or_r, or-of}
use Rattle.common.specs.Matrix.{Axis, X, Y, Z, Vec, side, vector}
use Rattle.common.proofs.Matrix.{axes-of, side-vector}
use Rattle.grgrid.proofs.Lists.{◌∈◌, Distinct, distinct_append}
use Rattle.grgrid.specs.Build.{concat}
use Rattle.bzsearch.specs.Search.{Span, Numbers, number_at, nearby, clipped, fft_order, upwards, far, outside, chosen, line_at, plane_at, box_at, box, first_box, whole_box, near, candidates, range_fits, span_fits}
use Rattle.bzsearch.proofs.Listing.{rows_in, rows-of, rows-distinct, rows_few}
use Rattle.bzsearch.proofs.AxisNumbers.{belowℤ, InSpan, Lists, upwards-lists, fft-lists, clipped-in, clipped-of, clipped-few, upwards-few, span-size}

-- the vectors of a range
abbrev pub InRange : Vec Span → Vec ℤ → Type 0
InRange r m = (k : Axis) → InSpan (side r k) (side m k)

-- ---- outside -2..2
abbrev Nearby : Vec ℤ → Type 0
Nearby m = (k : Axis) → InSpan nearby (side m k)

far-clash : (z : ℤ) → InSpan nearby z → T (far z) → ⊥
far-clash z s t =
    ⊎_elim (λ u. clash_ℤ (lt_z_yes {a = z} {b = negsuc 1} u) s.low) (λ u. clash_ℤ (lt_z_yes {a = pos 2} {b = z} u) s.high) (or-of (lt_z z (negsuc 1)) (lt_z (pos 2) z) t)

near-or-far : (z : ℤ) → InSpan nearby z ⊎ T (far z)
near-or-far z =
    ⊎_elim (λ h. inr (or_l (lt_z z (negsuc 1)) (lt_z (pos 2) z) h.lt))
    (λ h. ⊎_elim (λ k. inr (or_r (lt_z z (negsuc 1)) (lt_z (pos 2) z) k.lt)) (λ k. inl (record { low = h; high = k })) (belowℤ (pos 2) z))
    (belowℤ z (negsuc 1))

outside-clash : (m : Vec ℤ) → Nearby m → T (outside m) → ⊥
unfolding outside
outside-clash m h t =
    ⊎_elim (far-clash m.x (h X)) (λ u. ⊎_elim (far-clash m.y (h Y)) (far-clash m.z (h Z)) (or-of (far m.y) (far m.z) u))
    (or-of (far m.x) (far m.y || far m.z) t)

near-or-outside : (m : Vec ℤ) → Nearby m ⊎ T (outside m)
unfolding outside
near-or-outside m =
    ⊎_elim
    (λ x. ⊎_elim
    (λ y. ⊎_elim (λ z. inl (λ k. elim k as (λ k. InSpan nearby (side m k)) [ X ↦ x | Y ↦ y | Z ↦ z ])) (λ z. inr (or_r (far m.x) (far m.y || far m.z) (or_r (far m.y) (far m.z) z))) (near-or-far m.z))
    (λ y. inr (or_r (far m.x) (far m.y || far m.z) (or_l (far m.y) (far m.z) y))) (near-or-far m.y))
    (λ x. inr (or_l (far m.x) (far m.y || far m.z) x)) (near-or-far m.x)

-- ---- one vector, or none
chosen-in : (rest : Bool) (m : Vec ℤ) → (T rest → T (outside m)) → m ∈ chosen rest m
chosen-in false m h = here refl
chosen-in true m h = go (outside m) (h tt)
  where
    go : (t : Bool) → T t → m ∈ cond t (m ∷ []) []
    go true u = here refl
    go false u = absurd u

chosen_of : (rest : Bool) (m : Vec ℤ) {a : Vec ℤ} → a ∈ chosen rest m → (a ≡ m) × (T rest → T (outside m))
chosen_of false m p = (only p, λ t. absurd t)
chosen_of true m {a} p = go (outside m) p
  where
    go : (t : Bool) → a ∈ cond t (m ∷ []) [] → (a ≡ m) × (Unit {0} → T t)
    go true p = (only p, λ _. tt)
    go false p = absurd (not-nil p)

chosen-once : (rest : Bool) (m : Vec ℤ) → Distinct (chosen rest m) × (length (chosen rest m) ≤ 1)
chosen-once false m = ((λ p. not-nil p, tt), le_refl 1)
chosen-once true m = go (outside m)
  where
    go : (t : Bool) → Distinct (cond t (m ∷ []) []) × (length (cond t (m ∷ []) []) ≤ 1)
    go true = ((λ p. not-nil p, tt), le_refl 1)
    go false = (tt, omega arith)

-- ---- a box
module _ (rest : Bool) (v : Vec Numbers) (r : Vec Span) (lists : (k : Axis) → Lists (side v k) (side r k)) where
  abbrev x : Numbers
  x = v.x

  abbrev y : Numbers
  y = v.y

  abbrev z : Numbers
  z = v.z

  abbrev vector_at : ℕ → ℕ → ℕ → Vec ℤ
  vector_at i j k = record { x = number_at x i; y = number_at y j; z = number_at z k }

  abbrev line : ℕ → ℕ → ℕ → List (Vec ℤ)
  line i j = line_at rest z (number_at x i) (number_at y j)

  abbrev plane : ℕ → ℕ → List (Vec ℤ)
  plane i = plane_at rest y z (number_at x i)

  pub box_in : (m : Vec ℤ) → InRange r m → (T rest → T (outside m)) → m ∈ box rest v
  box_in m h t =
      let i = (lists X).each m.x (h X) in
      let j = (lists Y).each m.y (h Y) in
      let k = (lists Z).each m.z (h Z) in
      rows_in (box_at rest v) x.n i.0 i.1 (rows_in (plane i.0) y.n j.0 j.1 (rows_in (line i.0 j.0) z.n k.0 k.1
      (subst (λ w. m ∈ chosen rest w) (λ u. record { x = sym i.2 u; y = sym j.2 u; z = sym k.2 u }) (chosen-in rest m t))))

  -- where a member stands
  record Stands (m : Vec ℤ) : Type 0 where
    i : ℕ
    j : ℕ
    k : ℕ
    left : i < x.n
    middle : j < y.n
    right : k < z.n
    is : m ≡ vector_at i j k
    out : T rest → T (outside m)

  in-line : (i j : ℕ) {m : Vec ℤ} → m ∈ concat (line i j) z.n → (k : ℕ) × (k < z.n) × (m ≡ vector_at i j k) × (T rest → T (outside m))
  in-line i j {m} p =
      let k = rows-of (line i j) z.n p in
      let c = chosen_of rest (vector_at i j k.0) k.2 in
      (k.0, k.1, c.0, λ t. subst (λ w. T (outside w)) (sym c.0) (c.1 t))

  stands : {m : Vec ℤ} → m ∈ box rest v → Stands m
  stands p =
      let i = rows-of (box_at rest v) x.n p in
      let j = rows-of (plane i.0) y.n i.2 in
      let k = in-line i.0 j.0 j.2 in
      record { i = i.0; j = j.0; k = k.0; left = i.1; middle = j.1; right = k.1; is = k.2; out = k.3 }

  pub box_of : {m : Vec ℤ} → m ∈ box rest v → InRange r m × (T rest → T (outside m))
  box_of {m} p = let s = stands p in (λ k. rw s.is (at s k), s.out)
    where
      at : (s : Stands m) (k : Axis) → InSpan (side r k) (side (vector_at s.i s.j s.k) k)
      at s X = (lists X).inside s.i s.left
      at s Y = (lists Y).inside s.j s.middle
      at s Z = (lists Z).inside s.k s.right

  pub box-distinct : Distinct (box rest v)
  box-distinct =
      rows-distinct (box_at rest v) (λ m. m.x) (number_at x) x.n (λ i h m p. let j = rows-of (plane i) y.n p in ap (λ m. m.x) (in-line i j.0 j.2).2) (lists X).once (λ i h.
      rows-distinct (plane i) (λ m. m.y) (number_at y) y.n (λ j l m p. ap (λ m. m.y) (in-line i j p).2) (lists Y).once (λ j l.
      rows-distinct (line i j) (λ m. m.z) (number_at z) z.n (λ k n m p. ap (λ m. m.z) (chosen_of rest (vector_at i j k) p).0) (lists Z).once (λ k n.
      (chosen-once rest (vector_at i j k)).0)))

  pub box-few : length (box rest v) ≤ x.n * (y.n * (z.n * 1))
  box-few =
      rows_few (box_at rest v) (y.n * (z.n * 1)) x.n (λ i h. rows_few (plane i) (z.n * 1) y.n (λ j l. rows_few (line i j) 1 z.n (λ k n. (chosen-once rest (vector_at i j k)).1)))

-- ---- both boxes
module _ (r : Vec Span) where
  first-lists : (k : Axis) → Lists (side (first_box r) k) (side (vector (λ k. clipped (side r k))) k)
  first-lists k = rw (side-vector (λ k. fft_order (clipped (side r k))) k, side-vector (λ k. clipped (side r k)) k) (fft-lists (clipped (side r k)))

  whole-lists : (k : Axis) → Lists (side (whole_box r) k) (side r k)
  whole-lists k = rw (side-vector (λ k. upwards (side r k)) k) (upwards-lists (side r k))

  first_of : {m : Vec ℤ} → m ∈ box false (first_box r) → InRange r m × Nearby m
  first_of {m} p = (λ k. (both k).0, λ k. (both k).1)
    where
      both : (k : Axis) → InSpan (side r k) (side m k) × InSpan nearby (side m k)
      both k = clipped-of (side r k) (side m k) (rw (side-vector (λ k. clipped (side r k)) k) at ((box_of false (first_box r) (vector (λ k. clipped (side r k))) first-lists p).0 k))

  rest_of : {m : Vec ℤ} → m ∈ cond (near r) [] (box true (whole_box r)) → InRange r m × T (outside m)
  rest_of {m} p = go (near r) p
    where
      go : (t : Bool) → m ∈ cond t [] (box true (whole_box r)) → InRange r m × T (outside m)
      go true p = absurd (not-nil p)
      go false p = let b = box_of true (whole_box r) r whole-lists p in (b.0, b.1 tt)

  -- a range that is near has no rest
  near-all : (m : Vec ℤ) → T (near r) → InRange r m → Nearby m
  near-all m t h k =
      let a = axes-of (λ k. le_z (negsuc 1) (side r k).lo && le_z (side r k).hi (pos 2)) t k in
      let low : negsuc 1 ≤ℤ (side r k).lo = le_z_yes (and_l (le_z (negsuc 1) (side r k).lo) (le_z (side r k).hi (pos 2)) a) in
      let high : (side r k).hi ≤ℤ pos 2 = le_z_yes (and_r (le_z (negsuc 1) (side r k).lo) (le_z (side r k).hi (pos 2)) a) in
      record { low = omega (arith, ints, (h k).low); high = omega (arith, ints, (h k).high) }

  pub candidate-of : (m : Vec ℤ) → m ∈ candidates r → InRange r m
  unfolding candidates
  candidate-of m p = ⊎_elim (λ a. (first_of a).0) (λ a. (rest_of a).0) (append_cases (box false (first_box r)) p)

  pub candidate-in : (m : Vec ℤ) → InRange r m → m ∈ candidates r
  unfolding candidates
  candidate-in m h = ⊎_elim first later (near-or-outside m)
    where
      first : Nearby m → m ∈ box false (first_box r) ++ cond (near r) [] (box true (whole_box r))
      first n =
          append_left (cond (near r) [] (box true (whole_box r)))
          (box_in false (first_box r) (vector (λ k. clipped (side r k))) first-lists m
          (λ k. rw (side-vector (λ k. clipped (side r k)) k) (clipped-in (side r k) (side m k) (h k) (n k))) (λ t. absurd t))

      later : T (outside m) → m ∈ box false (first_box r) ++ cond (near r) [] (box true (whole_box r))
      later o = append_right (box false (first_box r)) (go (near r) (λ t. outside-clash m (near-all m t h) o))
        where
          go : (t : Bool) → ¬ T t → m ∈ cond t [] (box true (whole_box r))
          go true n = absurd (n tt)
          go false n = box_in true (whole_box r) r whole-lists m h (λ _. o)

  pub candidates-distinct : Distinct (candidates r)
  unfolding candidates
  candidates-distinct =
      distinct_append (box false (first_box r)) (cond (near r) [] (box true (whole_box r)))
      (box-distinct false (first_box r) (vector (λ k. clipped (side r k))) first-lists) (later (near r)) (λ m p q. outside-clash m (first_of p).1 (rest_of q).1)
    where
      later : (t : Bool) → Distinct (cond t [] (box true (whole_box r)))
      later true = tt
      later false = box-distinct true (whole_box r) r whole-lists

  -- 5 numbers an axis in the first box, 33 in the whole one
  pub candidates-few : T (range_fits r) → length (candidates r) ≤ 36062
  unfolding candidates
  candidates-few t =
      omega (arith, length-append (box false (first_box r)) (cond (near r) [] (box true (whole_box r))), first, later (near r))
    where
      cube : (a b c n : ℕ) → a ≤ n → b ≤ n → c ≤ n → a * (b * (c * 1)) ≤ n * (n * (n * 1))
      cube a b c n h k l = mul-le-mul h (mul-le-mul k (mul-le-mul l (le_refl 1)))

      first : length (box false (first_box r)) ≤ 125
      first =
          le_trans (box-few false (first_box r) (vector (λ k. clipped (side r k))) first-lists)
          (cube (first_box r).x.n (first_box r).y.n (first_box r).z.n 5 (clipped-few r.x) (clipped-few r.y) (clipped-few r.z))

      fits : (k : Axis) → T (span_fits (side r k))
      fits = axes-of (λ k. span_fits (side r k)) t

      later : (n : Bool) → length (cond n [] (box true (whole_box r))) ≤ 35937
      later true = zero-le
      later false =
          le_trans (box-few true (whole_box r) r whole-lists)
          (cube (whole_box r).x.n (whole_box r).y.n (whole_box r).z.n 33 (upwards-few r.x (fits X)) (upwards-few r.y (fits Y)) (upwards-few r.z (fits Z)))

  pub candidate-size : T (range_fits r) → (m : Vec ℤ) → m ∈ candidates r → (k : Axis) → nat_abs (side m k) ≤ 16
  candidate-size t m p k = span-size (side r k) (axes-of (λ k. span_fits (side r k)) t k) (side m k) (candidate-of m p k)
