-- What a walk over all points leaves in an output that has room: the table of either layout.
use mathlib.Core.Path.{◌≡◌, refl, sym, ◌∙◌, ap, ap₂}
use mathlib.Core.Bool.{Bool, true, false, not, cond}
use mathlib.Core.List.{List, [], ◌∷◌, ◌++◌, append_assoc}
use Prim.Native.Nat.{ℕ, zero, suc, ◌+◌, ◌*◌, ◌-◌, ◌≤◌}
use native.Mathlib.Nat.{mul-le-mul_left}
use native.Mathlib.Omega.{arith}
use lib.Dec.{T, eqb}
use lib.IntN.{ℤ, pos, negsuc}
use lib.ListN.{length, take, drop, replicate, length-append, length-drop, length-replicate}
use lib.Seq.{drop-drop}
use Rattle.integer.proofs.Test.{and_l, and_r}
use Rattle.common.specs.Array.{items}
use Rattle.grgrid.specs.Build.{concat}
use Rattle.bzgrid.specs.Table.{Image, first, others, dense, sparse, address_list, point_list}
use Rattle.bzgrid.specs.BzGridAddresses.{all_found, padded}
use Rattle.bzgrid.specs.Code.Writing.{put_at, Tables, tables, store, stored, restart, written, if_sparse}
use Rattle.bzgrid.specs.Code.Walked.{later, before, after, blank}
use Rattle.bzgrid.proofs.Runs.{at_stored, Found, cells, length-cells, cells-append, run, apart, drop-same, split-same}

at-point : (sparse : Bool) (i : ℕ) (t : Tables) (xs : List Image) → Found xs → (stored (restart sparse i t) xs).at ≡ t.at + length (cond sparse (drop 1 xs) xs)
at-point false i t xs some = at_stored xs (restart false i t) refl
at-point true i t [] some = absurd some
at-point true i t (x ∷ ys) some = at_stored ys (store (restart true i t) x) refl

one-first : (xs : List Image) → Found xs → length (take 1 xs) ≡ 1
one-first [] some = absurd some
one-first (x ∷ xs) some = refl

module _ (g : ℕ → List Image) where
  module _ (i : ℕ) (all : T (all_found g (suc i))) where
    pub below : T (all_found g i)
    below = and_l (all_found g i) (not (eqb (length (g i)) 0)) all

    pub here : Found (g i)
    here = and_r (all_found g i) (not (eqb (length (g i)) 0)) all

  -- ---- the place after the first i points
  pub at-written : (sparse : Bool) (t : Tables) (i : ℕ) → T (all_found g i) → (written sparse g t i).at ≡ t.at + before sparse g i
  at-written sparse t zero all = omega arith
  at-written sparse t (suc i) all =
      at-point sparse i (written sparse g t i) (g i) (here i all)
      ∙ ap (λ k. k + length (later sparse g i)) (at-written sparse t i (below i all))
      ∙ omega (arith, length-append (concat (later sparse g) i) (later sparse g i))

  length-first : (i : ℕ) → T (all_found g i) → length (concat (first g) i) ≡ i
  length-first zero all = refl
  length-first (suc i) all = length-append (concat (first g) i) (first g i) ∙ ap₂ ◌+◌ (length-first i (below i all)) (one-first (g i) (here i all)) ∙ omega arith

  -- a table of either layout
  abbrev pub table : Bool → ℕ → List Image
  table s n = cond s (sparse g n) (dense g n)

  pub length-table : (s : Bool) (n : ℕ) → T (all_found g n) → length (table s n) ≡ if_sparse s n + before s g n
  length-table false n all = omega arith
  length-table true n all = length-append (concat (first g) n) (concat (others g) n) ∙ ap (λ k. k + before true g n) (length-first n all)

  -- ---- an output, in which each image writes the w places that f shows
  module _ (w : ℕ) (f : Image → List ℤ) (each : (x : Image) → length (f x) ≡ w) (out : Tables → List ℤ) (stores : (t : Tables) (x : Image) → out (store t x) ≡ put_at w (out t) t.at (f x)) (moves : (t : Tables) (j k : ℕ) → out (tables t.addresses t.grg j k) ≡ out t) where
    abbrev shown : List Image → List ℤ
    shown = cells f

    -- one row more
    module _ (h : ℕ → List Image) (i : ℕ) where
      more : w * length (concat h (suc i)) ≡ w * length (concat h i) + w * length (h i)
      more = ap (λ k. w * k) (length-append (concat h i) (h i)) ∙ omega arith

      shown-more : shown (concat h i) ++ shown (h i) ≡ shown (concat h (suc i))
      shown-more = sym (cells-append f (concat h i) (h i))

      drop_more : (r : List ℤ) → drop (w * length (h i)) (drop (w * length (concat h i)) r) ≡ drop (w * length (concat h (suc i))) r
      drop_more r = drop-drop (w * length (h i)) (w * length (concat h i)) r ∙ ap (λ k. drop k r) (sym more)

      room-less : {m : ℕ} → w * length (concat h (suc i)) ≤ m → w * length (concat h i) ≤ m
      room-less k = omega (arith, more)

      room-more : (r : List ℤ) → w * length (concat h (suc i)) ≤ length r → w * length (h i) ≤ length (drop (w * length (concat h i)) r)
      room-more r k = omega (arith, more, length-drop (w * length (concat h i)) r)

    module _ (t : Tables) where
      dense-out : t.at ≡ 0 → (i : ℕ) → T (all_found g i) → w * length (concat g i) ≤ length (out t) → out (written false g t i) ≡ shown (concat g i) ++ drop (w * length (concat g i)) (out t)
      dense-out z zero all m = ap (λ k. drop k (out t)) {x = 0} {y = w * 0} (omega arith)
      dense-out z (suc i) all m =
          let u = written false g t i in
          let d = drop (w * length (concat g i)) (out t) in
          run w f each out stores (g i) (restart false i u) (shown (concat g i)) d refl (moves u u.at (u.at + 1) ∙ dense-out z i (below i all) (room-less g i m)) place (room-more g i (out t) m)
          ∙ ap₂ ◌++◌ (shown-more g i) (drop_more g i (out t))
        where
          place : length (shown (concat g i)) ≡ w * (written false g t i).at
          place = length-cells w f each (concat g i) ∙ ap (λ k. w * k) (sym (at-written false t i (below i all) ∙ omega arith))

      module _ (n : ℕ) (q r : List ℤ) (start : t.at ≡ n) (e : out t ≡ q ++ r) (h : length q ≡ w * n) where
        abbrev state : ℕ → List ℤ
        state i = shown (concat (first g) i) ++ (drop (w * i) q ++ (shown (concat (others g) i) ++ drop (w * length (concat (others g) i)) r))

        sparse-out : (i : ℕ) → i ≤ n → T (all_found g i) → w * length (concat (others g) i) ≤ length r → out (written true g t i) ≡ state i
        sparse-out zero l all m = e ∙ ap₂ (λ j k. drop j q ++ drop k r) {x = 0} {y = w * 0} {u = 0} {v = w * 0} (omega arith) (omega arith)
        sparse-out (suc i) l all m =
            let u = written true g t i in
            apart w f each out stores (g i) (restart true i u) (shown (concat (first g) i)) (drop (w * i) q) (shown (concat (others g) i)) (drop (w * length (concat (others g) i)) r)
            (here i all) (moves u i u.at ∙ sparse-out i (omega arith) (below i all) (room-less (others g) i m)) own fits next (room-more (others g) i r m)
            ∙ ap₂ ◌++◌ (shown-more (first g) i) (ap₂ ◌++◌ (drop-drop w (w * i) q ∙ ap (λ k. drop k q) sum) (ap₂ ◌++◌ (shown-more (others g) i) (drop_more (others g) i r)))
          where
            sum : w * i + w ≡ w * suc i
            sum = omega arith

            fits : w ≤ length (drop (w * i) q)
            fits = omega (arith, length-drop (w * i) q, sum, h, mul-le-mul_left w l)

            own : length (shown (concat (first g) i)) ≡ w * i
            own = length-cells w f each (concat (first g) i) ∙ ap (λ k. w * k) (length-first i (below i all))

            next : length (shown (concat (first g) i)) + length (drop (w * i) q) + length (shown (concat (others g) i)) ≡ w * (written true g t i).at
            next =
                omega (arith, own, length-drop (w * i) q, sum, mul-le-mul_left w l, h, length-cells w f each (concat (others g) i))
                ∙ ap (λ k. w * k) (sym (at-written true t i (below i all) ∙ ap (λ k. k + before true g i) start))

    -- an output of v alone
    pub laid : (s : Bool) (t : Tables) (n a : ℕ) (v : ℤ) → t.at ≡ if_sparse s n → out t ≡ replicate a v → T (all_found g n) → w * length (table s n) ≤ a
        → out (written s g t n) ≡ shown (table s n) ++ replicate (a - length (shown (table s n))) v
    laid false t n a v start e all m =
        dense-out t start n all (omega (arith, ap length e, length-replicate a v))
        ∙ ap₂ (λ k l. shown (concat g n) ++ drop k l) (sym (length-cells w f each (concat g n))) e
        ∙ ap (λ l. shown (concat g n) ++ l) (drop-same a (length (shown (concat g n))) v)
    laid true t n a v start e all m =
        sparse-out t n (replicate (w * n) v) (replicate (a - w * n) v) start (e ∙ split-same a (w * n) v (omega (arith, all_of))) (length-replicate (w * n) v) n (omega arith) all room
        ∙ ap₂ (λ x y. shown (concat (first g) n) ++ (x ++ (shown (concat (others g) n) ++ y)))
        (drop-same (w * n) (w * n) v ∙ ap (λ k. replicate k v) {x = w * n - w * n} {y = 0} (omega arith))
        (drop-same (a - w * n) (w * before true g n) v ∙ ap (λ k. replicate k v) left)
        ∙ sym (append_assoc (shown (concat (first g) n)) (shown (concat (others g) n)) (replicate (a - length (shown (sparse g n))) v))
        ∙ ap (λ l. l ++ replicate (a - length (shown (sparse g n))) v) (sym (cells-append f (concat (first g) n) (concat (others g) n)))
      where
        all_of : w * length (sparse g n) ≡ w * n + w * before true g n
        all_of = ap (λ k. w * k) (length-table true n all) ∙ omega arith

        room : w * before true g n ≤ length (replicate (a - w * n) v)
        room = omega (arith, all_of, length-replicate (a - w * n) v)

        left : a - w * n - w * before true g n ≡ a - length (shown (sparse g n))
        left = omega (arith, all_of, length-cells w f each (sparse g n))

-- ---- the two outputs
addresses-shown : (xs : List Image) → address_list xs ≡ cells (λ x. items x.address) xs
addresses-shown [] = refl
addresses-shown (x ∷ xs) = ap (λ l. items x.address ++ l) (addresses-shown xs)

points-shown : (xs : List Image) → point_list xs ≡ cells (λ x. pos x.point ∷ []) xs
points-shown [] = refl
points-shown (x ∷ xs) = ap (λ l. pos x.point ∷ l) (points-shown xs)

module _ (g : ℕ → List Image) (s : Bool) (n a b : ℕ) (all : T (all_found g n)) where
  abbrev left : Tables
  left = after s g n (blank a) (blank b) n

  pub addresses-laid : 3 * length (table g s n) ≤ a → left.addresses ≡ padded (address_list (table g s n)) a
  addresses-laid m =
      laid g 3 (λ x. items x.address) (λ x. refl) (λ t. t.addresses) (λ t x. refl) (λ t j k. refl) s (tables (blank a) (blank b) (if_sparse s n) 0) n a (negsuc 0) refl refl all m
      ∙ ap (λ l. padded l a) (sym (addresses-shown (table g s n)))

  pub points-laid : length (table g s n) ≤ b → left.grg ≡ padded (point_list (table g s n)) b
  points-laid m =
      laid g 1 (λ x. pos x.point ∷ []) (λ x. refl) (λ t. t.grg) (λ t x. refl) (λ t j k. refl) s (tables (blank a) (blank b) (if_sparse s n) 0) n b (negsuc 0) refl refl all (omega arith)
      ∙ ap (λ l. padded l b) (sym (points-shown (table g s n)))
