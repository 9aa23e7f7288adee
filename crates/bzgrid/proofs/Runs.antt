-- Runs of w places: what a walk over images leaves in one of its outputs, where there is room.
use mathlib.Core.Path.{◌≡◌, refl, sym, ◌∙◌, ap, ap₂}
use mathlib.Core.Bool.{not}
use mathlib.Core.List.{List, [], ◌∷◌, ◌++◌, append_assoc, append-nil}
use Prim.Native.Nat.{ℕ, zero, suc, ◌+◌, ◌*◌, ◌-◌, ◌≤◌, ◌<◌}
use native.Mathlib.Omega.{arith}
use borrow.Author.Tests.{le-leb, lt-leb}
use borrow.Rule.Slice.PartMut.{put_mid, Post-is}
use lib.Dec.{T, eqb}
use Rattle.common.specs.Array.{items, vector_of}
use lib.IntN.{ℤ}
use lib.ListN.{length, set, take, drop, replicate, length-append, length-drop, replicate-append-replicate}
use lib.Seq.{sets, sets-eq, take_at, drop-append-add, drop-append-le, drop-drop}
use Rattle.bzgrid.specs.Table.{Image}
use Rattle.bzgrid.specs.Code.Writing.{put, put_at, Tables, store, stored}

-- the library's word
put-sets : (v l : List ℤ) (i : ℕ) → put l i v ≡ sets l i v
put-sets [] l i = refl
put-sets (x ∷ v) l i = put-sets v (set l i x) (suc i)

module _ (w k : ℕ) (l v : List ℤ) where
  pub put_in : w * k + w ≤ length l → put_at w l k v ≡ sets l (w * k) v
  unfolding put_at
  put_in h = rw (le-leb (w * k + w) (length l) h) (put-sets v l (w * k))

  pub put-out : length l < w * k + w → put_at w l k v ≡ l
  unfolding put_at
  put-out h = rw (lt-leb (w * k + w) (length l) h)

-- the same where the run is copied
pub pasted : (k : ℕ) (l v : List ℤ) → length v ≡ 3 → 3 * k + 3 ≤ length l → put_mid (3 * k) (3 * k + 3 - 3 * k) l v ≡ put_at 3 l k v
pasted k l v e h =
    ap (λ r. take (3 * k) l ++ (v ++ r)) (Post-is (3 * k) (3 * k + 3) l (omega arith) ∙ ap (λ n. drop n l) {x = 3 * k + 3} {y = 3 * k + length v} (omega (arith, e)))
    ∙ sym (append_assoc (take (3 * k) l) v (drop (3 * k + length v) l))
    ∙ sym (put_in 3 k l v h ∙ sets-eq v l (3 * k) (omega (arith, e)))

pub three-items : (l : List ℤ) → length l ≡ 3 → items (vector_of l) ≡ l
three-items [] e = absurd (omega (arith, e))
three-items (x ∷ []) e = absurd (omega (arith, e))
three-items (x ∷ (y ∷ [])) e = absurd (omega (arith, e))
three-items (x ∷ (y ∷ (z ∷ []))) e = refl
three-items (x ∷ (y ∷ (z ∷ (u ∷ l)))) e = absurd (omega (arith, e))

-- the run after p
pub put-after : (w k : ℕ) (p v r : List ℤ) → length p ≡ w * k → length v ≡ w → w ≤ length r → put_at w (p ++ r) k v ≡ p ++ v ++ drop w r
put-after w k p v r h e m =
    put_in w k (p ++ r) v fits
    ∙ sets-eq v (p ++ r) (w * k) (rw e fits)
    ∙ ap₂ (λ a b. a ++ v ++ b) (take_at p r (w * k) h) rest
  where
    fits : w * k + w ≤ length (p ++ r)
    fits = omega (arith, length-append p r)

    rest : drop (w * k + length v) (p ++ r) ≡ drop w r
    rest = ap₂ (λ a b. drop (a + b) (p ++ r)) (sym h) e ∙ drop-append-add p r w

pub drop-same : {A : Type 0} (n k : ℕ) (v : A) → drop k (replicate n v) ≡ replicate (n - k) v
drop-same n zero v = ap (λ m. replicate m v) {x = n} {y = n - 0} (omega arith)
drop-same zero (suc k) v = ap (λ m. replicate m v) {x = zero} {y = zero - suc k} (omega arith)
drop-same (suc n) (suc k) v = drop-same n k v ∙ ap (λ m. replicate m v) {x = n - k} {y = suc n - suc k} (omega arith)

pub split-same : {A : Type 0} (n k : ℕ) (v : A) → k ≤ n → replicate n v ≡ replicate k v ++ replicate (n - k) v
split-same n k v h = ap (λ m. replicate m v) {x = n} {y = k + (n - k)} (omega arith) ∙ sym (replicate-append-replicate k (n - k) v)

-- ---- the places of a run of images
pub next-stored : (xs : List Image) (t : Tables) → (stored t xs).next ≡ t.next + length xs
next-stored [] t = omega arith
next-stored (x ∷ xs) t = next-stored xs (store t x) ∙ omega arith

pub at_stored : (xs : List Image) (t : Tables) → t.next ≡ t.at + 1 → (stored t xs).at ≡ t.at + length xs
at_stored [] t n = omega arith
at_stored (x ∷ xs) t n = at_stored xs (store t x) refl ∙ omega arith

-- there are some
abbrev pub Found : List Image → Type 0
Found xs = T (not (eqb (length xs) 0))

-- ---- one output of a walk, in which each image writes the w places that f shows
module _ (f : Image → List ℤ) where
  abbrev pub cells : List Image → List ℤ
  cells [] = []
  cells (x ∷ xs) = f x ++ cells xs

  pub cells-append : (xs ys : List Image) → cells (xs ++ ys) ≡ cells xs ++ cells ys
  cells-append [] ys = refl
  cells-append (x ∷ xs) ys = ap (λ l. f x ++ l) (cells-append xs ys) ∙ sym (append_assoc (f x) (cells xs) (cells ys))

module _ (w : ℕ) (f : Image → List ℤ) (each : (x : Image) → length (f x) ≡ w) where
  pub length-cells : (xs : List Image) → length (cells f xs) ≡ w * length xs
  length-cells [] = omega arith
  length-cells (x ∷ xs) = length-append (f x) (cells f xs) ∙ ap₂ ◌+◌ (each x) (length-cells xs) ∙ omega arith

  module _ (out : Tables → List ℤ) (stores : (t : Tables) (x : Image) → out (store t x) ≡ put_at w (out t) t.at (f x)) where
    one : (x : Image) (t : Tables) (p r : List ℤ) → out t ≡ p ++ r → length p ≡ w * t.at → w ≤ length r → out (store t x) ≡ p ++ f x ++ drop w r
    one x t p r e h m = stores t x ∙ ap (λ l. put_at w l t.at (f x)) e ∙ put-after w t.at p (f x) r h (each x) m

    pub run : (xs : List Image) (t : Tables) (p r : List ℤ) → t.next ≡ t.at + 1 → out t ≡ p ++ r → length p ≡ w * t.at → w * length xs ≤ length r
        → out (stored t xs) ≡ p ++ cells f xs ++ drop (w * length xs) r
    run [] t p r n e h m = e ∙ ap₂ (λ a b. a ++ drop b r) {u = 0} {v = w * 0} (sym (append-nil p)) (omega arith)
    run (x ∷ xs) t p r n e h m =
        run xs (store t x) (p ++ f x) (drop w r) refl (one x t p r e h (omega arith)) place (omega (arith, length-drop w r))
        ∙ ap₂ ◌++◌ (append_assoc p (f x) (cells f xs)) (drop-drop (w * length xs) w r ∙ ap (λ k. drop k r) {x = w + w * length xs} {y = w * suc (length xs)} (omega arith))
      where
        place : length (p ++ f x) ≡ w * t.next
        place = length-append p (f x) ∙ ap₂ ◌+◌ h (each x) ∙ sum ∙ ap (λ k. w * k) (sym n)
          where
            sum : w * t.at + w ≡ w * (t.at + 1)
            sum = omega arith

    -- the first image at a place of its own
    pub apart : (xs : List Image) (t : Tables) (p q s r : List ℤ) → Found xs → out t ≡ p ++ (q ++ (s ++ r)) → length p ≡ w * t.at → w ≤ length q
        → length p + length q + length s ≡ w * t.next → w * length (drop 1 xs) ≤ length r
        → out (stored t xs) ≡ (p ++ cells f (take 1 xs)) ++ (drop w q ++ ((s ++ cells f (drop 1 xs)) ++ drop (w * length (drop 1 xs)) r))
    apart [] t p q s r some e h m l k = absurd some
    apart (x ∷ ys) t p q s r some e h m l k =
        run ys (store t x) (p ++ f x ++ (drop w q ++ s)) r refl first place k
        ∙ simp (append_assoc, append-nil)
      where
        first : out (store t x) ≡ p ++ f x ++ (drop w q ++ s) ++ r
        first = one x t p (q ++ (s ++ r)) e h (omega (arith, length-append q (s ++ r))) ∙ rw (drop-append-le w q (s ++ r) m) (simp append_assoc)

        place : length (p ++ f x ++ (drop w q ++ s)) ≡ w * t.next
        place = simp (length-append, each x, length-drop) (omega arith)
