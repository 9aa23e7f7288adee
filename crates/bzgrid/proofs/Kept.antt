-- The walk over the candidates of a point that keeps some is a walk over the point's images.
use mathlib.Core.Path.{◌≡◌, refl, sym, ◌∙◌, ap, ap₂}
use mathlib.Core.Bool.{Bool, true, false, cond}
use mathlib.Core.List.{List, [], ◌∷◌, map, foldl}
use Prim.Native.Nat.{ℕ}
use lib.IntN.{ℤ}
use lib.Ieee.{Float, lt}
use Rattle.common.specs.Matrix.{Vec}
use Rattle.common.specs.Array.{vector_of}
use Rattle.grgrid.specs.Grid.{address}
use Rattle.bzsearch.specs.Search.{Search, Split, Span, split_reduced, distance, search_range, range_fits, candidates, bound, set_bz_address, kept_by, images_from, images_of, images}
use Rattle.bzgrid.specs.Table.{image_of, images_at}
use Rattle.bzgrid.specs.Code.Writing.{Tables, store, stored, keep, kept}
use Rattle.bzsearch.specs.SearchView.{search_view, point_split}
use Rattle.bzsearch.specs.declared.types.BzSearch.{BzSearch}
use Rattle.bzsearch.specs.declared.types.Point.{Point}

-- ---- the walk that keeps images
abbrev pub keeping : BzSearch → Point → Float → Tables → Vec ℤ → Tables
keeping s p bound = keep (search_view s) p.index (vector_of p.address.v) (point_split p) bound

both : {A B C : Type 0} (b : Bool) (g : A → C) (k : B → C) {x y : A} {u v : B} → g x ≡ k u → g y ≡ k v → g (cond b x y) ≡ k (cond b u v)
both true g k p q = p
both false g k p q = q

module _ {A : Type 0} (i : ℕ) (q : A → Bool) (h : A → Vec ℤ) where
  abbrev tried : Tables → A → Tables
  tried t m = cond (q m) (store t (image_of i (h m))) t

  kept-stored : (t : Tables) (ms : List A) → foldl tried t ms ≡ stored t (map (image_of i) (kept_by q h ms))
  kept-stored t [] = refl
  kept-stored t (m ∷ ms) =
      both (q m) (λ u. foldl tried u ms) (λ l. stored t (map (image_of i) l)) {u = h m ∷ kept_by q h ms} {v = kept_by q h ms}
      (kept-stored (store t (image_of i (h m))) ms) (kept-stored t ms)

-- of point i, with address a and coordinates p, whose range is r
module _ (s : Search) (i : ℕ) {a : Vec ℤ} {p : Split} {r : Vec Span} (ea : a ≡ address s.d i) (ep : p ≡ split_reduced s (address s.d i)) (er : r ≡ search_range s p.s0) where
  abbrev found : Vec Span → List (Vec ℤ)
  found r = cond (range_fits r) (images_from s a p (candidates r)) []

  images-found : found r ≡ images s i
  unfolding images
  images-found = ap found er ∙ ap₂ (images_of s) ea ep

  pub none_kept : range_fits r ≡ false → (t : Tables) → t ≡ stored t (images_at s i)
  unfolding images_at
  none_kept e t = ap (λ l. stored t (map (image_of i) l)) (ap (λ f. cond f (images_from s a p (candidates r)) []) (sym e) ∙ images-found)

  pub all-kept : range_fits r ≡ true → {ms : List (Vec ℤ)} → ms ≡ candidates r → {b : Float} → b ≡ bound s p.s0 ms → {j : ℕ} → j ≡ i → (t : Tables) → kept s j a p b t ms ≡ stored t (images_at s i)
  unfolding images_at
  all-kept e {ms} em {b} eb ej t =
      ap (λ j. kept s j a p b t ms) ej
      ∙ kept-stored i (λ m. lt (distance s p.s0 m) b) (set_bz_address s a p.nint) t ms
      ∙ ap (λ l. stored t (map (image_of i) l)) (ap₂ (λ c ms. kept_by (λ m. lt (distance s p.s0 m) c) (set_bz_address s a p.nint) ms) (eb ∙ ap (bound s p.s0) em) em ∙ ap (λ f. cond f (images_from s a p (candidates r)) []) (sym e) ∙ images-found)
