-- The images of a point: which candidates they are made from; each folds back to the point; no two are equal.
use mathlib.Core.Path.{◌≡◌, refl, sym, ◌∙◌, ap, subst}
use mathlib.Core.Logic.{◌↔◌}
use mathlib.Core.Bool.{Bool, true, false, cond}
use mathlib.Core.List.Memᴰ.{not-nil}
use mathlib.Core.List.{List, [], ◌∷◌}
use Prim.Native.Nat.{ℕ, ◌≤◌, ◌<◌, zero-le}
use native.Mathlib.Nat.{le_trans}
use lib.Dec.{T}
use lib.IntN.{ℤ, pos, ◌+ℤ◌, ◌*ℤ◌, ◌-ℤ◌}
use lib.ListN.{length}
use lib.Ieee.{Float, lt}
use Rattle.integer.proofs.Congruence.{congruent-by}
use Rattle.integer.proofs.Divides.{mul-cancel}
use Rattle.integer.proofs.Reify.{ring, reify, zero-by, eq-by}
use Rattle.common.specs.Matrix.{Axis, Vec, Mat, side, vector, ◌·◌, ◌▹◌, identity}
use Rattle.common.proofs.Matrix.{same-vector, side-vector, apply-product, apply-identity}
use Rattle.common.proofs.Unimodular.{Unimodular, inverse-right}
use Rattle.grgrid.specs.Grid.{size, index, address}
use Rattle.grgrid.proofs.Lists.{◌∈◌, Distinct}
use Rattle.grgrid.proofs.Folding.{Sides, Agree, agree-by, same_index, index-address}
use Rattle.bzsearch.specs.Search.{Search, new_search, Split, Span, split_reduced, search_range, range_fits, candidates, distance, bound, set_bz_address, images, images_from, images_of}
use Rattle.bzsearch.proofs.Listing.{kept_in, kept_of, kept-few, kept-distinct}
use Rattle.bzsearch.proofs.CandidateSet.{candidates-distinct, candidates-few}

-- what the laws need of a search
pub record Sound (s : Search) : Type 0 where
  pub sides : Sides s.d
  pub undone : s.q · s.q_inv ≡ identity

pub new-sound : (d : Vec ℕ) (ps : Vec ℤ) {q : Mat ℤ} (lattice : Mat Float) → Sides d → Unimodular q → Sound (new_search d ps q lattice)
new-sound d ps lattice h u = record { sides = h; undone = inverse-right u }

-- ---- the address of a candidate
module _ (s : Search) (a n : Vec ℤ) where
  abbrev away : Vec ℤ → Vec ℤ
  away m = vector (λ k. side m k -ℤ side n k)

  -- it differs from a by multiples of d
  pub set-agree : (m : Vec ℤ) → Agree s.d (set_bz_address s a n m) a
  set-agree m =
      agree-by (λ k. side a k +ℤ side (s.q_inv ▹ away m) k *ℤ pos (side s.d k)) (side a) (λ k. congruent-by (side (s.q_inv ▹ away m) k) refl)

  pub set-injective : Sound s → (m w : Vec ℤ) → set_bz_address s a n m ≡ set_bz_address s a n w → m ≡ w
  set-injective h m w e = same-vector (λ k. cancel (side m k) (side w k) (side n k) (at_side (λ m k. side m k -ℤ side n k) back k))
    where
      at_side : (f : Vec ℤ → Axis → ℤ) → vector (f m) ≡ vector (f w) → (k : Axis) → f m k ≡ f w k
      at_side f p k = sym (side-vector (f m) k) ∙ ap (λ v. side v k) p ∙ side-vector (f w) k

      same-multiple : (x u v c : ℤ) → x +ℤ u *ℤ c ≡ x +ℤ v *ℤ c → u *ℤ c ≡ v *ℤ c
      same-multiple x u v c p = eq-by (zero-by p) (ring (x ∷ u ∷ v ∷ c ∷ []) (search reify depth 40) tt)

      turned : s.q_inv ▹ away m ≡ s.q_inv ▹ away w
      turned =
          same-vector {f = side (s.q_inv ▹ away m)} {g = side (s.q_inv ▹ away w)} (λ k.
          mul-cancel (side (s.q_inv ▹ away m) k) (side (s.q_inv ▹ away w) k) (pos (side s.d k)) (h.sides.positive k)
          (same-multiple (side a k) (side (s.q_inv ▹ away m) k) (side (s.q_inv ▹ away w) k) (pos (side s.d k))
          (at_side (λ m k. side a k +ℤ side (s.q_inv ▹ away m) k *ℤ pos (side s.d k)) e k)))

      undo : (v : Vec ℤ) → s.q ▹ s.q_inv ▹ v ≡ v
      undo v = sym (apply-product s.q s.q_inv v) ∙ ap (λ M. M ▹ v) h.undone ∙ apply-identity v

      back : away m ≡ away w
      back = sym (undo (away m)) ∙ ap (λ v. s.q ▹ v) turned ∙ undo (away w)

      cancel : (x y z : ℤ) → x -ℤ z ≡ y -ℤ z → x ≡ y
      cancel x y z p = eq-by (zero-by p) (ring (x ∷ y ∷ z ∷ []) (search reify depth 40) tt)

-- ---- the search of a point
module _ (s : Search) (p : ℕ) where
  abbrev pub split_at : Split
  split_at = split_reduced s (address s.d p)

  abbrev pub range_at : Vec Span
  range_at = search_range s split_at.s0

  abbrev pub tried : List (Vec ℤ)
  tried = candidates range_at

  abbrev pub address_of : Vec ℤ → Vec ℤ
  address_of m = set_bz_address s (address s.d p) split_at.nint m

  -- under the least length plus the tolerance
  abbrev pub accepted : Vec ℤ → Bool
  accepted m = lt (distance s split_at.s0 m) (bound s split_at.s0 tried)

  images-are : images s p ≡ images_of s (address s.d p) split_at
  unfolding images
  images-are = refl

  -- an image is made from a candidate that was accepted
  pub record Made (a : Vec ℤ) : Type 0 where
    pub fits : T (range_fits range_at)
    pub from : Vec ℤ
    pub among : from ∈ tried
    pub under : T (accepted from)
    pub is : address_of from ≡ a

  pub image-made : {a : Vec ℤ} → a ∈ images s p → Made a
  image-made {a} k = go (range_fits range_at) (λ t. t) (subst (λ l. a ∈ l) images-are k)
    where
      go : (t : Bool) → (T t → T (range_fits range_at)) → a ∈ cond t (images_from s (address s.d p) split_at tried) [] → Made a
      go true h k = let r = kept_of accepted address_of tried k in record { fits = h tt; from = r.0; among = r.1; under = r.2; is = r.3 }
      go false h k = absurd (not-nil k)

  -- and every such candidate makes one
  pub accepted-image : T (range_fits range_at) → {m : Vec ℤ} → m ∈ tried → T (accepted m) → address_of m ∈ images s p
  accepted-image t {m} k u = subst (λ l. address_of m ∈ l) (sym images-are) (go (range_fits range_at) t)
    where
      go : (b : Bool) → T b → address_of m ∈ cond b (images_from s (address s.d p) split_at tried) []
      go true t = kept_in accepted address_of k u
      go false t = absurd t

  pub images-few : length (images s p) ≤ 36062
  images-few = subst (λ l. length l ≤ 36062) (sym images-are) (go (range_fits range_at) (λ t. t))
    where
      go : (b : Bool) → (T b → T (range_fits range_at)) → length (cond b (images_from s (address s.d p) split_at tried) []) ≤ 36062
      go true h = le_trans (kept-few accepted address_of tried) (candidates-few range_at (h tt))
      go false h = zero-le

  module _ (h : Sound s) where
    -- a candidate is kept exactly if it was accepted
    pub kept-exactly : T (range_fits range_at) → {m : Vec ℤ} → m ∈ tried → (address_of m ∈ images s p) ↔ T (accepted m)
    kept-exactly t {m} k = (λ i. let r = image-made i in subst (λ m. T (accepted m)) (set-injective s (address s.d p) split_at.nint h r.from m r.is) r.under, accepted-image t k)

    pub images-distinct : Distinct (images s p)
    images-distinct = subst Distinct (sym images-are) (go (range_fits range_at))
      where
        go : (b : Bool) → Distinct (cond b (images_from s (address s.d p) split_at tried) [])
        go true = kept-distinct accepted address_of tried (λ m w i j. set-injective s (address s.d p) split_at.nint h m w) (candidates-distinct range_at)
        go false = tt

    pub image-folds : p < size s.d → {a : Vec ℤ} → a ∈ images s p → index s.d a ≡ p
    image-folds l {a} k =
        let r = image-made k in
        ap (index s.d) (sym r.is) ∙ same_index s.d h.sides (set-agree s (address s.d p) split_at.nint r.from) ∙ index-address s.d h.sides p l
