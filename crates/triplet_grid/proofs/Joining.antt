-- With swapping a class and that of its partners are one. Its number is the lower of their two.
use mathlib.Core.Path.{◌≡◌, sym, subst}
use mathlib.Core.Logic.{inl, inr, ⊎_elim, ◌↔◌}
use mathlib.Core.Bool.{Bool, true, false}
use mathlib.Core.List.{List, map}
use lib.IntN.{pos}
use Prim.Native.Nat.{ℕ, ◌≤◌, ◌<◌}
use native.Mathlib.Nat.{le_trans, le_of_lt}
use lib.Dec.{ltb, ltb→lt, nltb→le}
use lib.ListN.{get_or}
use Rattle.integer.proofs.Test.{pick-cases}
use Rattle.common.specs.Matrix.{Vec}
use Rattle.grgrid.specs.Grid.{size}
use Rattle.grgrid.specs.Own.{own_places}
use Rattle.grgrid.proofs.Built.{length-build, build-at}
use Rattle.grgrid.specs.Orbits.{Least}
use Rattle.grgrid.proofs.Pass.{Equiv}
use Rattle.grgrid.proofs.Count.{Classified, classified}
use Rattle.triplet_grid.specs.Partner.{partner}
use Rattle.triplet_grid.specs.Classes.{Opposite, Joined, Meets}
use Rattle.triplet_grid.specs.IrTriplets.{lower_of, numbers_of, map_triplets_of}

-- a map of the points that is its own inverse and takes classes to classes
pub record Partner (N : ℕ) (E : ℕ → ℕ → Type 0) (π : ℕ → ℕ) : Type 0 where
  pub inside : (p : ℕ) → p < N → π p < N
  pub twice : (p : ℕ) → p < N → π (π p) ≡ p
  pub moves : (p q : ℕ) → p < N → E p q → E (π p) (π q)

module _ {N : ℕ} {E : ℕ → ℕ → Type 0} {π : ℕ → ℕ} (e : Equiv N E) (k : Partner N E π) where
  over : (p q : ℕ) → p < N → E (π p) q → E p (π q)
  over p q h m = subst (λ (z : ℕ). E z (π q)) (k.twice p h) (k.moves (π p) q (k.inside p h) m)

  opposite-of : (p q : ℕ) → q < N → E p (π q) → Opposite E π p q
  opposite-of p q h m = record { via = π q; reached = m; is = sym (k.twice q h) }

  of-opposite : (p q : ℕ) → p < N → Opposite E π p q → E p (π q)
  of-opposite p q h o = rw (o.is, k.twice o.via (e.inside p o.via h o.reached)) o.reached

  opposite-inside : (p q : ℕ) → p < N → Opposite E π p q → q < N
  opposite-inside p q h o = rw o.is (k.inside o.via (e.inside p o.via h o.reached))

  -- the two ways to say it
  pub joined_meets : (b : Bool) (p q : ℕ) → p < N → q < N → Joined b E π p q ↔ Meets b E π p q
  joined_meets false p q h l = (λ m. m, λ m. m)
  joined_meets true p q h l = (⊎_elim inl (λ o. inr (of-opposite p q h o)), ⊎_elim inl (λ m. inr (opposite-of p q l m)))

  pub joined-equiv : (b : Bool) → Equiv N (Joined b E π)
  joined-equiv false = e
  joined-equiv true = record { inside = inside; same = λ p h. inl (e.same p h); back = back; on = on }
    where
      inside : (p q : ℕ) → p < N → Joined true E π p q → q < N
      inside p q h (inl m) = e.inside p q h m
      inside p q h (inr o) = opposite-inside p q h o

      back : (p q : ℕ) → p < N → Joined true E π p q → Joined true E π q p
      back p q h (inl m) = inl (e.back p q h m)
      back p q h (inr o) =
          let l = opposite-inside p q h o in
          inr (opposite-of q p h (over q p l (e.back p (π q) h (of-opposite p q h o))))

      on : (p q r : ℕ) → p < N → Joined true E π p q → Joined true E π q r → Joined true E π p r
      on p q r h (inl m) (inl n) = inl (e.on p q r h m n)
      on p q r h (inl m) (inr o) = inr (record { via = o.via; reached = e.on p q o.via h m o.reached; is = o.is })
      on p q r h (inr o) (inl n) =
          let l = opposite-inside p q h o in
          inr (opposite-of p r (e.inside q r l n) (e.on p (π q) (π r) h (of-opposite p q h o) (k.moves q r l n)))
      on p q r h (inr o) (inr n) =
          let l = opposite-inside p q h o in
          inl (rw n.is (e.on p (π q) (π n.via) h (of-opposite p q h o) (k.moves q n.via l n.reached)))

  -- ---- the least r of a class, and the least s of its partners
  module _ (p r s : ℕ) (h : p < N) (l : Least (E p) r) (m : Least (E (π r)) s) where
    r-inside : r < N
    r-inside = e.inside p r h l.is-in

    facing : (y : ℕ) → Opposite E π p y → s ≤ y
    facing y o = m.lowest y (rw o.is (k.moves r o.via r-inside (e.on r p o.via r-inside (e.back p r h l.is-in) o.reached)))

    own-least : r ≤ s → Least (Joined true E π p) r
    own-least c = record { is-in = inl l.is-in; lowest = λ y. ⊎_elim (l.lowest y) (λ o. le_trans c (facing y o)) }

    facing-least : s < r → Least (Joined true E π p) s
    facing-least c = record {
      is-in = inr (opposite-of p s (e.inside (π r) s (k.inside r r-inside) m.is-in) (e.on p r (π s) h l.is-in (over r s r-inside m.is-in)));
      lowest = λ y. ⊎_elim (λ n. le_trans (le_of_lt c) (l.lowest y n)) (facing y);
    }

  pub lower-least : (f : ℕ → ℕ) → ((p : ℕ) → p < N → Least (E p) (f p)) → (p : ℕ) → p < N → Least (Joined true E π p) (lower_of (f (π (f p))) (f p))
  lower-least f least p h =
      let r = f p in
      let l = least p h in
      let m = least (π r) (k.inside r (e.inside p r h l.is-in)) in
      pick-cases (ltb (f (π r)) r) (f (π r)) r (Least (Joined true E π p))
      (λ t. facing-least p r (f (π r)) h l m (ltb→lt (f (π r)) r t)) (λ t. own-least p r (f (π r)) h l m (nltb→le (f (π r)) r t))

-- ---- the classes of the triplets, from those of the points
pub triplet-classes : (swappable : Bool) (d : Vec ℕ) (q0 : ℕ) {E : ℕ → ℕ → Type 0} → Equiv (size d) E → Partner (size d) E (partner d q0) → {classes : List ℕ} {count : ℕ}
    → Classified (size d) E classes count
    → Classified (size d) (Joined swappable E (partner d q0)) (map_triplets_of swappable d q0 classes) (own_places (map pos (map_triplets_of swappable d q0 classes)) (size d))
unfolding map_triplets_of
triplet-classes swappable d q0 {E} e k {classes} c =
    classified (joined-equiv e k swappable) (map_triplets_of swappable d q0 classes) (length-build number (size d))
    (λ p h. rw (build-at number 0 (size d) p h) (least swappable p h))
  where
    number : ℕ → List ℕ → ℕ
    number q1 done = numbers_of swappable d q0 classes q1

    least : (b : Bool) (p : ℕ) → p < size d → Least (Joined b E (partner d q0) p) (numbers_of b d q0 classes p)
    least true p h = lower-least e k (λ q. get_or classes q 0) c.lowest p h
    least false p h = c.lowest p h
