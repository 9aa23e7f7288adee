-- The points whose entry in a class map is their own place, from the lowest up: they are one of each class.
use mathlib.Core.Path.{◌≡◌, refl, sym, ◌∙◌, ap, subst}
use mathlib.Core.Logic.{◌↔◌}
use mathlib.Core.Bool.{Bool, true, false}
use mathlib.Core.List.{List, [], ◌∷◌, ◌++◌, map}
use Prim.Native.Nat.{ℕ, zero, suc, ◌+◌, ◌<◌, ◌≤◌}
use native.Mathlib.Omega.{arith}
use lib.Dec.{T, eqb→eq, eqb_refl}
use lib.IntN.{ℤ, pos, negsuc, nat_abs}
use lib.ListN.{length, get_or, get_or-map}
use Rattle.grgrid.specs.Picked.{Rising}
use Rattle.grgrid.specs.Own.{is_place, own_places, own_points}
use Rattle.grgrid.proofs.Lists.{◌∈◌}
use Rattle.grgrid.proofs.Picked.{mark, in-picked, picked-rising, picked-distinct, picked_more, picked_same, picked-length, picked-grows}
use Rattle.grgrid.specs.Orbits.{OneEach}
use Rattle.grgrid.proofs.Count.{Classified}

place_is : (z : ℤ) (n : ℕ) → T (is_place z n) → z ≡ pos n
place_is (pos m) n t = ap pos (eqb→eq m n t)
place_is (negsuc m) n t = absurd t

is-place : {z : ℤ} (n : ℕ) → z ≡ pos n → T (is_place z n)
is-place n e = subst (λ z. T (is_place z n)) (sym e) (eqb_refl n)

module _ (l : List ℤ) where
  abbrev here? : ℕ → Bool
  here? n = is_place (get_or l n (pos 0)) n

  pub length-own : (n : ℕ) → length (own_points l n) ≡ own_places l n
  length-own zero = refl
  length-own (suc n) = picked-length here? n ∙ step (here? n) (length-own n)
    where
      step : (b : Bool) → length (own_points l n) ≡ own_places l n → length (own_points l n) + mark b ≡ elim b [ true ↦ suc (own_places l n) | false ↦ own_places l n ]
      step true e = omega arith
      step false e = omega arith

  pub own-rises : (n m : ℕ) → n ≤ m → own_places l n ≤ own_places l m
  own-rises n m h = omega (arith, length-own n, length-own m, picked-grows here? n m h)

  -- the points below n + 1
  pub points_more : (n : ℕ) → here? n ≡ true → own_points l (n + 1) ≡ own_points l n ++ (n ∷ [])
  points_more = picked_more here?

  pub points_same : (n : ℕ) → here? n ≡ false → own_points l (n + 1) ≡ own_points l n
  points_same = picked_same here?

  pub own-points : (n p : ℕ) → (p ∈ own_points l n) ↔ ((p < n) × (get_or l p (pos 0) ≡ pos p))
  own-points n p = let r = in-picked here? n p in (λ m. ((r.0 m).0, place_is (get_or l p (pos 0)) p (r.0 m).1), λ k. r.1 (k.0, is-place p k.1))

  pub own-rising : (n : ℕ) → Rising (own_points l n)
  own-rising n = picked-rising here? n

-- ---- the points with their own number are one of each class
pub own-each : {N : ℕ} {E : ℕ → ℕ → Type 0} {numbers : List ℕ} {count : ℕ} → Classified N E numbers count → OneEach N E (own_points (map pos numbers) N)
own-each {N} {E} {numbers} c = record {
  inside = λ p m. (own p m).0;
  distinct = picked-distinct (here? (map pos numbers)) N;
  apart = λ p q m k e. sym (own p m).1 ∙ (c.one_number p q (own p m).0 (own q k).0).1 e ∙ (own q k).1;
  covers = λ p h.
      let r = c.lowest p h in
      let low = r.lowest p ((c.one_number p p h h).0 refl) in
      let in-range : at p < N = omega arith in
      (at p, (own-points (map pos numbers) N (at p)).1 (in-range, get_or-map pos numbers (at p) 0 ∙ ap pos (sym ((c.one_number p (at p) h in-range).1 r.is-in))), r.is-in);
}
  where
    at : ℕ → ℕ
    at p = get_or numbers p 0

    own : (p : ℕ) → p ∈ own_points (map pos numbers) N → (p < N) × (at p ≡ p)
    own p m = let r = (own-points (map pos numbers) N p).0 m in (r.0, ap nat_abs (sym (get_or-map pos numbers p 0) ∙ r.1))
