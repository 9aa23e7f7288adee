-- The count of points that keep their own number is the number of classes, however one point of each class is chosen.
use mathlib.Core.Path.{◌≡◌, refl, sym, ◌∙◌, ap}
use mathlib.Core.Logic.{◌↔◌}
use mathlib.Core.Bool.{Bool, true, false}
use mathlib.Core.List.Memᴰ.{cast}
use mathlib.Core.List.Memᴰ.{map as map-in}
use mathlib.Core.List.Memᴰ.{of_map}
use mathlib.Core.List.{List, map}
use Prim.Native.Nat.{ℕ, zero, suc, ◌+◌, ◌<◌}
use native.Mathlib.Nat.{le_antisymm}
use native.Mathlib.Omega.{arith}
use lib.Dec.{eqb, eqb→eq, eqb_refl}
use lib.IntN.{pos}
use lib.ListN.{length, get_or, length-map, get_or-map}
use Rattle.grgrid.specs.Picked.{picked}
use Rattle.grgrid.specs.ClassMap.{pass, number}
use Rattle.grgrid.specs.Own.{is_place, own_places}
use Rattle.grgrid.specs.Orbits.{OneEach, Least}
use Rattle.grgrid.proofs.Lists.{◌∈◌, ◌⊆◌, Distinct, distinct-map, shorter}
use Rattle.grgrid.proofs.Picked.{mark, in-picked, picked-distinct, picked-length}
use Rattle.grgrid.proofs.Built.{length-build}
use Rattle.grgrid.proofs.Pass.{Equiv, Steps, one_number, below, again, pass-least}

-- ---- the points below n that f keeps
abbrev own : (ℕ → ℕ) → ℕ → List ℕ
own f n = picked (λ p. eqb (f p) p) n

pub in-own : (f : ℕ → ℕ) (n p : ℕ) → (p ∈ own f n) ↔ ((p < n) × (f p ≡ p))
in-own f n p = let r = in-picked (λ p. eqb (f p) p) n p in (λ m. ((r.0 m).0, eqb→eq (f p) p (r.0 m).1), λ k. r.1 (k.0, rw k.1 (eqb_refl p)))

own-distinct : (f : ℕ → ℕ) (n : ℕ) → Distinct (own f n)
own-distinct f n = picked-distinct (λ p. eqb (f p) p) n

-- the number of p
abbrev at : List ℕ → ℕ → ℕ
at numbers p = get_or numbers p 0

pub own-count : (numbers : List ℕ) (n : ℕ) → own_places (map pos numbers) n ≡ length (own (at numbers) n)
own-count numbers zero = refl
own-count numbers (suc n) =
    ap (λ z. elim (is_place z n) as (λ _. ℕ) [ true ↦ suc (own_places (map pos numbers) n) | false ↦ own_places (map pos numbers) n ]) (get_or-map pos numbers n 0)
    ∙ go (eqb (at numbers n) n) (own-count numbers n) ∙ sym (picked-length (λ p. eqb (at numbers p) p) n)
  where
    go : (b : Bool) → own_places (map pos numbers) n ≡ length (own (at numbers) n) → elim b [ true ↦ suc (own_places (map pos numbers) n) | false ↦ own_places (map pos numbers) n ] ≡ length (own (at numbers) n) + mark b
    go true e = omega arith
    go false e = omega arith

-- ---- one point of each class
module _ {N : ℕ} {E : ℕ → ℕ → Type 0} (e : Equiv N E) (f : ℕ → ℕ) (least : (p : ℕ) → p < N → Least (E p) (f p)) where
  own-each : OneEach N E (own f N)
  own-each = record {
    inside = λ p m. ((in-own f N p).0 m).0;
    distinct = own-distinct f N;
    apart = λ p q m n k. let r = (in-own f N p).0 m in let s = (in-own f N q).0 n in sym r.1 ∙ (one_number e f least p q r.0 s.0).1 k ∙ s.1;
    covers = λ p h. (f p, (in-own f N (f p)).1 (below e f least p h, again e f least p h), (least p h).is-in);
  }

  -- their numbers are the points that keep their own
  as_many : (l : List ℕ) → OneEach N E l → length l ≡ length (own f N)
  as_many l o = sym (length-map l f) ∙ le_antisymm (shorter (map f l) (own f N) (distinct-map f l single o.distinct) into) (shorter (own f N) (map f l) (own-distinct f N) onto)
    where
      single : (p q : ℕ) → p ∈ l → q ∈ l → f p ≡ f q → p ≡ q
      single p q m n i = o.apart p q m n ((one_number e f least p q (o.inside p m) (o.inside q n)).0 i)

      into : map f l ⊆ own f N
      into z m = let r = of_map f l m in let h = o.inside r.0 r.1 in cast (sym r.2) ((in-own f N (f r.0)).1 (below e f least r.0 h, again e f least r.0 h))

      onto : own f N ⊆ map f l
      onto z m = let h = (in-own f N z).0 m in let c = o.covers z h.0 in cast (sym h.1 ∙ (one_number e f least z c.0 h.0 (o.inside c.0 c.1)).1 c.2) (map-in f c.1)

-- ---- a class map and its count
pub record Classified (N : ℕ) (E : ℕ → ℕ → Type 0) (numbers : List ℕ) (count : ℕ) : Type 0 where
  -- every point has a number, two have one exactly if they are of one class, and it is the least point of the class
  pub full : length numbers ≡ N
  pub one_number : (p q : ℕ) → p < N → q < N → (get_or numbers p 0 ≡ get_or numbers q 0) ↔ E p q
  pub lowest : (p : ℕ) → p < N → Least (E p) (get_or numbers p 0)
  -- one point of each class can be chosen, and however they are chosen, there are as many
  pub chosen : (l : List ℕ) × OneEach N E l
  pub counted : (l : List ℕ) → OneEach N E l → length l ≡ count

pub classified : {N : ℕ} {E : ℕ → ℕ → Type 0} → Equiv N E → (numbers : List ℕ) → length numbers ≡ N
    → ((p : ℕ) → p < N → Least (E p) (get_or numbers p 0)) → Classified N E numbers (own_places (map pos numbers) N)
classified {N} e numbers full least = record {
  full = full;
  one_number = one_number e (at numbers) least;
  lowest = least;
  chosen = (own (at numbers) N, own-each e (at numbers) least);
  counted = λ l o. as_many e (at numbers) least l o ∙ sym (own-count numbers N);
}

pub pass-classified : {N : ℕ} {E : ℕ → ℕ → Type 0} → Equiv N E → (gs : List (ℕ → ℕ)) → Steps N gs E → Classified N E (pass gs N) (own_places (map pos (pass gs N)) N)
pass-classified {N} e gs s = classified e (pass gs N) (length-build (number gs) N) (pass-least e gs s)
