-- The images of a point, read one after the other and stored.
use mathlib.Core.Path.{◌≡◌, sym, ◌∙◌, ap}
use mathlib.Core.List.{List, [], ◌∷◌, ◌++◌, map, map-append, foldl-append}
use Prim.Native.Nat.{ℕ, ◌+◌, ◌<◌}
use native.Mathlib.Numerals.{add-one}
use native.Mathlib.Omega.{arith}
use lib.IntN.{ℤ, pos}
use lib.ListN.{get_or}
use Rattle.common.specs.Matrix.{Vec}
use Rattle.common.specs.Tested.{◌then◌}
use Rattle.common.proofs.Tests.{same-ok}
use Rattle.bzsearch.proofs.Listing.{number-item}
use Rattle.bzgrid.specs.Table.{image_of, listed}
use Rattle.bzgrid.specs.Code.Writing.{Tables, store, stored}
use Rattle.bzgrid.proofs.Accepted.{passes-first}
use Rattle.bzgrid.proofs.Mapped.{length-numbers, listed_more}
use Rattle.bztable.specs.Reading.{Read, got, read_each}
use Rattle.bztable.proofs.EachRead.{each_more, each-read}

-- image k of point p stands at place `at k`; f reads there
module _ (f : ℕ → Read (Vec ℤ)) (at : ℕ → ℕ) where
  -- each of n can be read
  pub each-is : {n k : ℕ} {l : List (Vec ℤ)} → read_each f (listed at n) ≡ got l → k < n → (a : Vec ℤ) × (f (at k) ≡ got a)
  each-is {n} {k} {l} e h =
      let zero : Vec ℤ = record { x = pos 0; y = pos 0; z = pos 0 } in
      let r = (each-read 0 zero f (listed at n) e).1 k (omega (arith, length-numbers at 0 n)) in
      (get_or l k zero, ap f (sym (number-item at 0 0 n k h ∙ ap at {x = 0 + k} {y = k} (omega arith))) ∙ r)

  module _ (p : ℕ) (t₀ : Tables) where
    abbrev stored_as : List (Vec ℤ) → Tables
    stored_as l = stored t₀ (map (image_of p) l)

    -- t is what the first k leave
    abbrev pub Stored : ℕ → Tables → Type 0
    Stored k t = got t ≡ (read_each f (listed at k) then λ l. got (stored_as l))

    stored-more : (l : List (Vec ℤ)) (a : Vec ℤ) → stored_as (l ++ (a ∷ [])) ≡ store (stored_as l) (image_of p a)
    stored-more l a = ap (stored t₀) (map-append (image_of p) l (a ∷ [])) ∙ foldl-append store t₀ (map (image_of p) l) (image_of p a ∷ [])

    pub more : (k : ℕ) {t u : Tables} {a : Vec ℤ} → Stored k t → f (at k) ≡ got a → u ≡ store t (image_of p a) → Stored (k + 1) u
    more k {t} {u} {a} s e q =
        let r = passes-first (read_each f (listed at k)) (λ l. got (stored_as l)) (sym s) in
        let first : read_each f (listed at (k + 1)) ≡ got (r.0 ++ (a ∷ [])) =
        ap (λ n. read_each f (listed at n)) (add-one k) ∙ ap (read_each f) (sym (listed_more at k)) ∙ each_more f (listed at k) (at k) r.1 e in
        ap got (q ∙ ap (λ u. store u (image_of p a)) (sym (same-ok r.2)) ∙ sym (stored-more r.0 a)) ∙ sym (ap (λ x. x then λ l. got (stored_as l)) first)

    pub ended : (n : ℕ) {t : Tables} {l : List (Vec ℤ)} → Stored n t → read_each f (listed at n) ≡ got l → t ≡ stored_as l
    ended n s e = same-ok (s ∙ ap (λ x. x then λ l. got (stored_as l)) e)
