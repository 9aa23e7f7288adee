-- A turn of the pass; a class map as a slice holds it; and the count of the entries that equal their own place.
use mathlib.Core.Path.{◌≡◌, refl, sym, ◌∙◌, ap, ap₂}
use mathlib.Core.Bool.{Bool, true, false}
use mathlib.Core.List.{List, map, map-map, map-id}
use Prim.Native.Nat.{ℕ, zero, suc, ◌+◌, ◌<◌, ◌≤◌}
use native.Mathlib.Nat.{le_refl}
use native.Mathlib.Omega.{arith}
use native.Mathlib.Numerals.{add-one}
use lib.IntN.{ℤ, pos, negsuc, nat_abs}
use lib.ListN.{length, get_or, set, length-map, get_or-map}
use lib.Signed.{mag}
use mir.Syntax.{w64}
use mir.Val.{to_z, of_z}
use mir.Facts.{to_z_pos}
use borrow.Author.Tests.{eq-eqb, ne_eqb}
use Rattle.std.specs.Prelude.{Option, None, Some}
use Rattle.integer.proofs.Fits.{held-is}
use Rattle.common.specs.Matrix.{Vec, Mat}
use Rattle.grgrid.specs.Grid.{size, rotate}
use Rattle.grgrid.specs.ClassMap.{first_lower, number, pass, class_map_of, classes, Numbered}
use Rattle.grgrid.specs.Own.{is_place, own_places}
use Rattle.grgrid.proofs.Pass.{pass-own}
use Rattle.grgrid.proofs.Built.{length-build, written, written-more, written_read}

-- ---- a turn of the pass: place p of the output, where the points below p have their numbers
module _ (gs : List (ℕ → ℕ)) (p : ℕ) (before out : List ℤ) (inv : out ≡ written (number gs) pos p before) (h : p < length before) where
  abbrev by : Option ℕ → ℕ
  by o = elim o [ Some q ↦ get_or (pass gs p) q 0 | None ↦ p ]

  store : {o : Option ℕ} → o ≡ first_lower gs p → {z : ℤ} → z ≡ pos (by o) → set out p z ≡ written (number gs) pos (p + 1) before
  store e r = written-more (number gs) pos p before inv h (r ∙ ap (λ o. pos (by o)) e)

  pub lower-stored : {q : ℕ} → Some q ≡ first_lower gs p → q < p → set out p (get_or out q (pos 0)) ≡ written (number gs) pos (p + 1) before
  lower-stored {q} e l = store e (ap (λ o. get_or o q (pos 0)) inv ∙ written_read (number gs) pos p q before 0 l)

  pub own-stored : None ≡ first_lower gs p → set out p (pos p) ≡ written (number gs) pos (p + 1) before
  own-stored e = store e refl

-- ---- a class map as a slice holds it
pub numbers_of : (classes : List ℕ) {l : List ℤ} → l ≡ map pos classes → map nat_abs l ≡ classes
numbers_of classes e = ap (map nat_abs) e ∙ map-map nat_abs pos classes ∙ map-id classes

-- of any list of operations
pub numbered : (d : Vec ℕ) (ps : Vec ℤ) (ms : List (Mat ℤ)) {l : List ℤ} → l ≡ map pos (class_map_of d ps ms) → Numbered (size d) l
unfolding class_map_of
numbered d ps ms e =
    let gs = map (rotate d ps) ms in
    let back = numbers_of (class_map_of d ps ms) e in
    record { natural = e ∙ ap (map pos) (sym back); low = λ p h. rw back (pass-own gs (size d) p h).0; own = λ p h. rw back (pass-own gs (size d) p h).1 }

pub numbered-at : {n : ℕ} {l : List ℤ} → Numbered n l → (p : ℕ) → get_or l p (pos 0) ≡ pos (get_or (map nat_abs l) p 0)
numbered-at {n} {l} h p = ap (λ l. get_or l p (pos 0)) h.natural ∙ get_or-map pos (map nat_abs l) p 0

-- ---- the count
pub own-few : (l : List ℤ) (n : ℕ) → own_places l n ≤ n
own-few l zero = le_refl 0
own-few l (suc n) = go (is_place (get_or l n (pos 0)) n) (own-few l n)
  where
    go : (t : Bool) → own_places l n ≤ n → elim t [ true ↦ suc (own_places l n) | false ↦ own_places l n ] ≤ suc n
    go true h = omega arith
    go false h = omega arith

pub own-classes : (d : Vec ℕ) (ps : Vec ℤ) (ms : List (Mat ℤ)) {l : List ℤ} → l ≡ map pos (class_map_of d ps ms) → (length l ≡ size d) × (own_places l (length l) ≡ classes d ps ms)
unfolding class_map_of classes
own-classes d ps ms {l} e = (size_is, ap₂ own_places e size_is)
  where
    size_is : length l ≡ size d
    size_is = ap length e ∙ length-map (class_map_of d ps ms) pos ∙ length-build (number (map (rotate d ps) ms)) (size d)

module _ (l : List ℤ) (n : ℕ) where
  next : (t : Bool) → is_place (get_or l n (pos 0)) n ≡ t → own_places l (n + 1) ≡ elim t [ true ↦ suc (own_places l n) | false ↦ own_places l n ]
  next t e = ap (own_places l) (add-one n) ∙ ap (λ (t : Bool). elim t [ true ↦ suc (own_places l n) | false ↦ own_places l n ]) e

  pub own-more : is_place (get_or l n (pos 0)) n ≡ true → own_places l n + 1 ≡ own_places l (n + 1)
  own-more e = add-one (own_places l n) ∙ sym (next true e)

  pub own_same : is_place (get_or l n (pos 0)) n ≡ false → own_places l n ≡ own_places l (n + 1)
  own_same e = sym (next false e)

-- ---- the test of an entry, on its bits
module _ (z : ℤ) (n : ℕ) where
  pub entry-is : mag z < 0x8000000000000000 → n < 0x8000000000000000 → of_z w64 z ≡ n → z ≡ pos n
  entry-is f h e = sym (held-is z f) ∙ ap (to_z w64) e ∙ to_z_pos w64 h

  pub entry_place : z ≡ pos n → is_place z n ≡ true
  entry_place e = ap (λ z. is_place z n) e ∙ eq-eqb n n refl

pub entry_other : (z : ℤ) (n : ℕ) → (of_z w64 z ≡ n → ⊥) → is_place z n ≡ false
entry_other (pos m) n h = ne_eqb m n h
entry_other (negsuc m) n h = refl
