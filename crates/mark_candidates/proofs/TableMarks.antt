-- The marks by a table are those of the definition, and the walk over a table, turn by turn.
use mathlib.Core.Path.{◌≡◌, refl, sym, ap₂}
use mathlib.Core.Bool.{Bool, true, false, ◌&&◌, ◌||◌, cond}
use mathlib.Core.List.{List, [], ◌∷◌, map}
use Prim.Native.Nat.{ℕ}
use lib.Dec.{T}
use lib.IntN.{ℤ, pos}
use Rattle.common.specs.Every.{every, some}
use Rattle.common.specs.Matrix.{Vec}
use Rattle.common.specs.Array.{vector_of}
use Rattle.mark_candidates.specs.declared.table.Ranges.{Ranges}
use Rattle.mark_candidates.specs.declared.marks.Against.TheVariants.{Longer, NeverLonger, Open}
use Rattle.mark_candidates.specs.InnerProducts as inner
use Rattle.mark_candidates.specs.ScaledCoordinates.{position, candidates125}
use Rattle.mark_candidates.specs.MarkCandidates.{ranges_of, nearest, beaten, mark}
use Rattle.mark_candidates.specs.Code.Table.{Compared, compared_at}
use Rattle.mark_candidates.specs.Code.Marks.{longer, never_longer, verdict, against, mark_of}
use Rattle.mark_candidates.proofs.TableEntries.{nearest-test, beaten-test}

-- past the end of a table
abbrev pub nothing : Compared
nothing = record { widths = []; lowest = pos 0; highest = pos 0 }

-- ---- one turn of the walk
module _ (a o : Compared) where
  pub is-longer : Longer ≡ against a o → longer a o ≡ true
  unfolding against
  is-longer = by (longer a o) (never_longer a o)
    where
      by : (l n : Bool) → Longer ≡ verdict l n → l ≡ true
      by true n e = refl
      by false true e = cc
      by false false e = cc

  pub is-never-longer : NeverLonger ≡ against a o → (longer a o ≡ false) × (never_longer a o ≡ true)
  unfolding against
  is-never-longer = by (longer a o) (never_longer a o)
    where
      by : (l n : Bool) → NeverLonger ≡ verdict l n → (l ≡ false) × (n ≡ true)
      by true n e = (cc, cc)
      by false true e = (refl, refl)
      by false false e = (cc, cc)

  pub is-open : Open ≡ against a o → (longer a o ≡ false) × (never_longer a o ≡ false)
  unfolding against
  is-open = by (longer a o) (never_longer a o)
    where
      by : (l n : Bool) → Open ≡ verdict l n → (l ≡ false) × (n ≡ false)
      by true n e = (cc, cc)
      by false true e = (cc, cc)
      by false false e = (refl, refl)

-- the mark, as the walk ends
pub marked_by : (t : List Compared) (a : Compared) {b n : Bool} → some (longer a) t ≡ b → every (never_longer a) t ≡ n → cond b (pos 2) (cond n (pos 1) (pos 0)) ≡ mark_of t a
unfolding mark_of
marked_by t a e f = sym (ap₂ (λ b n. cond b (pos 2) (cond n (pos 1) (pos 0))) e f)

-- ---- the marks of all
module _ {A B : Type 0} (g : A → B) where
  pub map-on : {C : Type 0} (f : B → C) (h : A → C) → ((a : A) → f (g a) ≡ h a) → (l : List A) → map f (map g l) ≡ map h l
  map-on f h e [] = refl
  map-on f h e (a ∷ l) = ap₂ ◌∷◌ (e a) (map-on f h e l)

  every-on : (p : B → Bool) (q : A → Bool) → ((a : A) → p (g a) ≡ q a) → (l : List A) → every p (map g l) ≡ every q l
  every-on p q e [] = refl
  every-on p q e (a ∷ l) = ap₂ ◌&&◌ (e a) (every-on p q e l)

  some-on : (p : B → Bool) (q : A → Bool) → ((a : A) → p (g a) ≡ q a) → (l : List A) → some p (map g l) ≡ some q l
  some-on p q e [] = refl
  some-on p q e (a ∷ l) = ap₂ ◌||◌ (e a) (some-on p q e l)

module _ (s : List ℤ) (n : ℕ) (r : Ranges) (o : T (inner.ordered (ranges_of r.lowest r.highest))) where
  abbrev table : List Compared
  table = map (compared_at s n r) candidates125

  abbrev at : Vec ℤ → Vec ℤ
  at = position n (vector_of s)

  abbrev marking : Vec ℤ → ℤ
  marking = mark (ranges_of r.lowest r.highest) at candidates125

  mark-is : (m : Vec ℤ) → mark_of table (compared_at s n r m) ≡ marking m
  unfolding mark_of mark nearest beaten
  mark-is m =
      ap₂ (λ b n. cond b (pos 2) (cond n (pos 1) (pos 0)))
      (some-on (compared_at s n r) (longer (compared_at s n r m)) (λ p. inner.shorter (ranges_of r.lowest r.highest) (at p) (at m)) (λ p. beaten-test s n r o m p) candidates125)
      (every-on (compared_at s n r) (never_longer (compared_at s n r m)) (λ p. inner.never_longer (ranges_of r.lowest r.highest) (at m) (at p)) (λ p. nearest-test s n r o m p) candidates125)

  pub marks-are : map (mark_of table) table ≡ map marking candidates125
  marks-are = map-on (compared_at s n r) (mark_of table) marking mark-is candidates125
