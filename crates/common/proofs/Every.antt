-- A test of every member, or of some member, says so.
use mathlib.Core.Path.{refl, sym, subst}
use mathlib.Core.Logic.{⊎_elim}
use mathlib.Core.Bool.{Bool}
use mathlib.Core.List.Memᴰ.{cases_cons as cases}
use mathlib.Core.List.Memᴰ.{head as here}
use mathlib.Core.List.Memᴰ.{not-nil}
use mathlib.Core.List.Memᴰ.{tail as there}
use mathlib.Core.List.{List, [], ◌∷◌, Memᴰ as Mem}
use lib.Dec.{T}
use Rattle.integer.proofs.Test.{and_l, and_r, and_in, or_l, or_r, or-of}
use Rattle.common.specs.Every.{every, some}

module _ {A : Type 0} (p : A → Bool) where
  pub every_of : (l : List A) → T (every p l) → (a : A) → Mem a l → T (p a)
  every_of [] t a k = absurd (not-nil k)
  every_of (b ∷ l) t a k = ⊎_elim (λ e. subst (λ x. T (p x)) (sym e) (and_l (p b) (every p l) t)) (every_of l (and_r (p b) (every p l) t) a) (cases k)

  pub of-every : (l : List A) → ((a : A) → Mem a l → T (p a)) → T (every p l)
  of-every [] h = tt
  of-every (b ∷ l) h = and_in (p b) (every p l) (h b (here refl)) (of-every l (λ a k. h a (there k)))

  pub some_of : (l : List A) → T (some p l) → (a : A) × Mem a l × T (p a)
  some_of [] t = absurd t
  some_of (b ∷ l) t = ⊎_elim (λ h. (b, here refl, h)) (λ h. let s = some_of l h in (s.0, there s.1, s.2)) (or-of (p b) (some p l) t)

  pub of_some : (l : List A) (a : A) → Mem a l → T (p a) → T (some p l)
  of_some [] a k t = absurd (not-nil k)
  of_some (b ∷ l) a k t = ⊎_elim (λ e. or_l (p b) (some p l) (subst (λ x. T (p x)) e t)) (λ k. or_r (p b) (some p l) (of_some l a k t)) (cases k)
