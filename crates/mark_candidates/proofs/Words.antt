-- A mark says the words of document 02: 1 exactly if the candidate is nearest for certain, 2 exactly if it is beaten for certain, else 0; and in narrower
-- ranges a certain mark stays.
use mathlib.Core.Path.{◌≡◌, refl, sym, ◌∙◌, ap, subst}
use mathlib.Core.Logic.{◌⊎◌, inl, inr, ⊎_elim}
use mathlib.Core.Bool.{Bool, true, false, cond}
use mathlib.Core.List.{List}
use lib.Dec.{T, not_T}
use lib.IntN.{ℤ, pos}
use lib.Signed.{≤ℤ_refl, <ℤ_irrefl, clash_ℤ}
use Rattle.integer.specs.Same.{same}
use Rattle.integer.proofs.Same.{same-eq, same_refl}
use Rattle.integer.proofs.Test.{holds, is_true, is_false}
use Rattle.common.specs.Matrix.{Vec, side, same_vector}
use Rattle.common.proofs.Matrix.{axes-of, all-axes, same-vector}
use Rattle.common.proofs.Same.{same-itself, same-vectors}
use Rattle.common.proofs.Every.{every_of, of-every, some_of, of_some}
use Rattle.mark_candidates.specs.InnerProducts.{Ranges, ordered, NeverLonger, Shorter, Narrower, corner, never_longer, shorter}
use Rattle.mark_candidates.specs.MarkCandidates.{NearestForCertain, BeatenForCertain, nearest, beaten, mark}
use Rattle.mark_candidates.proofs.CornerTest.{never-longer, is-shorter, longer-test, shorter-test, corner-in, narrower-never-longer, narrower-shorter}

-- ---- two vectors are equal or not
equal_or_not : (v w : Vec ℤ) → (v ≡ w) ⊎ (¬ (v ≡ w))
equal_or_not v w = go (same_vector v w) refl
  where
    go : (t : Bool) → same_vector v w ≡ t → (v ≡ w) ⊎ (¬ (v ≡ w))
    go true e = inl (same-vectors v w (holds e))
    go false e = inr (λ p. subst T (ap (λ u. same_vector v u) p ∙ e) (holds (same-itself v)))

module _ (r : Ranges) (at : Vec ℤ → Vec ℤ) (ms : List (Vec ℤ)) (m : Vec ℤ) (t : T (ordered r)) where
  -- ---- the tests and the words
  pub nearest-says : T (nearest r at ms m) → NearestForCertain r at ms m
  unfolding nearest
  nearest-says h = record { against = λ o p n. never-longer r (at m) (at o) (every_of (λ o. never_longer r (at m) (at o)) ms h o p) }

  pub says-nearest : NearestForCertain r at ms m → T (nearest r at ms m)
  unfolding nearest
  says-nearest h = of-every (λ o. never_longer r (at m) (at o)) ms (λ o p. longer-test r (at m) (at o) t (⊎_elim (itself o) (h.against o p) (equal_or_not o m)))
    where
      itself : (o : Vec ℤ) → o ≡ m → NeverLonger r (at m) (at o)
      itself o e = record { always = λ n g i. rw e (≤ℤ_refl _) }

  pub beaten-says : T (beaten r at ms m) → BeatenForCertain r at ms m
  unfolding beaten
  beaten-says h =
      let s = some_of (λ o. shorter r (at o) (at m)) ms h in
      let a = is-shorter r (at s.0) (at m) s.2 in
      record { by = s.0; among = s.1; other = λ e. never s.0 e a; always = a }
    where
      never : (o : Vec ℤ) → o ≡ m → Shorter r (at o) (at m) → ⊥
      never o e a = <ℤ_irrefl (rw e at (a.always 1 (corner r (at m) (at m)) (corner-in r (at m) (at m) t)))

  pub says-beaten : BeatenForCertain r at ms m → T (beaten r at ms m)
  unfolding beaten
  says-beaten h = of_some (λ o. shorter r (at o) (at m)) ms h.by h.among (shorter-test r (at h.by) (at m) t h.always)

  -- not both
  pub nearest-or-beaten : NearestForCertain r at ms m → BeatenForCertain r at ms m → ⊥
  nearest-or-beaten n b =
      let i = corner-in r (at m) (at m) t in
      clash_ℤ (b.always.always 1 (corner r (at m) (at m)) i) ((n.against b.by b.among b.other).always 1 (corner r (at m) (at m)) i)

  -- ---- the mark
  abbrev marked : Bool → Bool → ℤ
  marked b n = cond b (pos 2) (cond n (pos 1) (pos 0))

  pub mark-nearest : mark r at ms m ≡ pos 1 → NearestForCertain r at ms m
  unfolding mark
  mark-nearest e = nearest-says (only (beaten r at ms m) (nearest r at ms m) e)
    where
      only : (b n : Bool) → marked b n ≡ pos 1 → T n
      only true n e = absurd (subst (λ z. T (same z (pos 1))) (sym e) tt)
      only false true e = tt
      only false false e = absurd (subst (λ z. T (same z (pos 1))) (sym e) tt)

  pub mark-beaten : mark r at ms m ≡ pos 2 → BeatenForCertain r at ms m
  unfolding mark
  mark-beaten e = beaten-says (only (beaten r at ms m) (nearest r at ms m) e)
    where
      only : (b n : Bool) → marked b n ≡ pos 2 → T b
      only true n e = tt
      only false true e = absurd (subst (λ z. T (same z (pos 2))) (sym e) tt)
      only false false e = absurd (subst (λ z. T (same z (pos 2))) (sym e) tt)

  pub beaten-mark : BeatenForCertain r at ms m → mark r at ms m ≡ pos 2
  unfolding mark
  beaten-mark h = ap (λ b. marked b (nearest r at ms m)) (is_true (beaten r at ms m) (says-beaten h))

  not-beaten : ¬ BeatenForCertain r at ms m → beaten r at ms m ≡ false
  not-beaten h = is_false (beaten r at ms m) (not_T (beaten r at ms m) (λ b. h (beaten-says b)))

  pub nearest-mark : NearestForCertain r at ms m → mark r at ms m ≡ pos 1
  unfolding mark
  nearest-mark h =
      ap (λ b. marked b (nearest r at ms m)) (not-beaten (nearest-or-beaten h)) ∙ ap (λ n. cond n (pos 1) (pos 0)) (is_true (nearest r at ms m) (says-nearest h))

  pub mark-open : mark r at ms m ≡ pos 0 → (¬ NearestForCertain r at ms m) × (¬ BeatenForCertain r at ms m)
  mark-open e =
      (λ h. subst (λ z. T (same z (pos 1))) (sym (nearest-mark h) ∙ e) tt, λ h. subst (λ z. T (same z (pos 2))) (sym (beaten-mark h) ∙ e) tt)

  pub open-mark : ¬ NearestForCertain r at ms m → ¬ BeatenForCertain r at ms m → mark r at ms m ≡ pos 0
  unfolding mark
  open-mark f g =
      ap (λ b. marked b (nearest r at ms m)) (not-beaten g)
      ∙ ap (λ n. cond n (pos 1) (pos 0)) (is_false (nearest r at ms m) (not_T (nearest r at ms m) (λ n. f (nearest-says n))))

-- ---- narrower ranges
module _ {r s : Ranges} (h : Narrower r s) (t : T (ordered r)) (u : T (ordered s)) (at : Vec ℤ → Vec ℤ) (ms : List (Vec ℤ)) (m : Vec ℤ) where
  pub narrower-1 : mark s at ms m ≡ pos 1 → mark r at ms m ≡ pos 1
  narrower-1 e =
      let w = mark-nearest s at ms m u e in
      nearest-mark r at ms m t (record { against = λ o p n. narrower-never-longer h (w.against o p n) })

  pub narrower-2 : mark s at ms m ≡ pos 2 → mark r at ms m ≡ pos 2
  narrower-2 e =
      let w = mark-beaten s at ms m u e in
      beaten-mark r at ms m t (record { by = w.by; among = w.among; other = w.other; always = narrower-shorter h w.always })
