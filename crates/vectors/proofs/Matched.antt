-- What is left of a line that is compared; and what a verdict says of the line.
use Rattle.std.proofs.Common.{◌≡◌, refl, sym, ◌∙◌, ap, Bool, true, false, List, [], ◌∷◌, ◌++◌, ℕ, length, ℤ, pos, Option, Some, None, option_map, cond, Bor, MatchOption, ◌≢◌}
use Rattle.std.specs.Ordering.{int_eq}
use Rattle.std.proofs.lemmas.Bool.Decides.{Decides-int_eq}
use mathlib.Core.List.{append-nil}
use native.Mathlib.Omega.{arith}
use Rattle.vectors.specs.Words.{listed}
use Rattle.vectors.specs.Matched.{after, matched, matched_output, verdict_of}
use Rattle.vectors.specs.declared.Verdict.TheVariants.{Same}

-- the line begins with the numbers
pub after-sound : (w n r : List ℤ) → after w n ≡ Some r → n ≡ w ++ r
after-sound [] n r e = cc
after-sound (x ∷ w) [] r e = absurd (let z : ◌≡◌ {A = ℕ} 0 1 = cc in omega arith)
after-sound (x ∷ w) (y ∷ n) r e = go (int_eq x y) refl e (after-sound w n r)
  where
    go : (t : Bool) → int_eq x y ≡ t → cond t (after w n) None ≡ Some r → (after w n ≡ Some r → n ≡ w ++ r) → y ∷ n ≡ x ∷ (w ++ r)
    go true t p h = ap (λ z. z ∷ n) (sym ((Decides-int_eq x y).0 t)) ∙ ap (λ l. x ∷ l) (h p)
    go false t p h = absurd (let z : ◌≡◌ {A = ℕ} 0 1 = cc in omega arith)

pub after-found : (w r : List ℤ) → after w (w ++ r) ≡ Some r
after-found [] r = refl
after-found (x ∷ w) r = ap (λ t. cond t (after w (w ++ r)) None) ((Decides-int_eq x x).1 refl) ∙ after-found w r

pub after-stripped : (w n : List ℤ) (s : Option (Bor (List ℤ))) → MatchOption s ((r : List ℤ) → n ≢ w ++ r) (λ x. n ≡ w ++ x.now) → option_map (λ (l : Bor (List ℤ)). l.now) s ≡ after w n
after-stripped w n (Some x) e = sym (ap (after w) e ∙ after-found w x.now)
after-stripped w n None e = go (after w n) refl
  where
    go : (o : Option (List ℤ)) → after w n ≡ o → None ≡ after w n
    go None p = sym p
    go (Some r) p = absurd (e r (after-sound w n r p))

-- ---- what a verdict says of the line: where a call's numbers were found, the line has them, and it ends with them
pub record Stands (c : Option (List ℤ)) (w r : List ℤ) : Type 0 where
  pub line : List ℤ
  pub began : c ≡ Some line
  pub there : line ≡ w ++ r

pub stands : (c : Option (List ℤ)) (w r : List ℤ) → matched c w ≡ Some r → Stands c w r
stands None w r e = absurd (let z : ◌≡◌ {A = ℕ} 0 1 = cc in omega arith)
stands (Some n) w r e = record { line = n; began = refl; there = after-sound w n r e }

pub verdict-same : (c : Option (List ℤ)) → verdict_of c ≡ Same → c ≡ Some []
verdict-same None e = absurd (let z : ◌≡◌ {A = ℕ} 0 1 = cc in omega arith)
verdict-same (Some []) e = refl
verdict-same (Some (x ∷ n)) e = absurd (let z : ◌≡◌ {A = ℕ} 0 1 = cc in omega arith)

-- a call with one output
pub same_line : (a : ℤ) (out told n : List ℤ) → verdict_of (matched (matched_output (matched (Some n) (a ∷ [])) out) told) ≡ Same → n ≡ a ∷ pos (length out) ∷ (listed out ++ told)
same_line a out told n e =
    let c1 = matched (Some n) (a ∷ []) in
    let c2 = matched c1 (pos (length out) ∷ []) in
    let s4 = stands (matched c2 (listed out)) told [] (verdict-same (matched (matched c2 (listed out)) told) e) in
    let s3 = stands c2 (listed out) s4.line s4.began in
    let s2 = stands c1 (pos (length out) ∷ []) s3.line s3.began in
    let s1 = after-sound (a ∷ []) n s2.line s2.began in
    s1
    ∙ ap (λ l. a ∷ l) (s2.there ∙ ap (λ l. pos (length out) ∷ l) (s3.there ∙ ap (λ l. listed out ++ l) (s4.there ∙ append-nil told)))
