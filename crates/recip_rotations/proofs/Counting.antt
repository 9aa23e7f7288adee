-- What the loop that collects the distinct rotations leaves.
use mathlib.Core.Path.{◌≡◌, refl, sym, ◌∙◌, ap, ap₂, subst}
use mathlib.Core.Bool.{Bool, true, false}
use mathlib.Core.List.{List, ◌∷◌, []}
use Prim.Native.Nat.{ℕ, ◌+◌, ◌*◌, ◌/◌, ◌<◌, ◌≤◌}
use native.Mathlib.Omega.{arith}
use lib.Dec.{leb}
use lib.IntN.{ℤ}
use lib.ListN.{length, length-append, drop}
use lib.Seq.{paste}
use borrow.Author.Tests.{le-leb, lt-leb, leb-true, leb-false}
use Rattle.std.specs.Prelude.{Result, Ok, Err}
use Rattle.common.specs.declared.Refusal.{Refusal}
use Rattle.common.specs.declared.Refusal.TheVariants.{TooManyRotations}
use Rattle.common.specs.Tested.{require, Accepted}
use Rattle.common.specs.Matrix.{Mat}
use Rattle.common.specs.Array.{matrix_at, matrices_from, matrices}
use Rattle.common.proofs.Reading.{read-flat, length_from}
use Rattle.common.proofs.Tests.{passed}
use Rattle.recip_rotations.specs.Unique.{among, with_new, unique}
use Rattle.recip_rotations.specs.Flat.{laid}
use Rattle.recip_rotations.specs.Code.Steps.{few, Grouped}
use Rattle.recip_rotations.proofs.Answered.{was-accepted, was-refused}
use Rattle.recip_rotations.proofs.Blocks.{laid-over, laid-self, laid-copy}
use Rattle.recip_rotations.proofs.Distinct.{kept_there, kept_new, unique-more, unique-longer}
use Rattle.recip_rotations.proofs.Outcomes.{accepted, refused}

-- ---- whether a list has room
few-accepted : (l : List (Mat ℤ)) → length l ≤ 48 → few l ≡ Accepted
few-accepted l h = ap (λ b. require b TooManyRotations Accepted) (le-leb (length l) 48 h)

few-full : (l : List (Mat ℤ)) → 48 < length l → few l ≡ Err TooManyRotations
few-full l h = ap (λ b. require b TooManyRotations Accepted) (lt-leb (length l) 48 h)

full-longer : (l k : List (Mat ℤ)) {r : Refusal} → length l ≤ length k → few l ≡ Err r → few k ≡ Err r
full-longer l k {r} h e = let f = failed (leb (length l) 48) e in few-full k (omega (arith, leb-false (length l) 48 f.0)) ∙ f.1
  where
    failed : (b : Bool) → require b TooManyRotations Accepted ≡ Err r → (b ≡ false) × ◌≡◌ {A = Result Unit Refusal} (Err TooManyRotations) (Err r)
    failed true e = cc
    failed false e = (refl, e)

-- what an accepted count says
pub counted : {l : List (Mat ℤ)} {d out : List ℤ} {n : ℕ} → Grouped (few l) l d out (Ok n) → (n ≡ length l) × (n ≤ 48) × (out ≡ laid l d)
counted {l} {d} {out} {n} c =
    let a = was-accepted (few l) (length l) n c.answer in
    let e : n ≡ length l = cc in
    (e, omega (arith, leb-true (length l) 48 (passed (leb (length l) 48) TooManyRotations Accepted a).0), c.held a)

-- ---- one rotation, by the branches of `keep`
module _ (out : List ℤ) (f : ℕ) (s : List ℤ) (n : ℕ) (h : f ≤ 48) (g : length out ≡ 432) where
  abbrev before : List (Mat ℤ)
  before = matrices_from out 0 f

  abbrev then : List (Mat ℤ)
  then = with_new before (matrix_at s n)

  pub keep-there : among (matrix_at s n) before ≡ true → Grouped (few then) then out out (Ok f)
  keep-there e =
      let k = kept_there before (matrix_at s n) e in
      let c : f ≡ length then = sym (length_from out 0 f) ∙ ap length k in
      accepted (few-accepted then (omega arith)) c (laid-self out f (omega arith) ∙ ap (λ l. laid l out) k)

  module _ (e : among (matrix_at s n) before ≡ false) where
    longer : f + 1 ≡ length then
    longer = sym (length-append before (matrix_at s n ∷ []) ∙ ap (λ k. k + 1) (length_from out 0 f)) ∙ ap length (kept_new before (matrix_at s n) e)

    pub keep-full : f ≡ 48 → (after : List ℤ) → Grouped (few then) then out after (Err TooManyRotations)
    keep-full k after = refused (few-full then (omega (arith, longer)))

    pub keep-new : {after : List ℤ} → n * 9 + 9 ≤ length s → (f ≡ 48 → ⊥) → after ≡ paste out (f * 9) (drop (n * 9) s) 9 → Grouped (few then) then out after (Ok (f + 1))
    keep-new k j p = accepted (few-accepted then (omega (arith, longer))) longer (p ∙ laid-copy out f (omega arith) s n k ∙ ap (λ l. laid l out) (kept_new before (matrix_at s n) e))

-- ---- all of them
module _ (s : List ℤ) (d : List ℤ) where
  abbrev first : ℕ → List (Mat ℤ)
  first n = unique (matrices_from s 0 n)

  -- the first n, with out as they leave it, and one more
  pub counted-more : (n f : ℕ) {out after : List ℤ} {r : Result ℕ Refusal} → f ≡ length (first n) → out ≡ laid (first n) d
      → Grouped (few (with_new (matrices_from out 0 f) (matrix_at s n))) (with_new (matrices_from out 0 f) (matrix_at s n)) out after r
      → Grouped (few (first (n + 1))) (first (n + 1)) d after r
  counted-more n f {out} {after} {r} p q c =
      let e : with_new (matrices_from out 0 f) (matrix_at s n) ≡ first (n + 1) = ap (λ l. with_new l (matrix_at s n)) (ap₂ (λ l k. matrices_from l 0 k) q p ∙ read-flat (first n) _) ∙ sym (unique-more s n) in
      let c = subst (λ l. Grouped (few l) l out after r) e c in
      record {
        answer = c.answer;
        held = λ a. c.held a ∙ ap (laid (first (n + 1))) q ∙ laid-over (first (n + 1)) (first n) d (unique-longer s n (n + 1) (omega arith));
      }

  pub counted-over : (n : ℕ) {after after' : List ℤ} {r : Refusal} → n ≤ length s / 9 → Grouped (few (first n)) (first n) d after (Err r) → Grouped (few (unique (matrices s))) (unique (matrices s)) d after' (Err r)
  counted-over n h c = refused (full-longer (first n) (unique (matrices s)) (unique-longer s n (length s / 9) h) (was-refused (few (first n)) (length (first n)) c.answer))
