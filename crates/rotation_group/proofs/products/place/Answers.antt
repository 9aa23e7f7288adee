use mathlib.Core.Path.{◌≡◌, sym, ◌∙◌, ap}
use mathlib.Core.Bool.{true}
use Prim.Native.Nat.{ℕ}
use native.Mathlib.Omega.{arith}
use borrow.Author.Rules.{rules}
use borrow.Author.Tests.{tests}
use Rattle.std.specs.Prelude.{⊤, Option, Some, None, MatchOption, IfSome}
use Rattle.std.proofs.lemmas.Iterator.{first_from_Range}
use Rattle.integer.proofs.Test.{holds}
use Rattle.common.specs.Array.{matrix_at}
use Rattle.recip_rotations.specs.Unique.{same_matrix}
use Rattle.recip_rotations.proofs.Same.{matrix-eq}
use Rattle.rotation_group.proofs.products.place.Goals as goal

weaker : (o : Option ℕ) (P : Type 0) {Q R : ℕ → Type 0} → MatchOption o P Q → ((k : ℕ) → Q k → R k) → IfSome o R
weaker (Some k) P h f = f k h
weaker None P h f = tt

pub returns : goal.returns
returns c =
    let l = c.args.rotations.list.now in
    let p = matrix_at c.product-p.result 0 in
    let h = first_from_Range _ _ _ _ (λ k. same_matrix p (matrix_at l k) ≡ true) (λ _. ⊤) c.find.ensures.ran (λ x q k. search (rules, tests)) (λ x q k. search (rules, tests)) in
    weaker c.find.result _ h (λ k w. (omega (arith, w.1, c.count.ensures), sym (ap (λ p. matrix_at p 0) c.product-p.ensures) ∙ matrix-eq p (matrix_at l k) (holds w.2)))
