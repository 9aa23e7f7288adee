use mathlib.Core.Path.{◌≡◌, ◌∙◌, ap}
use mathlib.Core.List.{[], ◌∷◌}
use Prim.Native.Nat.{◌≤◌, ◌<◌}
use lib.IntN.{ℤ, nat_abs, ◌+ℤ◌}
use lib.Signed.{mag}
use Rattle.integer.proofs.Fits.{held, held-is}
use Rattle.integer.proofs.Plain.{plain, p_atom, plain-within}
use Rattle.common.proofs.Bounds.{entry-held}
use Rattle.common.proofs.Sized.{sized-items}
use Rattle.mark_candidates.specs.Code.Numbered.{candidate_at}
use Rattle.mark_candidates.proofs.candidates.position.Goals as goal

-- what a call returned
told : (k : ℤ) (r : ℤ) {y z : ℤ} → mag r < 0x8000000000000000 → r ≡ y +ℤ k → y ≡ z → held r ≡ z +ℤ k
told k r ok e f = held-is r ok ∙ e ∙ ap (λ y. y +ℤ k) f

small : (r : ℤ) → nat_abs r ≤ 327680 → nat_abs (held r) ≤ 327680
small r h = plain-within {v = held r} (search (plain, p_atom)) tt

pub invariant_of-result : goal.invariant_of-result
invariant_of-result c =
    let a = c.moved_by in
    let b = c.moved_by-2 in
    let d = c.moved_by-3 in
    record { sized = sized-items (record { x = held a.result; y = held b.result; z = held d.result }) (small a.result a.ensures.result_bound) (small b.result b.ensures.result_bound) (small d.result d.ensures.result_bound) }

pub returns : goal.returns
unfolding candidate_at
returns c =
    let s = c.args.r.s.sized in
    let a = c.moved_by in
    let b = c.moved_by-2 in
    let d = c.moved_by-3 in
    let x = told _ a.result a.type_inv a.ensures.value (entry-held s 0 tt) in
    let y = told _ b.result b.type_inv b.ensures.value (entry-held s 1 tt) in
    let z = told _ d.result d.type_inv d.ensures.value (entry-held s 2 tt) in
    λ i. x i ∷ y i ∷ z i ∷ []
