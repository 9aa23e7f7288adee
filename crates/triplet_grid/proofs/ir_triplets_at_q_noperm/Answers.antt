use mathlib.Core.Path.{◌≡◌, refl, ◌∙◌, ap}
use mathlib.Core.List.{List, map-id}
use Prim.Native.Nat.{ℕ}
use native.Mathlib.Nat.{le_antisymm}
use lib.IntN.{ℤ, pos}
use lib.ListN.{length, get_or}
use borrow.Author.Rules.{rules}
use Rattle.integer.proofs.Fits.{held-is}
use Rattle.grgrid.proofs.Built.{build-list, written, written-more, written-end}
use Rattle.triplet_grid.proofs.ir_triplets_at_q_noperm.Goals as goal

pub loop-q1-preserved : goal.loop-q1-preserved
loop-q1-preserved c =
    let s = c.args in
    let l = c.loop-q1 in
    written-more (λ p done. get_or s.map_q.now p (pos 0)) (λ z. z) l.q1 s.map_triplets.now l.invariant (search rules) (held-is _ (search rules))

pub returns : goal.returns
returns c =
    let s = c.args in
    let l = c.loop-q1 in
    let n = length s.map_triplets.now in
    let f : ℕ → List ℤ → ℤ = λ p done. get_or s.map_q.now p (pos 0) in
    let e : l.q1 ≡ n = le_antisymm l.auto.q1-end c.loop-q1-test.false ∙ c.requires in
    l.invariant ∙ ap (λ i. written f (λ z. z) i s.map_triplets.now) e ∙ written-end f (λ z. z) n s.map_triplets.now refl
    ∙ map-id _ ∙ build-list s.map_q.now (pos 0) n c.requires
