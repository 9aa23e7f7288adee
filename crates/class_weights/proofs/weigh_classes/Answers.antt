use mathlib.Core.Path.{◌≡◌, sym, ◌∙◌, ap, subst}
use mathlib.Core.List.{List}
use Prim.Native.Nat.{ℕ}
use lib.IntN.{ℤ}
use lib.ListN.{length}
use Rattle.common.specs.Array.{vector_of, matrices}
use Rattle.grgrid.specs.Sides.{sides}
use Rattle.grgrid.specs.ClassMap.{Numbered}
use Rattle.grgrid.proofs.Numbers.{numbered}
use Rattle.class_weights.specs.Code.Links.{Linked}
use Rattle.class_weights.proofs.LinkedClasses.{call_length, call-chains, call-count, call-weights, call-members}
use Rattle.class_weights.proofs.weigh_classes.Goals as goal

full : {l : List ℤ} {n : ℕ} → length l ≡ n → Numbered n l → Numbered (length l) l
full {l} e k = subst (λ n. Numbered n l) (sym e) k

pub link_points-requires-clause-fact_1 : goal.link_points-requires-clause-fact_1
link_points-requires-clause-fact_1 c =
    let s = c.args in
    let d = sides s.g in
    let ps = vector_of s.ps.v in
    let ms = matrices s.rotations.list.now in
    let w = c.number_points.ensures in
    full (ap length w ∙ call_length d ps ms) (numbered d ps ms w)

pub list_classes-requires-clause-fact_1 : goal.list_classes-requires-clause-fact_1
list_classes-requires-clause-fact_1 c =
    let s = c.args in
    call-chains (sides s.g) (vector_of s.ps.v) (matrices s.rotations.list.now) _ (subst (λ l. Linked l c.link_points.new.numbers) c.number_points.ensures c.link_points.ensures)

pub returns : goal.returns
returns c =
    let s = c.args in
    let d = sides s.g in
    let ps = vector_of s.ps.v in
    let ms = matrices s.rotations.list.now in
    let f = c.list_classes.ensures in
    let k = subst (λ l. Linked l c.link_points.new.numbers) c.number_points.ensures c.link_points.ensures in
    record {
      many = f.many ∙ call-count d ps ms _ k;
      weights-are = f.weights-are ∙ call-weights d ps ms _ k;
      members-are = f.members-are ∙ call-members d ps ms _ k;
    }
