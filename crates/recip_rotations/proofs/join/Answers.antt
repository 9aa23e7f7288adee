use mathlib.Core.Path.{sym, ◌∙◌, ap, ap₂}
use mathlib.Core.Bool.{not, ◌&&◌}
use borrow.Author.Rules.{rules}
use Rattle.common.specs.Array.{matrices_from}
use Rattle.recip_rotations.specs.PointGroup.{joins}
use Rattle.recip_rotations.proofs.Joining.{join-none, join-full, join-all}
use Rattle.recip_rotations.proofs.join.Goals as goal

pub returns-then-not-is_time_reversal : goal.returns-then-not-is_time_reversal
returns-then-not-is_time_reversal c =
    let a = c.args in
    join-none a.out.now a.count a.is_time_reversal (search rules) (ap (λ t. joins t (matrices_from a.out.now 0 a.count)) c.if-not-is_time_reversal.true)

pub returns-then-contains : goal.returns-then-contains
returns-then-contains c =
    let a = c.args in
    join-none a.out.now a.count a.is_time_reversal (search rules) (ap₂ (λ t b. t && not b) c.if-not-is_time_reversal.false (sym c.contains.ensures ∙ c.if-contains.true))

pub returns-then-count-gt24 : goal.returns-then-count-gt24
returns-then-count-gt24 c =
    let a = c.args in
    join-full a.out.now a.count a.is_time_reversal (search rules) (ap₂ (λ t b. t && not b) c.if-not-is_time_reversal.false (sym c.contains.ensures ∙ c.if-contains.false)) (search rules)

pub returns : goal.returns
returns c =
    let a = c.args in
    join-all a.out.now a.count a.is_time_reversal (search rules) (ap₂ (λ t b. t && not b) c.if-not-is_time_reversal.false (sym c.contains.ensures ∙ c.if-contains.false)) (search rules) c.negatives.ensures
