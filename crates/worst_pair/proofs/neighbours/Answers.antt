use Rattle.std.proofs.Common.{◌≡◌, ℕ, suc, ◌+◌, ◌-◌, ◌≤◌, ◌∙◌, subst, rules, arith}
use Rattle.worst_pair.proofs.Worst.{Row, row-begun, row_next, row-worst}
use Rattle.worst_pair.proofs.neighbours.Goals as goal

-- n counts from 1
later : (n : ℕ) → 1 ≤ n → suc (n - 1) ≡ n + 1 - 1
later n h = omega arith

begun : (n : ℕ) → 1 ≤ n → n ≡ suc (n - 1)
begun n h = omega arith

pub loop-a-init : goal.loop-a-init
loop-a-init c = (search rules, search rules, search rules, search rules, search rules, row-begun)

pub loop-a-preserved : goal.loop-a-preserved
loop-a-preserved c =
    let l = c.loop-a in (
      search rules,
      search rules,
      search rules,
      search rules,
      search rules,
      subst (λ (k : ℕ). Row k l.b (l.a + l.b)) (later l.steps l.invariant.3) (row_next l.invariant.5),
    )

pub returns : goal.returns
returns c =
    let l = c.loop-a in
    let w = row-worst l.invariant.5 l.invariant.2 (search rules) (search rules) in
    (w.0, begun l.steps l.invariant.3 ∙ w.1)
