use borrow.Author.Rules.{rules}
use Rattle.zone.proofs.ChainWhole.{passed-tests, chain-wiped}
use Rattle.zone.proofs.Outcomes.{had}
use Rattle.zone.proofs.ChainFinished.{chain-finished-list}
use Rattle.zone.proofs.finished_list.Goals as goal

pub returns-then-is_err-clause-value : goal.returns-then-is_err-clause-value
returns-then-is_err-clause-value c =
    let e = c.run_chain-f.ensures.value in
    chain-wiped _ _ e (search rules) (search rules) (search rules) (search rules) (search rules)

pub returns-else-is_err-clause-value : goal.returns-else-is_err-clause-value
returns-else-is_err-clause-value c =
    let l = c.run_chain-f.ensures.tables in
    had c.run_chain-f.result (search rules) l

pub returns-else-is_err-clause-finished_chain : goal.returns-else-is_err-clause-finished_chain
returns-else-is_err-clause-finished_chain c =
    let e = c.run_chain-f.ensures.value in
    chain-finished-list _ _ (passed-tests _ _ e (search rules)) (returns-else-is_err-clause-value c)
