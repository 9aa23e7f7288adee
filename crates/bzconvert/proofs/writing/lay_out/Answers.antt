use Rattle.std.proofs.Common.{◌≡◌, length, ◌*◌, refl, sym, ◌∙◌, rules}
use Rattle.std.specs.Prelude.{None}
use Rattle.grgrid.specs.Sides.{sides}
use Rattle.bzgrid.specs.Code.Writing.{if_sparse}
use Rattle.bzgrid.specs.Code.Walked.{blank, WrittenTo, lengths_for, judged}
use Rattle.bzgrid.proofs.Outcome.{judged-is, filled-is}
use Rattle.bzconvert.specs.Code.Lists.{images_held}
use Rattle.bzconvert.proofs.writing.lay_out.Goals as goal
use Rattle.bzconvert.proofs.writing.lay_out.Goals.{After-finish}

-- the lengths of the outputs are as they were
told : (c : After-finish) → let a = c.args in
    c.finish.result
    ≡ judged None (lengths_for c.is_sparse-sparse.result c.points-n.result c.write_lists-m.result) (length a.addresses.now) (length a.map.now) (length a.grg.now)
told c =
    let a = c.args in
    let n = c.write_lists-m.new in
    let x : length n.addresses ≡ length a.addresses.now = search rules in
    let y : length n.map ≡ length a.map.now = search rules in
    let z : length n.grg ≡ length a.grg.now = search rules in
    c.finish.ensures.value ∙ (λ i. judged None (lengths_for c.is_sparse-sparse.result (sym c.points-n.ensures i) c.write_lists-m.result) (x i) (y i) (z i))

-- the outputs held -1 alone
written : (c : After-finish) → let a = c.args in
    let n = c.write_lists-m.new in
    let sparse = c.is_sparse-sparse.result in
    let k = c.points-n.result in
    WrittenTo sparse (images_held a.table.now) k (if_sparse sparse (8 * k))
    (blank (length a.addresses.now)) (blank (length a.map.now)) (blank (length a.grg.now)) n.addresses n.map n.grg
written c =
    let w = c.wipe.ensures in
    let h = c.write_lists-m.ensures.written_to in
    rw (w.addresses_after, w.map_after, w.grg_after, c.if_sparse.ensures.value) at h

pub returns-clause-value : goal.returns-clause-value
returns-clause-value c =
    let a = c.args in
    told (goal.at.returns-clause-value c).After-finish
    ∙ judged-is a.t (sides a.table.now.g) (images_held a.table.now) (length a.addresses.now) (length a.map.now) (length a.grg.now)
    c.is_sparse-sparse.ensures c.points-n.ensures c.requires.some c.write_lists-m.ensures.value None

pub returns-clause-filled : goal.returns-clause-filled
returns-clause-filled c =
    let a = c.args in
    let p = (goal.at.returns-clause-filled c).After-finish in
    filled-is a.t (sides a.table.now.g) (images_held a.table.now) (length a.addresses.now) (length a.map.now) (length a.grg.now)
    c.is_sparse-sparse.ensures c.points-n.ensures c.requires.some c.write_lists-m.ensures.value None
    c.finish.new.map (written p) refl c.finish.result (told p) c.finish.ensures.map_after
