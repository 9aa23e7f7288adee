use mathlib.Core.Path.{◌≡◌, sym, ◌∙◌, ap}
use lib.IntN.{pos}
use lib.ListN.{length}
use mir.Syntax.{w64}
use mir.Facts.{to_z_pos}
use borrow.Author.Rules.{rules}
use Rattle.std.specs.Prelude.{Err}
use Rattle.zone_steps.specs.StepsView.{rooms}
use Rattle.integer.proofs.Fits.{held-is}
use Rattle.zone.specs.ChainView.{asked}
use Rattle.zone.proofs.ChainWhole.{rooms-agreed, rooms-refused, diagonal-refused, grid-refused, chain-given}
use Rattle.zone.proofs.run_chain.Goals as goal

pub returns-then-not-rooms_agree-clause-value : goal.returns-then-not-rooms_agree-clause-value
returns-then-not-rooms_agree-clause-value c = rooms-refused _ _ (search rules)

pub list_in_basis-requires : goal.list_in_basis-requires
list_in_basis-requires c =
    let a = c.args in
    rooms-agreed
    (rooms (length a.addresses.now) (length a.map.now) (length a.grg.now) (length a.classes.now) (length a.points.now) (length a.triplets.now) (length a.left.now) (length a.lengths.now) (length a.cells.now))
    (sym c.rooms_agree.ensures ∙ c.if-not-rooms_agree.false)

pub returns-in_err-s-clause-value : goal.returns-in_err-s-clause-value
returns-in_err-s-clause-value c =
    let e : c.from_residual.result ≡ Err c.in_err-s.field-0.0 = search rules in
    e ∙ diagonal-refused _ _ (search rules) c.snf3x3.ensures.value c.in_err-s.was

pub returns-in_err-list_in_basis-clause-value : goal.returns-in_err-list_in_basis-clause-value
returns-in_err-list_in_basis-clause-value c =
    let e : c.from_residual-in_err-list_in_basis.result ≡ Err c.in_err-list_in_basis.field-0.0 = search rules in
    e
    ∙ grid-refused (asked c.args.job.now) _ (search rules) c.snf3x3.ensures.value c.in_ok-s.was c.nested.ensures (held-is c.args.job.now.bz_grid_type (search rules)) (held-is c.args.job.now.q0 (search rules))
    c.list_in_basis.ensures.value c.in_err-list_in_basis.was

pub returns : goal.returns
returns c =
    let l = c.list_in_basis.ensures in
    let n = c.own_places-num_ir in
    let o = chain-given (asked c.args.job.now) _ (search rules) c.snf3x3.ensures.value c.in_ok-s.was c.nested.ensures (held-is c.args.job.now.bz_grid_type (search rules)) (held-is c.args.job.now.q0 (search rules))
    l.value c.in_ok-list_in_basis.was (l.tables c.in_ok-list_in_basis.was) _ (to_z_pos w64 {n = n.result} (search rules) ∙ ap pos n.ensures.value) in
    record { value = ap (λ o. o.answer) o; tables = o }
