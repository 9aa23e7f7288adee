use Rattle.std.proofs.Common.{◌≡◌, length, sym, ap, ◌∙◌, rules}
use Rattle.std.specs.Prelude.{ℕ, Result, Err, None}
use Rattle.std.specs.Option.{ok_or}
use Rattle.common.specs.declared.Refusal.{Refusal}
use Rattle.common.specs.declared.Refusal.TheVariants.{SearchFailed}
use Rattle.grgrid.specs.Grid.{size}
use Rattle.bzsearch.specs.SearchView.{search_view}
use Rattle.bzgrid.specs.Table.{doubled}
use Rattle.bzgrid.specs.Code.Walked.{lengths_for, judged}
use Rattle.bzgrid.proofs.Outcome.{mesh-fits, failed, answered, filled}
use Rattle.bzgrid.proofs.fill_tables.Goals as goal
use Rattle.bzgrid.proofs.fill_tables.Goals.{After-finish}

pub finish-requires-clause-fact_1 : goal.finish-requires-clause-fact_1
finish-requires-clause-fact_1 c = mesh-fits c.args.s.d_diag c.args.s.diagonal c.grid_of-g.ensures

same-refusal : {x y : Refusal} → ◌≡◌ {A = Result ℕ Refusal} (Err x) (Err y) → x ≡ y
same-refusal e = cc

pub returns-in_err-m-clause-value : goal.returns-in_err-m-clause-value
returns-in_err-m-clause-value c =
    let a = c.args in
    let e : c.from_residual.result ≡ Err c.in_err-m.field-0.0 = search rules in
    let n : c.walk_points.result ≡ None = c.in_err-m.ensures.ok_part in
    e ∙ ap Err (same-refusal (c.in_err-m.ensures.value ∙ ap (λ o. ok_or o SearchFailed) n))
    ∙ failed a.t (search_view a.s) a.told (length a.addresses.now) (length a.map.now) (length a.grg.now) c.is_sparse-sparse.ensures (c.points.ensures ∙ ap size c.grid_of-g.ensures) (sym n ∙ c.walk_points.ensures.value)

-- the lengths of the outputs are as they were
told : (c : After-finish) → let a = c.args in c.finish.result ≡ judged a.told (lengths_for c.is_sparse-sparse.result c.points.result c.in_ok-m.m) (length a.addresses.now) (length a.map.now) (length a.grg.now)
told c =
    let a = c.args in
    let x : length c.walk_points.new.addresses ≡ length a.addresses.now = search rules in
    let y : length c.walk_points.new.map ≡ length a.map.now = search rules in
    let z : length c.walk_points.new.grg ≡ length a.grg.now = search rules in
    c.finish.ensures.value ∙ (λ i. judged a.told (lengths_for c.is_sparse-sparse.result (sym c.points.ensures i) c.in_ok-m.m) (x i) (y i) (z i))

pub returns-clause-value : goal.returns-clause-value
returns-clause-value c =
    let a = c.args in
    told (goal.at.returns-clause-value c).After-finish
    ∙ answered a.t (search_view a.s) a.told (length a.addresses.now) (length a.map.now) (length a.grg.now) c.is_sparse-sparse.ensures (c.points.ensures ∙ ap size c.grid_of-g.ensures) (sym c.in_ok-m.ensures.ok_part ∙ c.walk_points.ensures.value)

pub returns-clause-filled : goal.returns-clause-filled
returns-clause-filled c =
    let a = c.args in
    filled a.t (search_view a.s) a.told (length a.addresses.now) (length a.map.now) (length a.grg.now) c.is_sparse-sparse.ensures (c.points.ensures ∙ ap size c.grid_of-g.ensures) (sym c.in_ok-m.ensures.ok_part ∙ c.walk_points.ensures.value)
    c.finish.new.map c.walk_points.ensures.written_to (ap doubled c.grid_of-g.ensures) c.finish.result (told (goal.at.returns-clause-filled c).After-finish) c.finish.ensures.map_after
