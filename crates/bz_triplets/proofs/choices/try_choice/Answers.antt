use Rattle.std.proofs.Common.{ℕ, refl, ◌∙◌, ap}
use Rattle.std.proofs.lemmas.Result.{err_from_is_err_and}
use Rattle.common.specs.Matrix.{Vec}
use Rattle.common.specs.Array.{vector_of}
use Rattle.bztable.specs.Reading.{got}
use Rattle.bz_triplets.specs.BzTriplets.{tried_sum}
use Rattle.bz_triplets.specs.Code.TripletsView.{choice_view, summed, state_of, walk_by}
use Rattle.bz_triplets.proofs.Sums.{choice-read}
use Rattle.bz_triplets.proofs.choices.try_choice.Goals as goal

pub returns-in_err-a : goal.returns-in_err-a
returns-in_err-a c =
    let s = c.args in
    let p = err_from_is_err_and c.from_residual.result c.from_residual.ensures.1 in
    rw (p.1, p.2)
    (choice-read (walk_by s.m s.table.now.addresses.now) s.t.step (summed s.t) c.requires (choice_view s.choice) c.in_err-a.ensures refl refl)

pub returns-in_err-b : goal.returns-in_err-b
returns-in_err-b c =
    let s = c.args in
    let p = err_from_is_err_and c.from_residual-in_err-b.result c.from_residual-in_err-b.ensures.1 in
    rw (p.1, p.2)
    (choice-read (walk_by s.m s.table.now.addresses.now) s.t.step (summed s.t) c.requires (choice_view s.choice) c.in_ok-a.ensures c.in_err-b.ensures refl)

pub returns-in_err-c : goal.returns-in_err-c
returns-in_err-c c =
    let s = c.args in
    let p = err_from_is_err_and c.from_residual-in_err-c.result c.from_residual-in_err-c.ensures.1 in
    rw (p.1, p.2)
    (choice-read (walk_by s.m s.table.now.addresses.now) s.t.step (summed s.t) c.requires (choice_view s.choice) c.in_ok-a.ensures c.in_ok-b.ensures c.in_err-c.ensures)

pub returns : goal.returns
returns c =
    let s = c.args in
    let w = walk_by s.m s.table.now.addresses.now in
    let p : Vec ℕ = choice_view s.choice in
    ap got c.with_sum.ensures
    ∙ ap (λ g. got (tried_sum w (state_of s.t) p (vector_of g))) c.add3.ensures
    ∙ choice-read w s.t.step (summed s.t) c.requires p c.in_ok-a.ensures c.in_ok-b.ensures c.in_ok-c.ensures
