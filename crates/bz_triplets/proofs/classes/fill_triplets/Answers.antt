use Rattle.std.proofs.Common.{◌≡◌, ℕ, List, ℤ, sym, ◌∙◌, ap, get_or, pos, rules, arith}
use Rattle.std.proofs.lemmas.Result.{err_from_is_err_and}
use mir.Syntax.{w64}
use mir.Val.{SFits, to_z, of_z}
use lib.ListN.{set}
use Rattle.common.specs.Array.{vector_of}
use Rattle.grgrid.specs.Sides.{sides}
use Rattle.grgrid.proofs.Numbers.{entry-is, entry_place, entry_other}
use Rattle.bztable.specs.declared.reading.Table.{Table}
use Rattle.bztable.specs.Reading.{Read, got}
use Rattle.bz_triplets.specs.declared.choices.Measure.{Measure}
use Rattle.bz_triplets.specs.BzTriplets.{State, triplet_of, triplet_list, cell_list, marks, lengths}
use Rattle.bz_triplets.specs.Code.TripletsView.{state_of, walk_by}
use Rattle.bz_triplets.proofs.ByClass.{filled-as, filled_on, filled-room, filled-cells-room, filled_more, filled-cells, filled-refused}
use Rattle.bz_triplets.proofs.classes.fill_triplets.Goals as goal
use Rattle.bz_triplets.proofs.classes.fill_triplets.Goals.{then-class-q1+in_ok-found, else-class-q1}

abbrev triplet : Table → Measure → List ℤ → ℕ → ℕ → Read State
triplet t m a0 = triplet_of t.t (sides t.g) t.map.now (walk_by m t.addresses.now) (vector_of a0)

pub returns-in_err-found-clause-out_after : goal.returns-in_err-found-clause-out_after
returns-in_err-found-clause-out_after c =
    let s = c.args in
    let z = get_or s.class_map.now c.loop-q1.q1 (pos 0) in
    let whole : SFits w64 z = search rules in
    let own = entry_place z c.loop-q1.q1 (entry-is z c.loop-q1.q1 whole.sfits (omega arith) c.if-class-q1.true) in
    let p = err_from_is_err_and c.from_residual.result c.from_residual.ensures.1 in
    rw (p.1, p.2) (filled-refused (triplet s.table.now s.m s.a0.v s.q0.at) (sides s.table.now.g) s.class_map.now c.loop-q1.invariant (λ l. got (triplet_list l)) c.loop-q1-test.true own (sym c.in_err-found.ensures))

pub returns-in_err-found-clause-left_after : goal.returns-in_err-found-clause-left_after
returns-in_err-found-clause-left_after c =
    let s = c.args in
    let z = get_or s.class_map.now c.loop-q1.q1 (pos 0) in
    let whole : SFits w64 z = search rules in
    let own = entry_place z c.loop-q1.q1 (entry-is z c.loop-q1.q1 whole.sfits (omega arith) c.if-class-q1.true) in
    let p = err_from_is_err_and c.from_residual.result c.from_residual.ensures.1 in
    rw (p.1, p.2) (filled-refused (triplet s.table.now s.m s.a0.v s.q0.at) (sides s.table.now.g) s.class_map.now c.loop-q1.invariant (λ l. got (marks l)) c.loop-q1-test.true own (sym c.in_err-found.ensures))

pub returns-in_err-found-clause-left_length_after : goal.returns-in_err-found-clause-left_length_after
returns-in_err-found-clause-left_length_after c =
    let s = c.args in
    let z = get_or s.class_map.now c.loop-q1.q1 (pos 0) in
    let whole : SFits w64 z = search rules in
    let own = entry_place z c.loop-q1.q1 (entry-is z c.loop-q1.q1 whole.sfits (omega arith) c.if-class-q1.true) in
    let p = err_from_is_err_and c.from_residual.result c.from_residual.ensures.1 in
    rw (p.1, p.2) (filled-refused (triplet s.table.now s.m s.a0.v s.q0.at) (sides s.table.now.g) s.class_map.now c.loop-q1.invariant (λ l. got (lengths l)) c.loop-q1-test.true own (sym c.in_err-found.ensures))

pub returns-in_err-found-clause-cells_after : goal.returns-in_err-found-clause-cells_after
returns-in_err-found-clause-cells_after c =
    let s = c.args in
    let z = get_or s.class_map.now c.loop-q1.q1 (pos 0) in
    let whole : SFits w64 z = search rules in
    let own = entry_place z c.loop-q1.q1 (entry-is z c.loop-q1.q1 whole.sfits (omega arith) c.if-class-q1.true) in
    let p = err_from_is_err_and c.from_residual.result c.from_residual.ensures.1 in
    rw (p.1, p.2) (filled-refused (triplet s.table.now s.m s.a0.v s.q0.at) (sides s.table.now.g) s.class_map.now c.loop-q1.invariant (λ l. got (cell_list (sides s.table.now.g) l)) c.loop-q1-test.true own (sym c.in_err-found.ensures))

pub store_places-requires : goal.store_places-requires
store_places-requires c =
    let s = c.args in
    let z = get_or s.class_map.now c.loop-q1.q1 (pos 0) in
    let whole : SFits w64 z = search rules in
    let own = entry_place z c.loop-q1.q1 (entry-is z c.loop-q1.q1 whole.sfits (omega arith) c.if-class-q1.true) in
    filled-room (triplet s.table.now s.m s.a0.v s.q0.at) (sides s.table.now.g) s.class_map.now c.loop-q1.invariant c.loop-q1-test.true own

pub store_cell-requires : goal.store_cell-requires
store_cell-requires c =
    let s = c.args in
    let z = get_or s.class_map.now c.loop-q1.q1 (pos 0) in
    let whole : SFits w64 z = search rules in
    let own = entry_place z c.loop-q1.q1 (entry-is z c.loop-q1.q1 whole.sfits (omega arith) c.if-class-q1.true) in
    filled-cells-room (triplet s.table.now s.m s.a0.v s.q0.at) (sides s.table.now.g) s.class_map.now c.loop-q1.invariant c.loop-q1-test.true own

pub loop-q1-preserved : goal.loop-q1-preserved
loop-q1-preserved c =
    let s = c.args in
    let l = c.loop-q1 in
    let f = triplet s.table.now s.m s.a0.v s.q0.at in
    elim c.if-class-q1.branch [
      | then-class-q1+in_ok-found w ↦
          let z = get_or s.class_map.now c.loop-q1.q1 (pos 0) in
          let whole : SFits w64 z = search rules in
          let own = entry_place z c.loop-q1.q1 (entry-is z c.loop-q1.q1 whole.sfits (omega arith) w.if-class-q1.true) in
          let d = filled_more f (sides s.table.now.g) s.class_map.now l.invariant c.loop-q1-test.true own (state_of w.in_ok-found.found) (sym w.in_ok-found.ensures) in
          let m : to_z w64 (of_z w64 w.mark_of.result) ≡ w.mark_of.result = search rules in
          filled-as w.at-is (w.out-is ∙ w.store_places.ensures) (w.left-is ∙ ap (set l.left l.at) (m ∙ w.mark_of.ensures)) (w.left_length-is ∙ ap (set l.left_length l.at) w.length_of.ensures) (w.cells-is ∙ w.store_cell.ensures) d
      | else-class-q1 w ↦ filled-as w.at-is w.out-is w.left-is w.left_length-is w.cells-is (filled_on f (sides s.table.now.g) s.class_map.now l.invariant (entry_other (get_or s.class_map.now l.q1 (pos 0)) l.q1 w.if-class-q1.false))
    ]

pub returns-clause-cells_after : goal.returns-clause-cells_after
returns-clause-cells_after c =
    let s = c.args in
    filled-cells (triplet s.table.now s.m s.a0.v s.q0.at) (sides s.table.now.g) s.class_map.now c.loop-q1.invariant (search rules)
