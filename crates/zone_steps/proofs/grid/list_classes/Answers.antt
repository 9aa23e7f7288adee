use mir.Syntax.{w64}
use mir.Val.{to_z, of_z}
use mathlib.Core.Path.{◌≡◌, sym, ◌∙◌, ap, ap₂}
use lib.IntN.{negsuc}
use lib.Ieee.{binary64, of_int}
use lib.ListN.{length, replicate}
use mir.Facts.{to_z-of_z}
use borrow.Author.Rules.{rules}
use Rattle.std.specs.Prelude.{Err}
use Rattle.bzgrid.specs.BzGridAddresses.{grid_type_of}
use Rattle.zone_steps.specs.Steps.{start_of}
use Rattle.zone_steps.specs.StepsView.{input_grid}
use Rattle.zone_steps.proofs.ListedClasses.{class-input, list-refused, list-tested, classes-front, lists-left}
use Rattle.zone_steps.proofs.grid.list_classes.Goals as goal

pub returns-in_err-number_classes-clause-value : goal.returns-in_err-number_classes-clause-value
returns-in_err-number_classes-clause-value c =
    let s = c.args in
    let e : c.from_residual.result ≡ Err c.in_err-number_classes.field-0.0 = search rules in
    e ∙ list-refused (input_grid s.input.now) s.addresses.now s.map.now s.table (ap (λ o. o.answer) c.number_classes.ensures) c.in_err-number_classes.was

pub start_of-start-requires : goal.start_of-start-requires
start_of-start-requires c =
    let i = c.args.input.now in
    let e : to_z w64 (of_z w64 i.q0) ≡ i.q0 = search rules in
    rw e (class-input (input_grid i) (sym (ap (λ o. o.answer) c.number_classes.ensures) ∙ c.in_ok-number_classes.was)).sign

pub choose_triplets-requires-clause-begin : goal.choose_triplets-requires-clause-begin
choose_triplets-requires-clause-begin c =
    let i = c.args.input.now in
    let ei : to_z w64 (of_z w64 i.q0) ≡ i.q0 = search rules in
    let eu : to_z w64 (of_z w64 i.bz_grid_type) ≡ i.bz_grid_type = search rules in
    to_z-of_z {w = w64} (record { sfits = c.start_of-start.type_inv }) ∙ c.start_of-start.ensures ∙ ap₂ (λ t q. start_of (grid_type_of t) c.args.map.now q) eu ei

pub choose_triplets-requires-clause-class_map : goal.choose_triplets-requires-clause-class_map
choose_triplets-requires-clause-class_map c =
    classes-front (input_grid c.args.input.now) c.requires.fact_1 _ c.requires.fact_2.fits c.wipe_lists.ensures.classes_after (ap (λ o. o.classes) c.number_classes.ensures) (search rules)

pub returns-clause-value : goal.returns-clause-value
returns-clause-value c =
    let s = c.args in
    list-tested (input_grid s.input.now) s.addresses.now s.map.now s.table (ap (λ o. o.answer) c.number_classes.ensures) c.in_ok-number_classes.was (ap (λ o. o.answer) c.choose_triplets.ensures)

pub returns-clause-lengths_after : goal.returns-clause-lengths_after
returns-clause-lengths_after c k =
    let s = c.args in
    let w = c.wipe_lists.ensures in
    let agreed = c.requires.fact_2.agreed in
    lists-left (input_grid s.input.now) c.requires.fact_1 (length s.classes.now) c.requires.fact_2.fits w.classes_after (ap (λ o. o.classes) c.number_classes.ensures) (search rules)
    (w.points_after ∙ ap (λ k. replicate k (negsuc 0)) agreed.points-agree) (ap (λ o. o.points) c.number_classes.ensures) s.addresses.now s.map.now s.table c.choose_triplets.ensures
    (w.triplets_after ∙ ap (λ k. replicate k (negsuc 0)) agreed.triplets-agree)
    (w.left_after ∙ ap (λ k. replicate k (negsuc 0)) agreed.left-agree)
    (w.lengths_after ∙ ap (λ k. replicate k (of_int binary64 (negsuc 0))) agreed.lengths-agree)
    (w.cells_after ∙ ap (λ k. replicate k (negsuc 0)) agreed.cells-agree)
    (search rules)
    (search rules)
    (search rules)
    (search rules)
    (search rules)
