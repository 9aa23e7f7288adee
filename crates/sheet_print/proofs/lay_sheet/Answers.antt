use mathlib.Core.Path.{◌∙◌, ap}
use lib.ListN.{length}
use lib.Seq.{length-take-le}
use borrow.Author.Rules.{rules}
use Rattle.std.specs.Prelude.{Ok}
use Rattle.common.specs.Tested.{giving}
use Rattle.grgrid.specs.Grid.{size}
use Rattle.zone_list.proofs.Listed.{held-count}
use Rattle.sheet_print.specs.SheetText.{sheet_of}
use Rattle.sheet_print.proofs.Laid.{rooms-there, rooms-refused, laid-whole, sheet-long, sheet-laid}
use Rattle.sheet_print.proofs.lay_sheet.Goals as goal

pub returns-then-sheet-n-clause-value : goal.returns-then-sheet-n-clause-value
returns-then-sheet-n-clause-value c =
    let a = c.args in
    let t = sheet_of a.f a.classes.now a.triplets.now in
    let n = sheet-long c.requires (held-count c.requires.whole) c.place_count-n.ensures in
    ap (λ r. giving r (length t)) (rooms-refused t n c.fill.ensures.len c.then-sheet-n.either)

pub returns-clause-value : goal.returns-clause-value
returns-clause-value c =
    let a = c.args in
    let t = sheet_of a.f a.classes.now a.triplets.now in
    let n = sheet-long c.requires (held-count c.requires.whole) c.place_count-n.ensures in
    ap Ok n ∙ ap (λ r. giving r (length t)) (rooms-there t n c.fill.ensures.len c.if-sheet-n.false c.if-room-n.false)

pub returns-clause-sheet_after : goal.returns-clause-sheet_after
returns-clause-sheet_after c =
    let a = c.args in
    let t = sheet_of a.f a.classes.now a.triplets.now in
    let m = length a.sheet.now in
    let u = held-count c.requires.whole in
    let n = sheet-long c.requires u c.place_count-n.ensures in
    let long = length-take-le c.place_count-n.result c.fill.new.self c.if-sheet-n.false in
    let laid = sheet-laid c.requires u (c.points-points.ensures ∙ ap size c.grid_of.ensures) (long ∙ c.place_count-n.ensures) c.class_sheet.ensures.value in
    laid-whole t n m laid (search rules)
