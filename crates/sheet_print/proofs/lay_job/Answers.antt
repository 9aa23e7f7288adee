use mathlib.Core.Path.{◌≡◌}
use lib.ListN.{length}
use borrow.Author.Rules.{rules}
use Rattle.std.specs.Prelude.{Err}
use Rattle.sheet_print.proofs.Chain.{sheeted}
use Rattle.sheet_print.proofs.Laid.{laid-refused, laid-told, laid-wiped}
use Rattle.sheet_print.proofs.lay_job.Goals as goal

pub lay_sheet-laid-requires : goal.lay_sheet-laid-requires
lay_sheet-laid-requires c = sheeted _ _ c.in_ok-f.ensures (search rules) (search rules)

pub returns-in_err-f : goal.returns-in_err-f
returns-in_err-f c =
    let e : c.from_residual.result ≡ Err c.in_err-f.field-0.0 = search rules in
    laid-refused _ _ (length c.args.sheet.now) c.args.room c.in_err-f.ensures e (search rules)

pub returns-then-is_err : goal.returns-then-is_err
returns-then-is_err c =
    laid-wiped _ _ (length c.args.sheet.now) c.args.room c.in_ok-f.ensures (search rules) (search rules) (search rules) (search rules) (search rules) (search rules) (search rules)

pub returns-else-is_err : goal.returns-else-is_err
returns-else-is_err c = laid-told _ _ (length c.args.sheet.now) c.args.room c.in_ok-f.ensures (search rules) (search rules) (search rules)
