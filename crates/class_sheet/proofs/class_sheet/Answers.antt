use mathlib.Core.Path.{◌≡◌, sym, subst}
use lib.IntN.{negsuc}
use lib.ListN.{length, replicate}
use borrow.Author.Rules.{rules}
use Rattle.common.specs.Tested.{Accepted}
use Rattle.class_sheet.specs.ClassSheet.{ReadsBack}
use Rattle.class_sheet.proofs.Calling.{sheet-put, sheet-refused}
use Rattle.class_sheet.proofs.ReadBack.{sheet-reads-back}
use Rattle.class_sheet.proofs.class_sheet.Goals as goal

pub returns-then-is_err-clause-value : goal.returns-then-is_err-clause-value
returns-then-is_err-clause-value c =
    let a = c.args in
    let blank : c.fill.new.self ≡ replicate (length a.sheet.now) (negsuc 0) = search rules in
    rw blank (sheet-refused a.class_map.now a.triplets.now (length a.sheet.now) c.lay_out-told.result c.lay_out-told.ensures (search rules))

pub returns-else-is_err-clause-value : goal.returns-else-is_err-clause-value
returns-else-is_err-clause-value c =
    let a = c.args in
    let e : c.lay_out-told.result ≡ Accepted = search rules in
    sheet-put a.class_map.now a.triplets.now (length a.sheet.now) c.lay_out-told.ensures e

pub returns-else-is_err-clause-reads_back : goal.returns-else-is_err-clause-reads_back
returns-else-is_err-clause-reads_back c =
    let a = c.args in
    let e : c.lay_out-told.result ≡ Accepted = search rules in
    subst (ReadsBack a.class_map.now a.triplets.now) (sym (sheet-put a.class_map.now a.triplets.now (length a.sheet.now) c.lay_out-told.ensures e)) (sheet-reads-back a.class_map.now a.triplets.now (length a.sheet.now))
