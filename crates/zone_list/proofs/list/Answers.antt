use mathlib.Core.Path.{◌≡◌}
use lib.ListN.{length}
use borrow.Author.Rules.{rules}
use Rattle.std.specs.Prelude.{Err}
use Rattle.zone_list.proofs.Listed.{whole-job, listed-refused, listed-told, listed-wiped}
use Rattle.zone_list.proofs.list.Goals as goal

pub print_finished-printed-requires : goal.print_finished-printed-requires
print_finished-printed-requires c = whole-job _ _ c.in_ok-f.ensures (search rules) (search rules)

pub returns-in_err-f : goal.returns-in_err-f
returns-in_err-f c =
    let e : c.from_residual.result ≡ Err c.in_err-f.field-0.0 = search rules in
    listed-refused _ _ _ c.in_err-f.ensures e (search rules)

pub returns-then-is_err : goal.returns-then-is_err
returns-then-is_err c =
    listed-wiped _ _ (length c.args.text.now) c.in_ok-f.ensures (search rules) (search rules) (search rules) (search rules) (search rules) (search rules) (search rules)

pub returns-else-is_err : goal.returns-else-is_err
returns-else-is_err c = listed-told _ _ (length c.args.text.now) c.in_ok-f.ensures (search rules) (search rules) (search rules)
