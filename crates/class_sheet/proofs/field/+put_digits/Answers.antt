use mathlib.Core.Path.{◌≡◌}
use Prim.Native.Nat.{◌+◌, ◌/◌, ◌%◌}
use lib.ListN.{length}
use borrow.Author.Rules.{rules}
use Rattle.std.specs.Prelude.{Err}
use Rattle.common.specs.declared.Refusal.TheVariants.{OutsideLimits}
use Rattle.class_sheet.specs.Code.SheetView.{sign, signed}
use Rattle.class_sheet.proofs.Putting.{no-room, put-last, signed-one, signed-last, signed-some}
use Rattle.class_sheet.proofs.field.+put_digits.Goals as goal

pub returns-in_err-out : goal.returns-in_err-out
returns-in_err-out t c =
    let a = c.args in
    let e : c.from_residual.result ≡ Err OutsideLimits = search rules in
    let z : length a.out.now ≡ 0 = search rules in
    rw (e, z) (no-room (signed a.negative a.n) a.out.now (signed-some a.negative a.n))

pub returns-then-n-lt10 : goal.returns-then-n-lt10
returns-then-n-lt10 t c =
    let a = c.args in
    put-last (sign a.negative) (48 + a.n % 10) (search rules) (signed-one a.negative a.n c.if-n-lt10.true) (search rules) c.put_sign.ensures

pub returns : goal.returns
returns t c =
    let a = c.args in
    put-last (signed a.negative (a.n / 10)) (48 + a.n % 10) (search rules) (signed-last a.negative a.n c.if-n-lt10.false) (search rules) c.put_digits.ensures
