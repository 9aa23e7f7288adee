use mathlib.Core.Path.{sym}
use Prim.Native.Nat.{◌≤◌}
use native.Mathlib.Omega.{arith}
use lib.ListN.{length}
use lib.Seq.{length-take-le}
use Rattle.sheet_print.proofs.Printed.{all-printed, inside, small-codes, sheet-printed, bytes-fit}
use Rattle.sheet_print.proofs.print_sheet.Goals as goal

pub slice_bounds-put_codes-end : goal.slice_bounds-put_codes-end
slice_bounds-put_codes-end c =
    let h = inside _ _ _ _ c.in-Ok.ensures in
    omega arith

pub slice_bounds-put_codes-end-in-Ok : goal.slice_bounds-put_codes-end-in-Ok
slice_bounds-put_codes-end-in-Ok c = sym (length-take-le c.in-Ok.n c.lay_job.new.sheet (slice_bounds-put_codes-end c))

pub put_codes-requires-clause-small : goal.put_codes-requires-clause-small
put_codes-requires-clause-small c = small-codes _ _ _ _ c.in-Ok.ensures

pub put_codes-requires-clause-room : goal.put_codes-requires-clause-room
put_codes-requires-clause-room c =
    let h = inside _ _ _ _ c.in-Ok.ensures in
    let room : c.in-Ok.n ≤ length c.lay_job.new.sheet = omega arith in
    let long = length-take-le c.in-Ok.n c.lay_job.new.sheet room in
    omega arith

pub returns-in-Ok-clause-o_after : goal.returns-in-Ok-clause-o_after
returns-in-Ok-clause-o_after c = sheet-printed _ _ _ _ c.in-Ok.ensures c.put_codes.ensures

pub returns-in-Ok-clause-upper_bound : goal.returns-in-Ok-clause-upper_bound
returns-in-Ok-clause-upper_bound c = bytes-fit _ _ _ _ (returns-in-Ok-clause-o_after c)

pub returns-in-Err-clause-o_after : goal.returns-in-Err-clause-o_after
returns-in-Err-clause-o_after c = all-printed _ _ _ _ c.in-Err.ensures c.print_refused.ensures

pub returns-in-Err-clause-upper_bound : goal.returns-in-Err-clause-upper_bound
returns-in-Err-clause-upper_bound c = bytes-fit _ _ _ _ (returns-in-Err-clause-o_after c)
