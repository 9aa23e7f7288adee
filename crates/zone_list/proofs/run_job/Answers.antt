use mathlib.Core.Path.{sym, ◌∙◌}
use borrow.Author.Rules.{rules}
use Rattle.integer.proofs.Fits.{held-is}
use Rattle.zone_list.proofs.Listed.{few-counted, same-job, job-ran, job-refused}
use Rattle.zone_list.proofs.run_job.Goals as goal

pub overflow_mul-n : goal.overflow_mul-n
overflow_mul-n c =
    let h = few-counted c.args.bytes.now (sym c.in-Ok.ensures.value) in
    search rules

pub slice_bounds-asked-end : goal.slice_bounds-asked-end
slice_bounds-asked-end c =
    let h = few-counted c.args.bytes.now (sym c.in-Ok.ensures.value) in
    search rules

pub returns-in-Ok : goal.returns-in-Ok
returns-in-Ok c =
    let j = c.in-Ok.j in
    let r = c.in-Ok.ensures in
    let e = sym r.value in
    c.finished_list.ensures.value
    ∙ job-ran _ _ e (same-job _ e c.nested.ensures r.rotations_after c.nested-in-Ok.ensures (held-is j.grid_type (search rules)) (held-is j.q0 (search rules)))

pub returns-in-Err : goal.returns-in-Err
returns-in-Err c =
    let w = c.wipe.ensures in
    job-refused _ _ (sym c.in-Err.ensures.value) w.addresses_after w.map_after w.grg_after w.lengths_after
