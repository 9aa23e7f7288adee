use Rattle.std.proofs.Common.{Some, sym, ◌∙◌}
use Rattle.common.specs.Array.{matrix_of}
use Rattle.snf_steps.specs.Elementary.{elementary_swap_rows}
use Rattle.snf_steps.specs.Code.ColumnsView.{matrices_of}
use Rattle.snf_steps.proofs.FittingEntries.{multiply-fits}
use Rattle.snf_steps.proofs.columns.swap_rows.Goals as goal

pub returns : goal.returns
returns c =
    let a = c.elementary_swap_rows-a.ensures in
    let p = c.elementary_swap_rows-p.ensures in
    multiply-fits (matrix_of (elementary_swap_rows c.args.i c.args.j)) (matrices_of c.args.s) a.fits p.fits ∙ (λ n. Some (record { a = sym a.value n; p = sym p.value n }))
