use mathlib.Core.Path.{◌∙◌, ap}
use native.Mathlib.Omega.{arith}
use borrow.Author.Rules.{rules}
use Rattle.std.proofs.lemmas.Slice.{put_mid-paste}
use mathlib.Core.List.{[]}
use Rattle.common.specs.Matrix.{entries}
use Rattle.common.specs.Array.{rows, matrix_of}
use Rattle.grgrid.specs.Sides.{sides}
use Rattle.common.proofs.Sized.{rotation_within}
use Rattle.triplet_grid.proofs.Keeping.{carry-is, front-start, front_read, front-more, front_same}
use Rattle.triplet_grid.proofs.keep_stabilizer.Goals as goal
use Rattle.triplet_grid.proofs.keep_stabilizer.Goals.{then-carried-q0, else-carried-q0}

pub loop-n-init : goal.loop-n-init
loop-n-init c = front-start (sides c.args.q0.g) c.args.q0.p c.args.group.now

pub invariant_of-rotation : goal.invariant_of-rotation
invariant_of-rotation c =
    let s = c.args in
    let l = c.loop-n in
    record { within = rw (c.matrix_at.ensures ∙ ap rows (front_read (sides s.q0.g) s.q0.p s.group.now l.invariant)) (rotation_within 100000 s.group.now c.requires l.n) }

pub loop-n-preserved : goal.loop-n-preserved
loop-n-preserved c =
    let s = c.args in
    let l = c.loop-n in
    let d = sides s.q0.g in
    let m = c.matrix_at.ensures ∙ ap rows (front_read d s.q0.p s.group.now l.invariant) in
    let r = carry-is d s.q0.p c.carried.ensures m c.grid_address_from_index-address.ensures in
    elim c.if-carried-q0.branch [
      | then-carried-q0 w ↦ rw w.kept-is (front-more d s.q0.p s.group.now l.invariant r w.if-carried-q0.true m (w.group-is ∙ put_mid-paste _ _ l.group _ (entries (matrix_of c.matrix_at.result) []) 9 (search rules) (omega arith) (omega arith)))
      | else-carried-q0 w ↦ rw (w.group-is, w.kept-is) (front_same d s.q0.p s.group.now l.invariant r w.if-carried-q0.false)
    ]
