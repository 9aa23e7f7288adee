use mathlib.Core.Path.{◌∙◌, ap}
use Prim.Native.Nat.{◌+◌, ◌-◌}
use borrow.Rule.Slice.PartMut.{put_mid}
use Rattle.common.specs.Array.{matrix_of}
use Rattle.transform_rotations.proofs.Turns.{copied}
use Rattle.transform_rotations.proofs.store.Goals as goal

pub returns : goal.returns
returns c =
    let a = c.args in
    ap (put_mid a.at (a.at + 9 - a.at) a.out.now) (c.copy_from_slice.ensures.after ∙ c.flat.ensures) ∙ copied a.out.now a.at (matrix_of a.m) c.requires
