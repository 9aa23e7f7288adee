use mathlib.Core.Path.{sym, ◌∙◌, ap}
use Prim.Native.Nat.{◌+◌, ◌-◌, ◌*◌}
use borrow.Author.Rules.{rules}
use borrow.Rule.Slice.PartMut.{put_mid}
use Rattle.recip_rotations.proofs.Counting.{keep-there, keep-full, keep-new}
use Rattle.recip_rotations.proofs.Pasted.{copied}
use Rattle.recip_rotations.proofs.keep.Goals as goal

pub returns-then-contains : goal.returns-then-contains
returns-then-contains c = keep-there c.args.out.now c.args.found c.args.rotations.now c.args.n (search rules) (search rules) (sym c.contains.ensures ∙ c.if-contains.true)

pub returns-then-found-eq48 : goal.returns-then-found-eq48
returns-then-found-eq48 c =
    keep-full c.args.out.now c.args.found c.args.rotations.now c.args.n (search rules) (search rules)
    (sym c.contains.ensures ∙ c.if-contains.false) (search rules) _

pub returns : goal.returns
returns c =
    let a = c.args in
    keep-new a.out.now a.found a.rotations.now a.n (search rules) (search rules) (sym c.contains.ensures ∙ c.if-contains.false) (search rules) c.if-found-eq48.false
    (ap (put_mid (a.found * 9) (a.found * 9 + 9 - a.found * 9) a.out.now) c.copy_from_slice.ensures.after ∙ copied a.out.now (a.found * 9) a.rotations.now (a.n * 9))
