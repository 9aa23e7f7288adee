use mathlib.Core.Path.{◌≡◌, ◌∙◌, ap}
use lib.IntN.{negsuc}
use lib.ListN.{length, replicate}
use borrow.Author.Rules.{rules}
use Rattle.recip_rotations.specs.PointGroup.{get_reciprocal_point_group}
use Rattle.recip_rotations.proofs.Answered.{told, told-refused}
use Rattle.recip_rotations.proofs.get_reciprocal_point_group.Goals as goal

pub returns-in-Ok : goal.returns-in-Ok
unfolding get_reciprocal_point_group
returns-in-Ok c = told (length c.args.out.now) c.group_of.ensures c.in-Ok.is

pub returns-in-Err : goal.returns-in-Err
unfolding get_reciprocal_point_group
returns-in-Err c =
    let h : length c.group_of.new.out ≡ length c.args.out.now = search rules in
    told-refused (length c.args.out.now) c.group_of.ensures c.in-Err.is (c.fill.ensures.after (λ y e. e) ∙ ap (λ n. replicate n (negsuc 0)) h)
