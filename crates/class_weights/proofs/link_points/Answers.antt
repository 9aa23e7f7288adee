use Prim.Native.Nat.{◌-◌}
use mir.Syntax.{w64}
use mir.Facts.{to_z_pos}
use borrow.Author.Rules.{rules}
use Rattle.class_weights.proofs.Linking.{class-cast, class-low, next-cast, next-few, turned}
use Rattle.class_weights.proofs.link_points.Goals as goal

pub overflow_cast-c : goal.overflow_cast-c
overflow_cast-c c = let l = c.loop-p in class-cast c.requires.fact_1 l.p c.loop-p-test.true (search rules) l.invariant (search rules)

pub slice_copy_out-link_to : goal.slice_copy_out-link_to
slice_copy_out-link_to c = let l = c.loop-p in let h = class-low c.requires.fact_1 l.p c.loop-p-test.true (search rules) l.invariant (search rules) in search rules

pub offset_bounds-lowest-c : goal.offset_bounds-lowest-c
offset_bounds-lowest-c c = let l = c.loop-p in let h = class-low c.requires.fact_1 l.p c.loop-p-test.true (search rules) l.invariant (search rules) in search rules

pub overflow_cast-lowest : goal.overflow_cast-lowest
overflow_cast-lowest c = let l = c.loop-p in next-cast c.requires.fact_1 l.p c.loop-p-test.true (search rules) l.invariant (search rules) (search rules)

pub link_to-requires : goal.link_to-requires
link_to-requires c = let l = c.loop-p in let h = next-few c.requires.fact_1 l.p c.loop-p-test.true (search rules) l.invariant (search rules) (search rules) in search rules

pub offset_bounds-lowest-c-in-loop-p : goal.offset_bounds-lowest-c-in-loop-p
offset_bounds-lowest-c-in-loop-p c = let l = c.loop-p in let h = class-low c.requires.fact_1 l.p c.loop-p-test.true (search rules) l.invariant (search rules) in search rules

pub bounds-lowest-c : goal.bounds-lowest-c
bounds-lowest-c c = let l = c.loop-p in let h = class-low c.requires.fact_1 l.p c.loop-p-test.true (search rules) l.invariant (search rules) in search rules

pub loop-p-preserved : goal.loop-p-preserved
loop-p-preserved c =
    let l = c.loop-p in
    rw (to_z_pos w64 {n = c.link_to.result} (search rules), to_z_pos w64 {n = l.p - 1} (search rules))
    (turned c.requires.fact_1 l.p c.loop-p-test.true (search rules) l.invariant (search rules) (search rules) l.auto.numbers (search rules) c.link_to.ensures.value)
