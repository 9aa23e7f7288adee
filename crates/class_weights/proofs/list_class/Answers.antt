use mathlib.Core.Path.{◌∙◌, ap}
use mathlib.Core.List.{map}
use native.Mathlib.Omega.{arith}
use lib.IntN.{pos, nat_abs}
use lib.ListN.{length}
use lib.Seq.{paste}
use mir.Syntax.{w64}
use mir.Facts.{to_z_pos}
use borrow.Author.Rules.{rules}
use Rattle.class_weights.specs.Code.Links.{chain, next_of}
use Rattle.class_weights.proofs.Held.{held_number}
use Rattle.class_weights.proofs.Following.{walk-room, walk_more, walk_end}
use Rattle.class_weights.proofs.list_class.Goals as goal

pub bounds-members-at : goal.bounds-members-at
bounds-members-at c =
    let s = c.args in
    let w = walk-room s.links.now s.c s.at s.members.now c.loop-p.invariant c.loop-p-test.true in
    omega (arith, w, c.requires.fact_2, c.loop-p.auto.members)

pub loop-p-preserved : goal.loop-p-preserved
loop-p-preserved c =
    let s = c.args in
    let w = c.loop-p in
    let k = c.requires.fact_1.each w.p w.invariant.from c.loop-p-test.true in
    let n = length s.links.now in
    rw (c.next_of-p.ensures ∙ ap (λ z. next_of n (nat_abs z)) (held_number k.natural (search rules)))
    (walk_more s.links.now s.c s.at s.members.now w.invariant c.loop-p-test.true c.requires.fact_2 k.on (to_z_pos w64 {n = w.p} (search rules)))

pub returns : goal.returns
returns c =
    let s = c.args in
    let w = c.loop-p.invariant in
    let e = walk_end s.links.now s.c s.at s.members.now w c.loop-p-test.false in
    (e, w.held ∙ ap (paste s.members.now s.at (map pos (chain s.links.now s.c))) e)
