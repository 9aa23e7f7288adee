use mathlib.Core.Path.{sym, ◌∙◌, ap}
use mathlib.Core.List.{map}
use native.Mathlib.Nat.{le_antisymm}
use lib.IntN.{pos}
use lib.ListN.{get_or, set}
use mir.Syntax.{w64}
use mir.Facts.{to_z_pos}
use borrow.Author.Rules.{rules}
use Rattle.integer.proofs.Fits.{held-is}
use Rattle.common.specs.Array.{vector_of, matrices}
use Rattle.grgrid.specs.Grid.{size, rotate}
use Rattle.grgrid.specs.Sides.{sides}
use Rattle.grgrid.specs.ClassMap.{number, class_map_of}
use Rattle.grgrid.proofs.Built.{written, written-end}
use Rattle.grgrid.proofs.Numbers.{lower-stored, own-stored}
use Rattle.grgrid.proofs.number_points.Goals as goal
use Rattle.grgrid.proofs.number_points.Goals.{in-Some, in-None}

pub loop-p-preserved : goal.loop-p-preserved
loop-p-preserved c =
    let s = c.args in
    let l = c.loop-p in
    let gs = map (rotate (sides s.g) (vector_of s.ps.v)) (matrices s.rotations.list.now) in
    let e = c.first_lower.ensures.value in
    elim c.match-first_lower.branch [
      | in-Some w ↦
          ap (set l.out l.p) (w.out-is ∙ held-is (get_or l.out _ (pos 0)) (search rules))
          ∙ lower-stored gs l.p s.out.now l.out l.invariant (search rules) (sym w.in-Some.is ∙ e) (search rules)
      | in-None w ↦
          ap (set l.out l.p) (w.out-is ∙ to_z_pos w64 (search rules))
          ∙ own-stored gs l.p s.out.now l.out l.invariant (search rules) (sym w.in-None.is ∙ e)
    ]

pub returns : goal.returns
unfolding class_map_of
returns c =
    let s = c.args in
    let gs = map (rotate (sides s.g) (vector_of s.ps.v)) (matrices s.rotations.list.now) in
    c.loop-p.invariant
    ∙ ap (λ n. written (number gs) pos n s.out.now) (le_antisymm c.loop-p.auto.p-end c.loop-p-test.false ∙ c.requires)
    ∙ written-end (number gs) pos (size (sides s.g)) s.out.now c.requires
