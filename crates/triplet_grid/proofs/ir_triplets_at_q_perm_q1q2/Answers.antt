use mathlib.Core.Path.{◌≡◌, sym, ◌∙◌, ap}
use mathlib.Core.List.{List, map}
use Prim.Native.Nat.{ℕ}
use native.Mathlib.Nat.{le_antisymm}
use lib.IntN.{pos, nat_abs}
use lib.ListN.{get_or}
use mir.Syntax.{w64}
use mir.Val.{of_z}
use borrow.Author.Rules.{rules}
use Rattle.integer.proofs.Fits.{held-is}
use Rattle.grgrid.specs.Grid.{size}
use Rattle.grgrid.specs.Sides.{sides}
use Rattle.grgrid.proofs.Built.{written, written-end}
use Rattle.grgrid.proofs.Numbers.{numbered-at}
use Rattle.triplet_grid.specs.IrTriplets.{lower_of, swapped_number, map_triplets_of}
use Rattle.triplet_grid.proofs.Swapping.{partner-is, own-stored, other-stored}
use Rattle.triplet_grid.proofs.ir_triplets_at_q_perm_q1q2.Goals as goal
use Rattle.triplet_grid.proofs.ir_triplets_at_q_perm_q1q2.Goals.{then-own-q1, else-own-q1}

pub overflow_cast-map_triplets : goal.overflow_cast-map_triplets
overflow_cast-map_triplets c =
    let q1 = c.loop-q1.q1 in
    let k = c.args.classes.now.numbered in
    let e = held-is _ (search rules) ∙ numbered-at k q1 in
    let h = k.low q1 (search rules) in
    rw e (tt, search rules)

pub slice_copy_out-map_triplets : goal.slice_copy_out-map_triplets
slice_copy_out-map_triplets c =
    let q1 = c.loop-q1.q1 in
    let k = c.args.classes.now.numbered in
    let e = held-is _ (search rules) ∙ numbered-at k q1 in
    let h = k.low q1 (search rules) in
    rw e (search rules)

pub offset_bounds-map_triplets-own : goal.offset_bounds-map_triplets-own
offset_bounds-map_triplets-own c =
    let q1 = c.loop-q1.q1 in
    let k = c.args.classes.now.numbered in
    let e = held-is _ (search rules) ∙ numbered-at k q1 in
    let h = k.low q1 (search rules) in
    rw e (search rules)

pub loop-q1-preserved : goal.loop-q1-preserved
loop-q1-preserved c =
    let s = c.args in
    let l = c.loop-q1 in
    let d = sides s.classes.now.q0.g in
    let m = s.classes.now.map_q.now in
    let k = c.args.classes.now.numbered in
    let bits : of_z w64 (get_or m l.q1 (pos 0)) ≡ get_or (map nat_abs m) l.q1 0 = ap (of_z w64) (numbered-at k l.q1) in
    let a = partner-is d s.classes.now.q0.p l.q1 c.grid_address_from_index-address0.ensures in
    elim c.if-own-q1.branch [
      | then-own-q1 w ↦
          own-stored d s.classes.now.q0.p k s.map_triplets.now l.invariant (search rules) (sym bits ∙ w.if-own-q1.true)
          (w.map_triplets-is ∙ held-is _ (search rules) ∙ w.swapped_number.ensures ∙ ap (λ p. pos (lower_of (get_or (map nat_abs m) p 0) l.q1)) a)
      | else-own-q1 w ↦
          other-stored d s.classes.now.q0.p k s.map_triplets.now l.invariant (search rules) (search rules) (λ e. w.if-own-q1.false (bits ∙ e))
          (ap nat_abs (held-is (get_or m l.q1 (pos 0)) (search rules) ∙ numbered-at k l.q1)) (w.map_triplets-is ∙ held-is _ (search rules))
    ]

pub returns : goal.returns
unfolding map_triplets_of
returns c =
    let s = c.args in
    let l = c.loop-q1 in
    let n = size (sides s.classes.now.q0.g) in
    let f : ℕ → List ℕ → ℕ = λ p done. swapped_number (sides s.classes.now.q0.g) s.classes.now.q0.p (map nat_abs s.classes.now.map_q.now) p in
    let e = le_antisymm l.auto.q1-end c.loop-q1-test.false ∙ c.requires in
    l.invariant ∙ ap (λ i. written f pos i s.map_triplets.now) e ∙ written-end f pos n s.map_triplets.now c.requires
