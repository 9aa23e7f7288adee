use Rattle.std.proofs.Common.{◌≡◌, ◌&&◌, Bool, true, Some, sym, ◌∙◌, ap, rules, T}
use Rattle.integer.proofs.Test.{holds, and_l, and_r}
use Rattle.common.specs.Array.{matrix_of}
use Rattle.snf_steps.specs.declared.columns.Combination.{Combination}
use Rattle.snf_steps.specs.declared.columns.Pair.{Pair}
use Rattle.snf_steps.specs.Elementary.{combining}
use Rattle.snf_steps.specs.Columns.{multiply, small_combination, small_matrix}
use Rattle.snf_steps.specs.Code.ColumnsView.{matrices_of}
use Rattle.snf_steps.proofs.SmallRows.{sized-step, combining-sized}
use Rattle.snf_steps.proofs.columns.combine.Goals as goal

-- what the sizes say: of the four numbers, and of a and p
module _ (c : Combination) (s : Pair) (h : true ≡ small_combination c && (small_matrix (matrix_of s.a) && small_matrix (matrix_of s.p))) where
  abbrev k : Bool
  k = small_combination c

  abbrev a : Bool
  a = small_matrix (matrix_of s.a)

  abbrev p : Bool
  p = small_matrix (matrix_of s.p)

  small-c : T k
  small-c = and_l k (a && p) (holds (sym h))

  small-ap : T (a && p)
  small-ap = and_r k (a && p) (holds (sym h))

pub mixed-a-requires : goal.mixed-a-requires
mixed-a-requires c =
    let a = c.args in
    let h = c.if-all_small.ensures in
    (c.if-i-j.true, c.requires.1, small-c a.c a.s h, and_l (small_matrix (matrix_of a.s.a)) (small_matrix (matrix_of a.s.p)) (small-ap a.c a.s h))

pub mixed-p-requires : goal.mixed-p-requires
mixed-p-requires c =
    let a = c.args in
    let h = c.if-all_small.ensures in
    (c.if-i-j.true, c.requires.1, small-c a.c a.s h, and_r (small_matrix (matrix_of a.s.a)) (small_matrix (matrix_of a.s.p)) (small-ap a.c a.s h))

pub returns-then-all_small : goal.returns-then-all_small
returns-then-all_small c =
    let a = c.args in
    let h = c.if-all_small.ensures in
    (λ n. Some (record { a = c.mixed-a.ensures n; p = c.mixed-p.ensures n }))
    ∙ sym (sized-step (combining a.i a.j a.c.s a.c.t a.c.v a.c.u) (combining-sized a.i a.j a.c (small-c a.c a.s h)) (matrices_of a.s) (small-ap a.c a.s h))

pub returns : goal.returns
returns c =
    let a = c.args in
    let l : c.elementary_set_zero.result ≡ combining a.i a.j a.c.s a.c.t a.c.v a.c.u = search rules in
    c.multiply.ensures ∙ ap (λ l. multiply (matrix_of l) (matrices_of a.s)) l
