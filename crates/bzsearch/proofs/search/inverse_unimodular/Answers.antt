use Rattle.std.proofs.Common.{ℤ, ◌≡◌, List, [], ◌∷◌, get_or, sym, subst, ap, ◌∙◌}
use Rattle.integer.proofs.Fits.{held-is}
use Rattle.common.specs.Array.{axis_index, matrix_of, rows, Sized}
use Rattle.common.specs.Limits.{matrix_within}
use Rattle.common.specs.Matrix.{Axis, X, Y, Z, Mat, transpose, inverse}
use Rattle.std.specs.Prelude.{T}
use Rattle.bzsearch.specs.SearchView.{inverse_row}
use Rattle.bzsearch.proofs.Sizes.{det-fits, column-sized, inverse-entries, inverse_within}
use Rattle.bzsearch.proofs.search.inverse_unimodular.Goals as goal
use Rattle.bzsearch.proofs.search.inverse_unimodular.Goals.{After-inverse_row-3}

-- a column of the matrix
column : {t : List (List ℤ)} (m : Mat ℤ) → t ≡ rows (transpose m) → T (matrix_within 1000 m) → (k : Axis) → Sized 1000 (get_or t (axis_index k) [])
column m e s k = rw e (at k)
  where
    at : (k : Axis) → Sized 1000 (get_or (rows (transpose m)) (axis_index k) [])
    at X = column-sized m s X
    at Y = column-sized m s Y
    at Z = column-sized m s Z

pub det_i-det-requires : goal.det_i-det-requires
det_i-det-requires c = det-fits (matrix_of c.args.q.m) c.args.q.within

pub inverse_row-requires-clause-fact_1 : goal.inverse_row-requires-clause-fact_1
inverse_row-requires-clause-fact_1 c = column (matrix_of c.args.q.m) c.transpose.ensures c.args.q.within Y

pub inverse_row-requires-clause-fact_2 : goal.inverse_row-requires-clause-fact_2
inverse_row-requires-clause-fact_2 c = column (matrix_of c.args.q.m) c.transpose.ensures c.args.q.within Z

pub inverse_row-requires-2-clause-fact_1 : goal.inverse_row-requires-2-clause-fact_1
inverse_row-requires-2-clause-fact_1 c = column (matrix_of c.args.q.m) c.transpose.ensures c.args.q.within Z

pub inverse_row-requires-2-clause-fact_2 : goal.inverse_row-requires-2-clause-fact_2
inverse_row-requires-2-clause-fact_2 c = column (matrix_of c.args.q.m) c.transpose.ensures c.args.q.within X

pub inverse_row-requires-3-clause-fact_1 : goal.inverse_row-requires-3-clause-fact_1
inverse_row-requires-3-clause-fact_1 c = column (matrix_of c.args.q.m) c.transpose.ensures c.args.q.within X

pub inverse_row-requires-3-clause-fact_2 : goal.inverse_row-requires-3-clause-fact_2
inverse_row-requires-3-clause-fact_2 c = column (matrix_of c.args.q.m) c.transpose.ensures c.args.q.within Y

whole : (c : After-inverse_row-3) → c.inverse_row.result ∷ c.inverse_row-2.result ∷ c.inverse_row-3.result ∷ [] ≡ rows (inverse (matrix_of c.args.q.m))
whole c =
    let t = c.transpose.ensures in
    let d = held-is c.det_i-det.result c.det_i-det.type_inv ∙ c.det_i-det.ensures in
    let f0 = c.inverse_row.ensures ∙ (λ i. inverse_row (get_or (t i) 1 []) (get_or (t i) 2 []) (d i)) in
    let f1 = c.inverse_row-2.ensures ∙ (λ i. inverse_row (get_or (t i) 2 []) (get_or (t i) 0 []) (d i)) in
    let f2 = c.inverse_row-3.ensures ∙ (λ i. inverse_row (get_or (t i) 0 []) (get_or (t i) 1 []) (d i)) in
    (λ i. f0 i ∷ f1 i ∷ f2 i ∷ []) ∙ ap rows (sym (inverse-entries (matrix_of c.args.q.m)))

pub invariant_of-result : goal.invariant_of-result
invariant_of-result c = record { within = subst (λ l. T (matrix_within 2000000 (matrix_of l))) (sym (whole c)) (inverse_within (matrix_of c.args.q.m) c.args.q.within c.requires) }

pub returns : goal.returns
returns c = whole (goal.at.returns c).After-inverse_row-3
