use Rattle.std.proofs.Common.{◌≡◌, Some, None, Err, length, sym, ◌∙◌, rules}
use Rattle.common.specs.Array.{vector_of, matrix_at, items}
use Rattle.common.specs.declared.Refusal.TheVariants.{Overflow}
use Rattle.smith3x3.specs.Written.{product_of}
use Rattle.smith3x3.proofs.Joining.{three-items, both-products, multiplied-by}
use Rattle.smith3x3.proofs.multiplied.Goals as goal

pub returns-in_err-p : goal.returns-in_err-p
returns-in_err-p c =
    let f = c.args.first in
    let s = c.args.second in
    let w : c.product.result ≡ product_of (matrix_at s.p 0) (matrix_at f.p 0) = search rules in
    let p : c.product.result ≡ None = search rules in
    let e : c.from_residual.result ≡ Err Overflow = search rules in
    e ∙ (λ i. both-products (items (vector_of s.d_diag)) ((sym p ∙ w) i) (product_of (matrix_at f.q 0) (matrix_at s.q 0))) ∙ multiplied-by (vector_of s.d_diag) (matrix_at f.p 0) (matrix_at f.q 0) (matrix_at s.p 0) (matrix_at s.q 0)

pub returns-in_err-q : goal.returns-in_err-q
returns-in_err-q c =
    let f = c.args.first in
    let s = c.args.second in
    let w : c.product.result ≡ product_of (matrix_at s.p 0) (matrix_at f.p 0) = search rules in
    let p : c.product.result ≡ Some c.in_ok-p.p = search rules in
    let q : c.product-2.result ≡ None = search rules in
    let e : c.from_residual-in_err-q.result ≡ Err Overflow = search rules in
    e ∙ (λ i. both-products (items (vector_of s.d_diag)) ((sym p ∙ w) i) ((sym q ∙ c.product-2.ensures) i)) ∙ multiplied-by (vector_of s.d_diag) (matrix_at f.p 0) (matrix_at f.q 0) (matrix_at s.p 0) (matrix_at s.q 0)

pub returns : goal.returns
returns c =
    let f = c.args.first in
    let s = c.args.second in
    let n : length s.d_diag ≡ 3 = search rules in
    let w : c.product.result ≡ product_of (matrix_at s.p 0) (matrix_at f.p 0) = search rules in
    let p : c.product.result ≡ Some c.in_ok-p.p = search rules in
    let q : c.product-2.result ≡ Some c.in_ok-q.q = search rules in
    (λ i. both-products (three-items s.d_diag n i) ((sym p ∙ w) i) ((sym q ∙ c.product-2.ensures) i)) ∙ multiplied-by (vector_of s.d_diag) (matrix_at f.p 0) (matrix_at f.q 0) (matrix_at s.p 0) (matrix_at s.q 0)
