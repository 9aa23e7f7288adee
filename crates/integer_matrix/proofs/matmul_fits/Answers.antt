use mathlib.Core.Path.{sym, ◌∙◌}
use mathlib.Core.Bool.{◌&&◌}
use lib.Dec.{leb→le}
use Rattle.integer.proofs.Test.{holds, is_true}
use Rattle.common.specs.Array.{matrix_of}
use Rattle.common.specs.IntegerMatrix.{product_fits}
use Rattle.common.proofs.Whole.{sized-products}
use Rattle.integer_matrix.proofs.matmul_fits.Goals as goal

pub returns-then-small_product : goal.returns-then-small_product
returns-then-small_product c =
    let l = matrix_of c.args.l in
    let a = matrix_of c.args.a in
    let b = matrix_of c.args.b in
    let small = rw (c.largest.ensures, c.max.ensures, c.largest-2.ensures, c.largest-3.ensures) at c.small_product.ensures in
    sym (is_true (product_fits l a && product_fits l b) (sized-products l a b (leb→le _ _ (holds (sym small ∙ c.if-small_product.true)))))
