use Rattle.rotation_group.proofs.Small.{small_product}
use Rattle.rotation_group.proofs.products.product.Goals as goal

pub matmul_i-requires : goal.matmul_i-requires
matmul_i-requires c = small_product _ _ c.at.result.within c.at-2.result.within
