use Rattle.common.specs.Array.{matrix_of}
use Rattle.bzsearch.proofs.Sizes.{det-fits}
use Rattle.bzsearch.proofs.search.is_unimodular.Goals as goal

pub det_i-requires : goal.det_i-requires
det_i-requires c = det-fits (matrix_of c.args.q.m) c.args.q.within
