use Rattle.std.proofs.Common.{ap}
use Rattle.std.specs.Float.{binary64}
use Rattle.std.specs.Float.Ieee.{add}
use Rattle.bzsearch.specs.Lattice.{squared}
use Rattle.bzsearch.proofs.Literals.{zero-literal}
use Rattle.bzsearch.proofs.lattice.squares_from_0.Goals as goal

pub returns : goal.returns
returns c = ap (λ z. add binary64 (add binary64 (add binary64 z (squared c.args.x)) (squared c.args.y)) (squared c.args.z)) zero-literal
