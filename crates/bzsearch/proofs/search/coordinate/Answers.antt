use Rattle.std.proofs.Common.{ap}
use Rattle.std.specs.Float.{binary64}
use Rattle.std.specs.Float.Ieee.{mul, div}
use Rattle.bzsearch.proofs.Literals.{two-literal}
use Rattle.bzsearch.proofs.search.coordinate.Goals as goal

pub returns : goal.returns
returns c = ap (λ t. div binary64 c.args.a (mul binary64 t c.args.d)) two-literal
