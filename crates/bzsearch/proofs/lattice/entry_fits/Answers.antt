use mathlib.Core.Path.{ap₂}
use Rattle.std.specs.Float.Ieee.{le}
use Rattle.bzsearch.proofs.Literals.{million-literal}
use Rattle.bzsearch.proofs.lattice.entry_fits.Goals as goal

pub returns : goal.returns
returns c = ap₂ le c.abs.ensures million-literal
