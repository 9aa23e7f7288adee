use mathlib.Core.Path.{ap}
use borrow.Author.Rules.{rules}
use Rattle.bzgrid.specs.declared.Built.{Built}
use Rattle.bzgrid.specs.BzGridAddresses.{BzGridAddresses}
use Rattle.answers.proofs.ToldFits.{converted-fit}
use Rattle.zone_c.proofs.images.zone_convert_bz_grid.Goals as goal

pub tell_built-requires-clause-fact_2 : goal.tell_built-requires-clause-fact_2
tell_built-requires-clause-fact_2 c =
    converted-fit _ _ _ _ _ _ (search rules) (search rules) (search rules) (ap (λ (o : BzGridAddresses Built). o.answer) c.convert_bz_grid.ensures)

pub returns : goal.returns
returns c = let o = rw c.table_at.ensures at c.convert_bz_grid.ensures in search rules
