use Rattle.integer.proofs.Plain.{plain, p_atom, plain-is}
use Rattle.bzsearch.proofs.search.moved_by.Goals as goal

pub returns : goal.returns
returns c = plain-is (search (plain, p_atom) depth 12) tt
