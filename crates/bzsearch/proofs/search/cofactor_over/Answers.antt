use Rattle.integer.proofs.Plain.{plain, p_atom, fits-plain, plain-is}
use Rattle.bzsearch.proofs.search.cofactor_over.Goals as goal

pub overflow_sub-result : goal.overflow_sub-result
overflow_sub-result c = fits-plain (search (plain, p_atom) depth 12) tt

pub overflow_mul-result-3 : goal.overflow_mul-result-3
overflow_mul-result-3 c = fits-plain (search (plain, p_atom) depth 12) tt

pub returns : goal.returns
returns c = plain-is (search (plain, p_atom) depth 12) tt
