use Rattle.integer.proofs.Plain.{plain, p_atom, fits-plain, plain-is}
use Rattle.snf_steps.proofs.mixing.mix.Goals as goal

pub overflow_add-result : goal.overflow_add-result
overflow_add-result c = fits-plain (search (plain, p_atom) depth 12) tt

pub returns : goal.returns
returns c = plain-is (search (plain, p_atom) depth 12) tt
