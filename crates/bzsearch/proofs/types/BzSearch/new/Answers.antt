use Rattle.bzsearch.proofs.types.BzSearch.new.Goals as goal

pub invariant_of-result : goal.invariant_of-result
invariant_of-result c = record { diagonal = c.requires.diagonal }
