use Rattle.bzsearch.specs.Lattice.{lattice_det, dual_lengths_of}
use Rattle.bzsearch.proofs.lattice.dual_lengths.Goals as goal

pub returns : goal.returns
unfolding dual_lengths_of lattice_det
returns c = rw (c.dual_length.ensures, c.dual_length-2.ensures, c.dual_length-3.ensures, c.transpose.ensures, c.abs-det.ensures, c.det_d.ensures)
