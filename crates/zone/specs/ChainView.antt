-- What the chain is asked for, as its contracts say it.
use Rattle.std.specs.Prelude.{Bool, List, ℤ, Float}
use Rattle.zone.specs.Chain.{Job}
use Rattle.zone.specs.declared.Job as held

-- a job from the parts that the code holds
abbrev pub job : (matrix : List (List ℤ)) (rotations : List ℤ) (lattice : List (List Float)) (shift : List ℤ) (time_reversal swappable : Bool)
    (type q0 : ℤ) → Job
job matrix rotations lattice shift time_reversal swappable type q0 = record {
  matrix = matrix;
  rotations = rotations;
  lattice = lattice;
  shift = shift;
  time_reversal = time_reversal;
  swappable = swappable;
  type = type;
  q0 = q0;
}

abbrev pub asked : held.Job → Job
asked j = job j.a j.rotations.now j.lattice j.ps j.is_time_reversal j.swappable j.bz_grid_type j.q0
