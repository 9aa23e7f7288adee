-- What the call returns for each answer: matrices by rows, or the refusal.
use Rattle.std.specs.Prelude.{[], pos, Result, Ok, Err}
use Rattle.common.specs.declared.Refusal.{Refusal}
use Rattle.common.specs.Matrix.{entries}
use Rattle.common.specs.Array.{items}
use Rattle.snf3x3.specs.declared.Snf.{Snf}
use Rattle.snf3x3.specs.Snf3x3.{Answer, refused, diagonalised}

abbrev pub written : Answer → Result Snf Refusal
written (refused r) = Err r
written (diagonalised d p q n) = Ok (record { d_diag = items d; p = entries p []; q = entries q []; rounds = pos n })
