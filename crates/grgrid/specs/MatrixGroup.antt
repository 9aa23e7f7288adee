-- What demand 3 asks of its list, and what keeps the shift.
use Rattle.std.specs.Prelude.{◌≡◌, List, ℤ}
use Rattle.common.specs.Matrix.{Vec, Mat, ◌·◌, identity, ◌▹◌, Unimodular}
use Rattle.grgrid.specs.Lists.{◌∈◌, Distinct}
use Rattle.grgrid.specs.Grid.{double}

-- identity, no repeats, determinants of 1 or -1, products
pub record MatrixGroup (l : List (Mat ℤ)) : Type 0 where
  pub one : identity ∈ l
  pub distinct : Distinct l
  pub units : (A : Mat ℤ) → A ∈ l → Unimodular A
  pub times : (A B : Mat ℤ) → A ∈ l → B ∈ l → A · B ∈ l

-- M carries the shift to itself but for whole steps: the difference is even
pub record Shifts (ps : Vec ℤ) (M : Mat ℤ) : Type 0 where
  pub by : Vec ℤ
  pub is : M ▹ ps ≡ double by ps
