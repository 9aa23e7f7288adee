-- `all_grid_addresses`: its tests, and its answer with the addresses, which have n places, as one outcome.
use Rattle.std.specs.Prelude.{List, [], ◌++◌, ℕ, zero, suc, ◌*◌, eqb, ℤ}
use Rattle.common.specs.Matrix.{Vec}
use Rattle.common.specs.Array.{sides_of, items}
use Rattle.common.specs.Limits.{diagonal_fits}
use Rattle.common.specs.Tested.{require, output_of, Tested, Accepted}
use Rattle.common.specs.declared.Refusal.TheVariants.{OutsideLimits, WrongLength}
use Rattle.grgrid.specs.Grid.{size, address}

-- of the points below p
abbrev pub addresses : Vec ℕ → ℕ → List ℤ
addresses d zero = []
addresses d (suc p) = addresses d p ++ items (address d p)

unfoldable pub address_tests : List ℤ → ℕ → Tested
address_tests d n = require (diagonal_fits d) OutsideLimits (require (eqb n (size (sides_of d) * 3)) WrongLength Accepted)

pub record AllGridAddresses : Type 0 where
  pub answer : Tested
  pub addresses : List ℤ

unfoldable pub all_grid_addresses : List ℤ → ℕ → AllGridAddresses
unfolding address_tests address
all_grid_addresses d n =
    let t = address_tests d n in
    record { answer = t; addresses = output_of t n (addresses (sides_of d) (size (sides_of d))) }
