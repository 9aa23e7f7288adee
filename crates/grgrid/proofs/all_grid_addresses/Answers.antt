use mathlib.Core.Path.{sym, ◌∙◌, ap}
use Prim.Native.Nat.{◌*◌}
use lib.ListN.{length}
use Rattle.grgrid.specs.Grid.{size}
use Rattle.grgrid.specs.Addresses.{addresses}
use Rattle.grgrid.proofs.Accepted.{addresses-accepted}
use Rattle.grgrid.proofs.Outcome.{addresses-listed, addresses-refused}
use Rattle.grgrid.proofs.all_grid_addresses.Goals as goal

pub grid_of-requires : goal.grid_of-requires
grid_of-requires c = (addresses-accepted c.args.d (length c.args.out.now) (sym c.address_tests-tested.ensures ∙ c.in-Ok.is)).grid

pub write_addresses-requires : goal.write_addresses-requires
write_addresses-requires c =
    let a = addresses-accepted c.args.d (length c.args.out.now) (sym c.address_tests-tested.ensures ∙ c.in-Ok.is) in
    a.places ∙ ap (λ g. size g * 3) (sym c.grid_of.ensures)

pub returns-in-Ok : goal.returns-in-Ok
returns-in-Ok c =
    addresses-listed c.args.d (length c.args.out.now) c.address_tests-tested.ensures c.in-Ok.is (c.write_addresses.ensures ∙ ap (λ g. addresses g (size g)) c.grid_of.ensures)

pub returns-in-Err : goal.returns-in-Err
returns-in-Err c = addresses-refused c.args.d (length c.args.out.now) c.address_tests-tested.ensures c.in-Err.is (c.fill.ensures.after (λ y k. k))
