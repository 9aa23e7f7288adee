-- Where the record of the tables agrees with the call, its outcome is that by the layout alone, as if tables had no record.
use Rattle.std.specs.Prelude.{◌≡◌, List, ℕ, T, ℤ, Float}
use Rattle.bzgrid.specs.declared.TableRecord.{TableRecord}
use Rattle.bzgrid.specs.BzGridAddresses.{grid_type_of}
use Rattle.bztable.specs.Agreement.{agrees_grid}
use Rattle.bz_triplets.specs.BzTriplets.{triplets_in, bz_triplets_at_q}

abbrev pub AgreeingTriplets : Type 0
AgreeingTriplets = (q0 : ℤ) (addresses map : List ℤ) (r : TableRecord) (classes d : List ℤ) (q : List (List ℤ)) (lattice : List (List Float)) (type : ℤ)
    → (n m l c : ℕ) → T (agrees_grid r d type)
    → bz_triplets_at_q q0 addresses map r classes d q lattice type n m l c ≡ triplets_in (grid_type_of type) q0 addresses map classes d q lattice type n m l c
