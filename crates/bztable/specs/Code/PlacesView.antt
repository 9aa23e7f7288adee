-- What the record of a point's places stands for.
use Rattle.std.specs.Prelude.{List, ℕ}
use Rattle.common.specs.Tested.{◌then◌}
use Rattle.bzgrid.specs.Table.{listed}
use Rattle.bztable.specs.declared.place.Places.{Places}
use Rattle.bztable.specs.Access.{place_in}
use Rattle.bztable.specs.Reading.{Read, got}

abbrev pub places_in : Places → List ℕ
places_in r = listed (place_in r.first.at r.others) r.count

abbrev pub places_listed : Read Places → Read (List ℕ)
places_listed r = r then λ p. got (places_in p)
