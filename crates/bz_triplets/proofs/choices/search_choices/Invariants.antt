use mathlib.Core.List.{foldl}
use Rattle.bztable.specs.Reading.{got}
use Rattle.bzgrid.specs.Table.{listed}
use Rattle.bz_triplets.specs.Choosing.{start}
use Rattle.bz_triplets.specs.BzTriplets.{try_at}
use Rattle.bztable.specs.Access.{place_in}
use Rattle.bztable.specs.Code.PlacesView.{places_in}
use Rattle.bz_triplets.specs.Code.TripletsView.{state_of, walk_by}
use Rattle.bz_triplets.proofs.Walking.{inner, middle, outer, Reached}
use Rattle.bz_triplets.proofs.choices.search_choices.Given as goal

abbrev pub invariant-loop-i : goal.invariant-loop-i
invariant-loop-i l = Reached (foldl (outer (try_at (walk_by l.m l.table.addresses.now)) (places_in l.q1) (places_in l.q2)) (got start) (listed (place_in l.q0.first.at l.q0.others) l.i)) l.found

abbrev pub invariant-loop-j : goal.invariant-loop-j
invariant-loop-j l = Reached (foldl (middle (try_at (walk_by l.m l.table.addresses.now)) (places_in l.q2) l.x.at) (got (state_of l.initial.found)) (listed (place_in l.q1.first.at l.q1.others) l.j)) l.found

abbrev pub invariant-loop-k : goal.invariant-loop-k
invariant-loop-k l = Reached (foldl (inner (try_at (walk_by l.m l.table.addresses.now)) l.x.at l.y.at) (got (state_of l.initial.found)) (listed (place_in l.q2.first.at l.q2.others) l.k)) l.found
