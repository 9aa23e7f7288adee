use mathlib.Core.Path.{◌≡◌}
use Prim.Native.Nat.{◌*◌, ◌≤◌}
use lib.ListN.{length, drop}
use Rattle.std.specs.Prelude.{Some}
use Rattle.std.specs.Slice.Iter.{chunks_exact_rest, chunks_exact_size}
use Rattle.grgrid.specs.Build.{concat}
use Rattle.job.specs.Listing.{triplet_line}
use Rattle.job.specs.Writing.{page, puts}
use Rattle.job.proofs.listing.put_triplets.Given as goal

abbrev pub invariant-loop-three : goal.invariant-loop-three
invariant-loop-three l =
    (goal.iterator-loop-three).can_next l.three-iterator × (goal.iterator-loop-three).is_finite l.three-iterator
    × (chunks_exact_size l.three-iterator ≡ 3) × (chunks_exact_rest l.three-iterator ≡ drop (3 * length l.yielded) l.list) × (3 * length l.yielded ≤ length l.list)
    × (page l.out (Some l.m) ≡ puts (page l.initial.out (Some l.n)) (concat (triplet_line l.list) (length l.yielded)))
