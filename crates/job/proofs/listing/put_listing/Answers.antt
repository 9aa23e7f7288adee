use mathlib.Core.Path.{◌≡◌, sym, ◌∙◌, ap}
use mathlib.Core.List.{[], ◌∷◌, ◌++◌}
use Prim.Native.Nat.{◌/◌}
use lib.ListN.{length}
use mir.Facts.{to_z-of_z}
use borrow.Author.Rules.{rules}
use Rattle.std.specs.Prelude.{Some, None}
use Rattle.grgrid.specs.Build.{concat}
use Rattle.job.specs.Listing.{line, grid, map, ir, triplet_line, listing}
use Rattle.job.specs.Writing.{page}
use Rattle.job.proofs.Put.{puts_then, stopped}
use Rattle.job.proofs.listing.put_listing.Goals as goal

pub returns-in_err-n : goal.returns-in_err-n
unfolding listing
returns-in_err-n c =
    let a = c.args in
    let triplets = concat (triplet_line a.triplets.now) (length a.triplets.now / 3) in
    let e : c.put_line.result ≡ None = search rules in
    let f : c.from_residual.result ≡ None = search rules in
    stopped (page a.out.now (Some a.n)) e f (line grid a.d) (line map a.map.now ++ (line ir (a.classes ∷ []) ++ triplets)) c.put_line.ensures

pub returns-in_err-n-2 : goal.returns-in_err-n-2
unfolding listing
returns-in_err-n-2 c =
    let a = c.args in
    let triplets = concat (triplet_line a.triplets.now) (length a.triplets.now / 3) in
    let classes = line ir (a.classes ∷ []) in
    let e : c.put_line-2.result ≡ None = search rules in
    let f : c.from_residual-in_err-n-2.result ≡ None = search rules in
    puts_then (page a.out.now (Some a.n)) (line grid a.d) (line map a.map.now ++ (classes ++ triplets)) (ap (page c.put_line.new.out) (sym c.in_ok-n.was) ∙ c.put_line.ensures)
    (stopped (page c.put_line.new.out (Some c.in_ok-n.n)) e f (line map a.map.now) (classes ++ triplets) c.put_line-2.ensures)

pub returns-in_err-n-3 : goal.returns-in_err-n-3
unfolding listing
returns-in_err-n-3 c =
    let a = c.args in
    let triplets = concat (triplet_line a.triplets.now) (length a.triplets.now / 3) in
    let classes = line ir (a.classes ∷ []) in
    let e : c.put_line-3.result ≡ None = search rules in
    let f : c.from_residual-in_err-n-3.result ≡ None = search rules in
    puts_then (page a.out.now (Some a.n)) (line grid a.d) (line map a.map.now ++ (classes ++ triplets)) (ap (page c.put_line.new.out) (sym c.in_ok-n.was) ∙ c.put_line.ensures)
    (puts_then (page c.put_line.new.out (Some c.in_ok-n.n)) (line map a.map.now) (classes ++ triplets) (ap (page c.put_line-2.new.out) (sym c.in_ok-n-2.was) ∙ c.put_line-2.ensures)
    (stopped (page c.put_line-2.new.out (Some c.in_ok-n-2.n)) e f classes triplets (rw (to_z-of_z c.ranges.classes) at c.put_line-3.ensures)))

pub returns : goal.returns
unfolding listing
returns c =
    let a = c.args in
    let triplets = concat (triplet_line a.triplets.now) (length a.triplets.now / 3) in
    let classes = line ir (a.classes ∷ []) in
    puts_then (page a.out.now (Some a.n)) (line grid a.d) (line map a.map.now ++ (classes ++ triplets)) (ap (page c.put_line.new.out) (sym c.in_ok-n.was) ∙ c.put_line.ensures)
    (puts_then (page c.put_line.new.out (Some c.in_ok-n.n)) (line map a.map.now) (classes ++ triplets) (ap (page c.put_line-2.new.out) (sym c.in_ok-n-2.was) ∙ c.put_line-2.ensures)
    (puts_then (page c.put_line-2.new.out (Some c.in_ok-n-2.n)) classes triplets (ap (page c.put_line-3.new.out) (sym c.in_ok-n-3.was) ∙ rw (to_z-of_z c.ranges.classes) at c.put_line-3.ensures) c.put_triplets.ensures))
