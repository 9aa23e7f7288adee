use mir.Facts.{to_z-of_z}
use Rattle.std.proofs.Common.{◌≡◌, negsuc, length, replicate, sym, ◌∙◌, ap, ap₂, rules}
use Rattle.bz_triplets.specs.BzTriplets.{triplet_tests}
use Rattle.bz_triplets.proofs.Measured.{minus-one-literal}
use Rattle.bz_triplets.proofs.CallOutcome.{Input, refused}
use Rattle.bz_triplets.proofs.triplets_in.Goals as goal

pub returns-then-is_err : goal.returns-then-is_err
returns-then-is_err c =
    let s = c.args in
    let i : Input = record { layout = s.layout; q0 = s.q0; addresses = s.addresses.now; map = s.map.now; classes = s.class_map.now; d = s.d; q = s.q; lattice = s.lattice; t = s.bz_grid_type; n = length s.out.now; m = length s.left.now; l = length s.left_length.now; c = length s.cells.now } in
    let a = c.triplet_tests-answer in
    let n : length a.new.out ≡ i.n = search rules in
    let m : length a.new.left ≡ i.m = search rules in
    let l : length a.new.left_length ≡ i.l = search rules in
    let k : length a.new.cells ≡ i.c = search rules in
    refused i a.result (sym c.is_err.ensures.value ∙ c.if-is_err.true)
    (a.ensures.value ∙ ap₂ (λ q0 t. triplet_tests i.layout q0 i.addresses i.map i.classes i.d i.q i.lattice t i.n i.m i.l i.c) (to_z-of_z c.ranges.q0) (to_z-of_z c.ranges.bz_grid_type))
    (c.fill.ensures.after (λ y e. e) ∙ ap (λ n. replicate n (negsuc 0)) n)
    (c.fill-then-is_err.ensures.after (λ y e. e) ∙ ap (λ n. replicate n (negsuc 0)) m)
    (c.fill-then-is_err-2.ensures.after (λ y e. e) ∙ ap₂ replicate l minus-one-literal)
    (c.fill-then-is_err-3.ensures.after (λ y e. e) ∙ ap (λ n. replicate n (negsuc 0)) k)
