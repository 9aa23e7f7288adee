use Rattle.std.proofs.Common.{◌≡◌, sym, ◌∙◌, ap, length, replicate, negsuc, rules}
use Rattle.bztable.proofs.NeighbourCall.{refused}
use Rattle.bztable.proofs.neighbours.neighbours_in.Goals as goal

pub returns-then-is_err : goal.returns-then-is_err
returns-then-is_err c =
    let s = c.args in
    let n = length s.out.now in
    let a = c.neighbour_tests-answer in
    let h : length a.new.out ≡ n = search rules in
    refused s.layout s.points.now s.offsets.now s.addresses.now s.map.now s.d n a.result (sym c.is_err.ensures.value ∙ c.if-is_err.true)
    a.ensures.value (c.fill.ensures.after (λ y e. e) ∙ ap (λ n. replicate n (negsuc 0)) h)
