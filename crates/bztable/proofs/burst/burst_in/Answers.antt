use Rattle.std.proofs.Common.{◌≡◌, sym, ◌∙◌, ap, length, replicate, negsuc, rules}
use Rattle.bztable.proofs.BurstCall.{refused}
use Rattle.bztable.proofs.burst.burst_in.Goals as goal

pub returns-then-is_err : goal.returns-then-is_err
returns-then-is_err c =
    let s = c.args in
    let a = c.burst_tests-answer in
    let n : length a.new.out ≡ length s.out.now = search rules in
    let m : length a.new.fallbacks ≡ length s.fallbacks.now = search rules in
    refused s.layout s.indices.now s.rotation s.addresses.now s.map.now s.d s.ps (length s.out.now) (length s.fallbacks.now) a.result (sym c.is_err.ensures.value ∙ c.if-is_err.true) a.ensures.value
    (c.fill.ensures.after (λ y e. e) ∙ ap (λ n. replicate n (negsuc 0)) n)
    (c.fill-then-is_err.ensures.after (λ y e. e) ∙ ap (λ n. replicate n (negsuc 0)) m)
