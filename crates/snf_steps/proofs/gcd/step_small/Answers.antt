use Rattle.std.proofs.Common.{rules, w64}
use mir.Val.{SFits}
use mir.Facts.{to_z-of_z}
use Rattle.integer.specs.Division.{div_euclid}
use Rattle.snf_steps.proofs.SmallWalk.{quotient-is, remainder-is, s-fits, t-fits, product-fits, difference-fits, less-is}
use Rattle.snf_steps.proofs.gcd.step_small.Goals as goal

pub overflow_mul-result : goal.overflow_mul-result
overflow_mul-result c =
    let e = c.args.e in
    let h = c.requires.0 in
    product-fits e.s (div_euclid e.r e.r1) e.s1 (quotient-is e h c.requires.1 (search rules) (search rules)) (search rules) (search rules) (s-fits e h c.requires.1)

pub overflow_sub-result : goal.overflow_sub-result
overflow_sub-result c =
    let e = c.args.e in
    let h = c.requires.0 in
    difference-fits e.s (div_euclid e.r e.r1) e.s1 (quotient-is e h c.requires.1 (search rules) (search rules)) (search rules) (search rules) (s-fits e h c.requires.1)

pub overflow_mul-result-2 : goal.overflow_mul-result-2
overflow_mul-result-2 c =
    let e = c.args.e in
    let h = c.requires.0 in
    product-fits e.t (div_euclid e.r e.r1) e.t1 (quotient-is e h c.requires.1 (search rules) (search rules)) (search rules) (search rules) (t-fits e h c.requires.1)

pub overflow_sub-result-2 : goal.overflow_sub-result-2
overflow_sub-result-2 c =
    let e = c.args.e in
    let h = c.requires.0 in
    difference-fits e.t (div_euclid e.r e.r1) e.t1 (quotient-is e h c.requires.1 (search rules) (search rules)) (search rules) (search rules) (t-fits e h c.requires.1)

pub returns : goal.returns
returns c =
    let e = c.args.e in
    let h = c.requires.0 in
    let n = c.requires.1 in
    let q = div_euclid e.r e.r1 in
    let fr : SFits w64 e.r = search rules in
    let fr1 : SFits w64 e.r1 = search rules in
    let fs : SFits w64 e.s = search rules in
    let fs1 : SFits w64 e.s1 = search rules in
    let ft : SFits w64 e.t = search rules in
    let ft1 : SFits w64 e.t1 = search rules in
    let k = quotient-is e h n fr fr1 in
    let r1 = remainder-is e h n fr fr1 in
    let s1 = less-is e.s q e.s1 k fs fs1 (s-fits e h n) in
    let t1 = less-is e.t q e.t1 k ft ft1 (t-fits e h n) in
    λ i. record { r = to_z-of_z fr1 i; r1 = r1 i; s = to_z-of_z fs1 i; s1 = s1 i; t = to_z-of_z ft1 i; t1 = t1 i }
