use mathlib.Core.Path.{◌≡◌, sym, ◌∙◌, ap}
use mathlib.Core.List.{[], ◌∷◌, ◌++◌}
use Prim.Native.Nat.{◌+◌, ◌*◌, ◌/◌, ◌<◌}
use native.Mathlib.Omega.{arith}
use lib.ListN.{length, drop, length-append}
use borrow.Author.Rules.{rules}
use Rattle.std.specs.Prelude.{Some, None}
use Rattle.job.specs.Listing.{line, triplet, triplet_line}
use Rattle.job.specs.Writing.{page, puts}
use Rattle.grgrid.specs.Build.{concat}
use Rattle.job.proofs.Lists.{three-is, more-is, three-in}
use Rattle.job.proofs.Put.{row_more, rows-stopped}
use Rattle.job.proofs.listing.put_triplets.Goals as goal

pub returns-in_err-m : goal.returns-in_err-m
returns-in_err-m c =
    let a = c.args in
    let l = c.loop-three in
    let k = length l.yielded in
    let s = c.in-Some.ensures.steps in
    let rest = l.invariant.3 in
    let size = s.1.1 ∙ l.invariant.2 in
    let e : c.put_line.result ≡ None = search rules in
    let f : c.from_residual.result ≡ None = search rules in
    let in_room = three-in a.list.now c.in-Some.three.now _ k rest s.1.0 size l.invariant.4 in
    let inside : k < length a.list.now / 3 = omega arith in
    rows-stopped (page a.out.now (Some a.n)) e f (triplet_line a.list.now) k (length a.list.now / 3) inside l.invariant.5
    (c.put_line.ensures ∙ ap (λ t. puts (page l.out (Some l.m)) (line triplet t)) (three-is a.list.now c.in-Some.three.now _ k rest s.1.0 size))

pub loop-three-preserved : goal.loop-three-preserved
loop-three-preserved c =
    let a = c.args in
    let l = c.loop-three in
    let k = length l.yielded in
    let s = c.in-Some.ensures.steps in
    let rest = l.invariant.3 in
    let size = s.1.1 ∙ l.invariant.2 in
    let long : k + 1 ≡ length (l.yielded ++ (c.in-Some.three ∷ [])) = sym (length-append l.yielded (c.in-Some.three ∷ [])) in (
      search rules,
      tt,
      s.0 ∙ l.invariant.2,
      more-is a.list.now c.in-Some.three.now _ k rest s.1.0 size ∙ ap (λ k. drop (3 * k) a.list.now) long,
      (let h = three-in a.list.now c.in-Some.three.now _ k rest s.1.0 size l.invariant.4 in omega (arith, long)),
      row_more (page a.out.now (Some a.n)) (triplet_line a.list.now) k l.invariant.5
          (ap (page c.put_line.new.out) (sym c.in_ok-m.was) ∙ c.put_line.ensures ∙ ap (λ t. puts (page l.out (Some l.m)) (line triplet t)) (three-is a.list.now c.in-Some.three.now _ k rest s.1.0 size))
          ∙ ap (λ k. puts (page a.out.now (Some a.n)) (concat (triplet_line a.list.now) k)) long,
    )
