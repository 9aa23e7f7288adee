use mathlib.Core.Path.{◌≡◌, sym, ◌∙◌, ap}
use mathlib.Core.Bool.{true, false}
use Prim.Native.Nat.{◌*◌}
use native.Mathlib.Omega.{arith}
use lib.IntN.{negsuc}
use lib.ListN.{length, replicate}
use lib.Seq.{length-take-le}
use borrow.Author.Rules.{rules}
use Rattle.std.specs.Prelude.{Ok}
use Rattle.job.specs.Job.{job_fits}
use Rattle.job.proofs.Sections.{sections}
use Rattle.job.proofs.Outcome.{refused-job, none-laid, accepted-job, room, rotations-laid}
use Rattle.job.proofs.job.read_job.Goals as goal

pub returns-then-not-job_fits-clause-value : goal.returns-then-not-job_fits-clause-value
returns-then-not-job_fits-clause-value c =
    let e : job_fits c.args.bytes.now ≡ false = search rules in
    refused-job c.args.bytes.now e

pub returns-then-not-job_fits-clause-rotations_after : goal.returns-then-not-job_fits-clause-rotations_after
returns-then-not-job_fits-clause-rotations_after c =
    let e : job_fits c.args.bytes.now ≡ false = search rules in
    let f : c.fill.new.self ≡ replicate (length c.args.rotations.now) (negsuc 0) = search rules in
    none-laid c.args.bytes.now e (f ∙ ap (λ n. replicate n (negsuc 0)) c.requires)

pub word-n-requires : goal.word-n-requires
word-n-requires c =
    let e : job_fits c.args.bytes.now ≡ true = search rules in
    let s = sections c.args.bytes.now e in
    omega arith

pub word-requires : goal.word-requires
word-requires c =
    let e : job_fits c.args.bytes.now ≡ true = search rules in
    let s = sections c.args.bytes.now e in
    omega arith

pub slice_bounds-signed_words-end : goal.slice_bounds-signed_words-end
slice_bounds-signed_words-end c =
    let e : job_fits c.args.bytes.now ≡ true = search rules in
    let f : c.fill.new.self ≡ replicate (length c.args.rotations.now) (negsuc 0) = search rules in
    room c.args.bytes.now e c.word-n.ensures.value f c.requires

pub slice_bounds-signed_words-end-2 : goal.slice_bounds-signed_words-end-2
slice_bounds-signed_words-end-2 c =
    let e : job_fits c.args.bytes.now ≡ true = search rules in
    let f : c.fill.new.self ≡ replicate (length c.args.rotations.now) (negsuc 0) = search rules in
    sym (length-take-le (9 * c.word-n.result) c.fill.new.self (room c.args.bytes.now e c.word-n.ensures.value f c.requires))

pub signed_words-requires : goal.signed_words-requires
signed_words-requires c =
    let e : job_fits c.args.bytes.now ≡ true = search rules in
    let f : c.fill.new.self ≡ replicate (length c.args.rotations.now) (negsuc 0) = search rules in
    let s = sections c.args.bytes.now e in
    rw (length-take-le (9 * c.word-n.result) c.fill.new.self (room c.args.bytes.now e c.word-n.ensures.value f c.requires))
    (omega (arith, c.word-n.ensures.value, c.word.ensures.value))

pub returns-clause-value : goal.returns-clause-value
returns-clause-value c =
    let e : job_fits c.args.bytes.now ≡ true = search rules in
    ap Ok c.accept.ensures ∙ accepted-job c.args.bytes.now e

pub returns-clause-rotations_after : goal.returns-clause-rotations_after
returns-clause-rotations_after c =
    let e : job_fits c.args.bytes.now ≡ true = search rules in
    let f : c.fill.new.self ≡ replicate (length c.args.rotations.now) (negsuc 0) = search rules in
    rotations-laid c.args.bytes.now e c.signed_words.ensures (length-take-le (9 * c.word-n.result) c.fill.new.self (room c.args.bytes.now e c.word-n.ensures.value f c.requires))
    c.word.ensures.value c.word-n.ensures.value (f ∙ ap (λ n. replicate n (negsuc 0)) c.requires)
