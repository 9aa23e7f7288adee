use mathlib.Core.Path.{◌∙◌, ap}
use Prim.Native.Nat.{◌%◌}
use native.Mathlib.Omega.{arith}
use lib.Dec.{eqb, leb}
use lib.IntN.{pos}
use mir.Syntax.{w64}
use mir.Facts.{to_z_pos}
use Rattle.job.specs.Job.{signed_words, floats, accepted}
use Rattle.job.proofs.job.accept.Goals as goal

pub returns : goal.returns
unfolding accepted
returns c =
    let b = c.args.bytes.now in
    let flags = c.word-flags.ensures.value in
    let t = c.word-4.ensures in
    let q = c.word-5.ensures in
    λ i. record {
      a = (c.signed_words.ensures ∙ ap (λ w. signed_words b w 9) c.word.ensures.value) i;
      lattice = (c.floats.ensures ∙ ap (λ w. floats b w 9) c.word-2.ensures.value) i;
      count = c.word-3.ensures.value i;
      time_reversal = eqb (flags i % 2) 1;
      swapping = leb 2 (flags i);
      grid_type = (to_z_pos w64 (omega (arith, t.upper_bound)) ∙ ap pos t.value) i;
      q0 = (to_z_pos w64 (omega (arith, q.upper_bound)) ∙ ap pos q.value) i;
    }
