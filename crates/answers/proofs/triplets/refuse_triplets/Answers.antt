use mathlib.Core.Path.{◌≡◌, ◌∙◌, ap}
use lib.Ieee.{neg, of_bits, binary64}
use lib.ListN.{length, replicate}
use borrow.Author.Rules.{rules}
use Rattle.bz_triplets.proofs.Measured.{minus-one-literal}
use Rattle.answers.proofs.triplets.refuse_triplets.Goals as goal

pub returns-clause-left_length_after : goal.returns-clause-left_length_after
returns-clause-left_length_after c =
    let e : c.fill.new.self ≡ replicate (length c.args.left_length.now) (neg (of_bits binary64 0x3ff0000000000000)) = search rules in
    e ∙ ap (replicate (length c.args.left_length.now)) minus-one-literal
