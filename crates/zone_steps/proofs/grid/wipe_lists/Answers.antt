use mathlib.Core.Path.{◌≡◌, ◌∙◌, ap}
use lib.Ieee.{neg, of_bits, binary64}
use lib.ListN.{length, replicate}
use borrow.Author.Rules.{rules}
use Rattle.bz_triplets.proofs.Measured.{minus-one-literal}
use Rattle.zone_steps.proofs.grid.wipe_lists.Goals as goal

pub returns-clause-lengths_after : goal.returns-clause-lengths_after
returns-clause-lengths_after c =
    let e : c.fill-5.new.self ≡ replicate (length c.args.lengths.now) (neg (of_bits binary64 0x3ff0000000000000)) = search rules in
    e ∙ ap (replicate (length c.args.lengths.now)) minus-one-literal
