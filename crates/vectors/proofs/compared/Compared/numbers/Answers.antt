use Rattle.std.proofs.Common.{rules, ◌∙◌}
use Rattle.std.proofs.lemmas.Slice.Eq.{strip_prefix_is}
use Rattle.std.proofs.lemmas.Bool.Decides.{Decides-int_eq}
use Rattle.vectors.proofs.Matched.{after-stripped}
use Rattle.vectors.proofs.compared.Compared.numbers.Goals as goal

pub returns : goal.returns
returns c = after-stripped c.args.told.now c.in-Some.line.now c.strip_prefix.result (strip_prefix_is Decides-int_eq c.in-Some.line.now c.args.told.now c.strip_prefix.result c.strip_prefix.ensures.cases) ∙ search rules
