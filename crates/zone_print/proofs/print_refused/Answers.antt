use mathlib.Core.Path.{◌∙◌, ap}
use Rattle.std.specs.Option.{unwrap_or}
use Rattle.zone_print.specs.JobText.{printed_text}
use Rattle.zone_print.proofs.print_refused.Goals as goal

pub returns : goal.returns
unfolding printed_text
returns c =
    let p = c.print_refusal.ensures in
    λ i. record { bytes = (c.unwrap_or.ensures ∙ ap (λ p. unwrap_or p.so_far 0) p) i; text = (p i).text }
