use mathlib.Core.Logic.{⊎_elim}
use Rattle.std.proofs.Common.{sym, ◌∙◌, ap}
use Rattle.bzsearch.proofs.Literals.{zero-literal}
use Rattle.bz_triplets.specs.declared.choices.Step.{Step}
use Rattle.bz_triplets.specs.BzTriplets.{length_of}
use Rattle.bz_triplets.specs.Code.TripletsView.{found_by, summed}
use Rattle.bz_triplets.proofs.classes.length_of.Goals as goal

pub returns-in-Closed : goal.returns-in-Closed
returns-in-Closed c =
    let f = λ (s : Step). length_of (found_by s (summed c.args.t)) in
    zero-literal ∙ ⊎_elim (λ e. ap f (sym e)) (λ e. ap f (sym e)) c.in-Closed.is
