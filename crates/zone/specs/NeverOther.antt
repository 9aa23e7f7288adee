-- The chain is never refused for a record of another grid: the triplet call is handed the one that the image call left, and has the same diagonal and type.
use Rattle.std.specs.Prelude.{◌≡◌, Err}
use Rattle.common.specs.declared.Refusal.TheVariants.{OtherGrid}
use Rattle.zone_steps.specs.Steps.{Rooms}
use Rattle.zone.specs.Chain.{Job, finished_list}

abbrev pub NeverOther : Type 0
NeverOther = (j : Job) (r : Rooms) → (finished_list j r).answer ≡ Err OtherGrid → ⊥
