use Rattle.std.proofs.Common.{◌≡◌, refl, ap, ◌∙◌, ◌&&◌, ℕ, List, [], ◌∷◌, ℤ, rules, tests}
use Rattle.std.specs.List.{list_all}
use Rattle.std.proofs.lemmas.Iterator.{YieldsList-from_slice}
use Rattle.std.proofs.lemmas.Iterator.Search.{all_from_yields_List}
use Rattle.common.specs.Limits.{within, all_within}
use Rattle.common.proofs.limits.all_within.Goals as goal

each : (k : ℕ) (l : List ℤ) → list_all (within k) l ≡ all_within k l
each k [] = refl
each k (z ∷ l) = ap (λ t. within k z && t) (each k l)

pub returns : goal.returns
returns c =
    all_from_yields_List (within c.args.k) _ _ _ c.all.ensures.ran (YieldsList-from_slice c.args.list.now cc) (λ x b q k. search (rules, tests))
    ∙ each c.args.k c.args.list.now
