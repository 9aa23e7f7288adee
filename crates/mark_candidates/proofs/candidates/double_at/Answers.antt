use mathlib.Core.Path.{◌∙◌}
use mathlib.Core.List.{List, [], ◌∷◌}
use Prim.Native.Nat.{ℕ}
use lib.IntN.{ℤ, pos}
use lib.ListN.{get_or}
use Rattle.integer.proofs.Reify.{ring, reify}
use Rattle.integer.proofs.Plain.{plain, fits-plain, plain-is}
use Rattle.common.specs.Array.{Sized}
use Rattle.common.proofs.Bounds.{p-sized}
use Rattle.mark_candidates.proofs.candidates.double_at.Goals as goal

pub overflow_mul-result-2 : goal.overflow_mul-result-2
overflow_mul-result-2 c = let h = c.args.p.sized in fits-plain (search (plain, p-sized) depth 12) tt

abbrev entry : {k : ℕ} {v : List ℤ} → Sized k v → ℕ → ℤ
entry {v} h n = get_or v n (pos 0)

-- the number, in whatever order the three are multiplied
pub returns : goal.returns
returns c =
    let a = c.args in
    let h = a.p.sized in
    plain-is (search (plain, p-sized) depth 12) tt ∙ ring (entry h a.j ∷ entry h a.k ∷ []) (search reify depth 40) tt
