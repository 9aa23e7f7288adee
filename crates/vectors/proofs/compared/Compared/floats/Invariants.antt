use Rattle.std.proofs.Common.{◌≡◌, drop, pos, length, [], ◌∷◌}
use Rattle.vectors.specs.Matched.{left, matched, matched_floats}
use Rattle.vectors.proofs.compared.Compared.floats.Given as goal

abbrev pub invariant-loop-x : goal.invariant-loop-x
invariant-loop-x l = matched_floats (left l.compared) (drop l.x-index l.list) ≡ matched_floats (matched (left l.fn.self) (pos (length l.list) ∷ [])) l.list
