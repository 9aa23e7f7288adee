-- Tests of the members of a list.
use Rattle.std.specs.Prelude.{Bool, true, false, ◌&&◌, ◌||◌, List, [], ◌∷◌}

module _ {A : Type 0} (p : A → Bool) where
  abbrev pub every : List A → Bool
  every [] = true
  every (a ∷ l) = p a && every l

  abbrev pub some : List A → Bool
  some [] = false
  some (a ∷ l) = p a || some l
