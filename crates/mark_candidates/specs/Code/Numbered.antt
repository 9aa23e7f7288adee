-- How the contracts of the steps say the candidates: by their numbers.
use Rattle.std.specs.Prelude.{ℕ, ◌/◌, ◌%◌, ltb, ℤ, pos, ◌-ℤ◌, cond}
use Rattle.common.specs.Matrix.{Vec}

-- 0, 1, 2, -2, -1
abbrev pub translation : ℕ → ℤ
translation i = cond (ltb i 3) (pos i) (pos i -ℤ pos 5)

-- candidate i of 125
unfoldable pub candidate_at : ℕ → Vec ℤ
candidate_at i = record { x = translation (i / 25); y = translation (i / 5 % 5); z = translation (i % 5) }
