-- Steps that give nothing once a number left 64 signed bits, which is refusal 4.
use Rattle.std.specs.Prelude.{Bool, true, false, Option, Some, None}

-- the code's `?`
infixl 1 ◌then◌
abbrev pub ◌then◌ : {X Y : Type 0} → Option X → (X → Option Y) → Option Y
Some x then f = f x
None then f = None

-- x, where the numbers on the way to it fit
abbrev pub provided : {X : Type 0} → Bool → X → Option X
provided true x = Some x
provided false x = None

abbrev pub when : {X : Type 0} → Bool → (X → Option X) → X → Option X
when true f x = f x
when false f x = Some x
