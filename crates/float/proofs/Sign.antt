-- Negation of a float.
use Rattle.std.proofs.Common.{◌≡◌, true, false, T, refl}
use lib.Ieee.{Float, nan, inf, fin, Format, neg, div}
use lib.Ieee.Scale.{finite}
use lib.Ieee.Positive.{den}
use Rattle.float.specs.Value.{plus, less}

pub neg-neg : (x : Float) → neg (neg x) ≡ x
unfolding neg
neg-neg nan = refl
neg-neg (inf true) = refl
neg-neg (inf false) = refl
neg-neg (fin true m e) = refl
neg-neg (fin false m e) = refl

pub neg-finite : (x : Float) → T (finite x) → T (finite (neg x))
unfolding neg
neg-finite nan t = t
neg-finite (inf s) t = t
neg-finite (fin s m e) t = tt

-- ---- the number that it is
pub plus-neg : (x : Float) → plus (neg x) ≡ less x
unfolding neg
plus-neg nan = refl
plus-neg (inf s) = refl
plus-neg (fin true m e) = refl
plus-neg (fin false m e) = refl

pub less-neg : (x : Float) → less (neg x) ≡ plus x
unfolding neg
less-neg nan = refl
less-neg (inf s) = refl
less-neg (fin true m e) = refl
less-neg (fin false m e) = refl

pub den-neg : (x : Float) → den (neg x) ≡ den x
unfolding neg
den-neg nan = refl
den-neg (inf s) = refl
den-neg (fin s m e) = refl

-- ---- a quotient of negatives
pub div-neg : (f : Format) (x y : Float) → div f (neg x) (neg y) ≡ div f x y
unfolding neg div
div-neg f nan y = refl
div-neg f (inf s) nan = refl
div-neg f (inf s) (inf t) = refl
div-neg f (inf true) (fin true n d) = refl
div-neg f (inf true) (fin false n d) = refl
div-neg f (inf false) (fin true n d) = refl
div-neg f (inf false) (fin false n d) = refl
div-neg f (fin s m e) nan = refl
div-neg f (fin true m e) (inf true) = refl
div-neg f (fin true m e) (inf false) = refl
div-neg f (fin false m e) (inf true) = refl
div-neg f (fin false m e) (inf false) = refl
div-neg f (fin true m e) (fin true n d) = refl
div-neg f (fin true m e) (fin false n d) = refl
div-neg f (fin false m e) (fin true n d) = refl
div-neg f (fin false m e) (fin false n d) = refl
