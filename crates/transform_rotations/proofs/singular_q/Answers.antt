use mathlib.Core.Path.{◌≡◌, refl, ◌∙◌, ap, ap₂}
use lib.Ieee.{binary64, of_bits, of_int, eq}
use lib.IntN.{pos}
use Rattle.common.specs.FloatMatrix.{det_d}
use Rattle.transform_rotations.specs.TransformRotations.{singular_q}
use Rattle.transform_rotations.proofs.singular_q.Goals as goal

zero_is : of_bits binary64 0 ≡ of_int binary64 (pos 0)
unfolding of_bits of_int
zero_is = refl

pub returns : goal.returns
unfolding singular_q
returns c = ap₂ eq (c.det_d.ensures ∙ ap det_d c.mat_i_to_d.ensures) zero_is
