use Rattle.std.proofs.Common.{◌≡◌, [], ◌∷◌, ◌*◌, ◌%◌, ℤ, ◌+ℤ◌, ◌-ℤ◌, ◌*ℤ◌, refl, sym, ◌∙◌, ap, arith, w64}
use Prim.Native.Nat.{◌^◌}
use native.Mathlib.Nat.{lt_of_lt_of_le}
use lib.Dec.{lt→ltb}
use lib.Signed.{mag}
use mir.Val.{SFits, of_z}
use mir.Facts.{to_z-of_z, Fits-of_z}
use Rattle.std.specs.Int.{int_wrap}
use Rattle.std.proofs.lemmas.Int.{wrapping_sub-bits, wrapping_mul_is, int_wrap-sub_right, int_wrap_fits}
use Rattle.integer.specs.Division.{rem_euclid}
use Rattle.integer.proofs.Reify.{ring, reify}
use Rattle.integer.proofs.Division.{div-rem-euclid, rem-euclid-lt}
use Rattle.integer.proofs.Fits.{fits-of, fits-size, size_fits}
use Rattle.snf_steps.proofs.gcd.rest.Goals as goal

cancelled : (x y : ℤ) → (x +ℤ y) -ℤ x ≡ y
cancelled x y = ring (x ∷ y ∷ []) (search reify depth 60 fits 100000) tt

pub returns : goal.returns
returns c =
    let a = c.args in
    let n = (of_z w64 a.q * of_z w64 a.d) % 2 ^ 64 in
    let rem = rem_euclid a.r a.d in
    let law : a.r -ℤ a.q *ℤ a.d ≡ rem = (λ i. sym (div-rem-euclid a.r a.d c.requires.0) i -ℤ c.requires.1 i *ℤ a.d) ∙ cancelled (c.requires.1 1 *ℤ a.d) rem in
    let fits : SFits w64 rem = fits-of refl (size_fits rem (lt_of_lt_of_le (rem-euclid-lt a.r a.d c.requires.0) (fits-size a.d (lt→ltb (mag a.d) 0x8000000000000000 c.ranges.d.sfits)))) in
    wrapping_sub-bits w64 (of_z w64 a.r) n (Fits-of_z c.ranges.r).fits (omega arith)
    ∙ (λ i. int_wrap w64 (to_z-of_z c.ranges.r i -ℤ wrapping_mul_is w64 a.q a.d c.ranges.q c.ranges.d i)) ∙ int_wrap-sub_right w64 a.r (a.q *ℤ a.d) ∙ ap (int_wrap w64) law
    ∙ int_wrap_fits w64 rem fits
