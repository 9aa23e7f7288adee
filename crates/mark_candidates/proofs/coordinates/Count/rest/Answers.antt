use mathlib.Core.Path.{◌≡◌, sym, ◌∙◌, ap, ap₂, subst}
use Prim.Native.Nat.{ℕ, ◌*◌, ◌<◌, ◌≤◌}
use native.Mathlib.Nat.{le_of_suc-le-suc, le_trans}
use native.Mathlib.Omega.{arith}
use lib.IntN.{ℤ, pos, nat_abs, ◌*ℤ◌, ◌-ℤ◌, pos-ne-negsuc}
use lib.Signed.{quot_z}
use mir.Syntax.{w64}
use mir.Val.{SFits}
use mir.Facts.{to_z-of_z}
use Rattle.integer.proofs.Parts.{difference}
use Rattle.integer.proofs.Size.{abs-between, abs-parts}
use Rattle.integer.proofs.Fits.{held, held-is}
use Rattle.integer.proofs.Quotient.{quot-sfits}
use Rattle.integer.proofs.Plain.{plain, p_atom, plain-is}
use Rattle.mark_candidates.specs.ScaledCoordinates.{outwards, rounded, rest}
use Rattle.mark_candidates.proofs.Rounding.{rounded-nearest, rest-size}
use Rattle.mark_candidates.proofs.coordinates.Count.rest.Goals as goal
use Rattle.mark_candidates.proofs.coordinates.Count.rest.Goals.{After-outwards}

module _ (n : ℕ) (some : 0 < n) (few : n ≤ 65536) (z : ℤ) (h : nat_abs z ≤ 110000000000000) where
  -- the multiple of 2n lies within n of z
  multiple-size : nat_abs (pos (2 * n) *ℤ rounded n z) ≤ 110000000065536
  multiple-size = within z (pos (2 * n) *ℤ rounded n z) h (le_trans (rounded-nearest n some z).near few)
    where
      within : (z p : ℤ) → nat_abs z ≤ 110000000000000 → nat_abs (z -ℤ p) ≤ 65536 → nat_abs p ≤ 110000000065536
      within z p h k = le_of_suc-le-suc (abs-between p 110000000065537 (omega (arith, difference z p, abs-parts z, abs-parts (z -ℤ p))))

  exact : held (held z -ℤ held (pos (2 * n) *ℤ rounded n z)) ≡ z -ℤ pos (2 * n) *ℤ rounded n z
  exact = by z (pos (2 * n) *ℤ rounded n z) h multiple-size
    where
      by : (z p : ℤ) → nat_abs z ≤ 110000000000000 → nat_abs p ≤ 110000000065536 → held (held z -ℤ held p) ≡ z -ℤ p
      by z p h k = plain-is (search (plain, p_atom) depth 12) tt

value : (c : After-outwards) → let k = held c.twice-k.result in held (held c.args.z -ℤ held (k *ℤ held (quot_z (held c.outwards.result) k))) ≡ rest c.args.self.n c.args.z
unfolding rest
value c =
    let n = c.args.self.n in
    let z = c.args.z in
    let k : held c.twice-k.result ≡ pos (2 * n) = held-is c.twice-k.result c.twice-k.type_inv ∙ c.twice-k.ensures in
    let e : c.outwards.result ≡ outwards n z = c.outwards.ensures ∙ ap (outwards n) (to_z-of_z c.ranges.z) in
    let o = held-is c.outwards.result c.outwards.type_inv ∙ e in
    let q : held (rounded n z) ≡ rounded n z = to_z-of_z (quot-sfits (outwards n z) (pos (2 * n)) (subst (SFits w64) e (record { sfits = c.outwards.type_inv })) (pos-ne-negsuc (2 * n) 0)) in
    ap₂ (λ k o. held (held z -ℤ held (k *ℤ held (quot_z o k)))) k o ∙ ap (λ r. held (held z -ℤ held (pos (2 * n) *ℤ r))) q ∙ exact n c.args.self.some c.args.self.few z c.requires

pub returns-clause-value : goal.returns-clause-value
returns-clause-value c = value (goal.at.returns-clause-value c).After-outwards

pub returns-clause-result_bound : goal.returns-clause-result_bound
returns-clause-result_bound c =
    let s = c.args.self in
    subst (λ r. nat_abs r ≤ 65536) (sym (value (goal.at.returns-clause-result_bound c).After-outwards)) (le_trans (rest-size s.n s.some c.args.z) s.few)
