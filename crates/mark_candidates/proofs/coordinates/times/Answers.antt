use mathlib.Core.Path.{◌≡◌}
use Prim.Native.Nat.{ℕ, ◌*◌, ◌≤◌}
use native.Mathlib.Nat.{mul-le-mul}
use lib.IntN.{ℤ, pos, nat_abs, ◌*ℤ◌}
use mir.Syntax.{w64}
use mir.Val.{SFits}
use Rattle.integer.proofs.Fits.{held}
use Rattle.integer.proofs.Plain.{plain, p_atom, fits-plain, plain-is}
use Rattle.mark_candidates.proofs.Counted.{counted}
use Rattle.mark_candidates.proofs.coordinates.times.Goals as goal

product : (a b : ℕ) → a ≤ 512 → b ≤ 512 → a * b ≤ 262144
product a b h k = mul-le-mul h k

module _ (u k : ℤ) (h : nat_abs u ≤ 131073) (l : nat_abs k ≤ 262144) where
  fits : SFits w64 (held u *ℤ k)
  fits = fits-plain (search (plain, p_atom) depth 12) tt

  exact : held (held u *ℤ k) ≡ u *ℤ k
  exact = plain-is (search (plain, p_atom) depth 12) tt

pub returns : goal.returns
returns c =
    let l = product c.args.a c.args.b c.requires.1 c.requires.2 in
    rw (counted (c.args.a * c.args.b) l) (exact c.args.u (pos (c.args.a * c.args.b)) c.requires.0 l)
