use Rattle.std.proofs.Common.{ℤ, pos, nat_abs, ◌+ℤ◌, ◌*ℤ◌, ◌-ℤ◌, ◌<◌, ◌≤◌, ◌≡◌, List, [], ◌∷◌, ◌∙◌}
use lib.Dec.{lit≤}
use lib.Signed.{mag}
use Rattle.integer.proofs.Fits.{held, held-is}
use Rattle.common.proofs.Bounds.{entry-held, held-size}
use Rattle.common.proofs.Sized.{apply-fits, apply-sized}
use Rattle.common.specs.Array.{axis_index, along, vector_of, items, matrix_of, Sized}
use Rattle.common.specs.Matrix.{Axis, X, Y, Z, vector, ◌▹◌}
use Rattle.bzsearch.specs.declared.types.BzSearch.{BzSearch}
use Rattle.bzsearch.proofs.Sizes.{held-sized, side-held, side-whole}
use Rattle.bzsearch.proofs.types.BzSearch.set_bz_address.Goals as goal
use Rattle.bzsearch.proofs.types.BzSearch.set_bz_address.Goals.{After-matvec_ii-delta}

-- how far the address is moved
module _ (c : After-matvec_ii-delta) where
  abbrev s : BzSearch
  s = c.args.self

  abbrev away : List ℤ
  away = items (vector (λ k. along c.args.m.v k -ℤ along c.args.nint.v k))

  abbrev delta : Axis → ℤ
  delta k = along (items (matrix_of s.q_inv.m ▹ vector_of away)) k

  is : c.matvec_ii-delta.result ≡ items (vector delta)
  is = c.matvec_ii-delta.ensures ∙ (λ i. items (matrix_of s.q_inv.m ▹ vector_of (c.difference.ensures i)))

  sized : Sized 30000000000 c.matvec_ii-delta.result
  sized = rw c.matvec_ii-delta.ensures (apply-sized 2000000 4112 (matrix_of s.q_inv.m) s.q_inv.within c.difference.result.sized (lit≤ tt))

  asks : (k : Axis) → (nat_abs (held (along c.args.address.v k)) ≤ 256) × (nat_abs (held (along c.matvec_ii-delta.result k)) ≤ 30000000000) × (nat_abs (held (along s.d_diag k)) ≤ 256)
  asks k = (held-size c.args.address.sized (axis_index k) tt, held-size sized (axis_index k) tt, held-sized s.d_diag s.diagonal k)

  moved : (k : Axis) (r : ℤ) → mag r < 0x8000000000000000 → r ≡ held (along c.args.address.v k) +ℤ held (along c.matvec_ii-delta.result k) *ℤ held (along s.d_diag k)
      → held r ≡ along c.args.address.v k +ℤ along (items (vector delta)) k *ℤ pos (nat_abs (along s.d_diag k))
  moved k r ok e =
      let at = side-held s.d_diag s.diagonal k ∙ side-whole s.d_diag s.diagonal k in
      let by = entry-held sized (axis_index k) tt ∙ (λ i. along (is i) k) in
      held-is r ok ∙ e ∙ (λ i. entry-held c.args.address.sized (axis_index k) tt i +ℤ by i *ℤ at i)

pub matvec_ii-delta-requires : goal.matvec_ii-delta-requires
matvec_ii-delta-requires c = apply-fits 2000000 4112 (matrix_of c.args.self.q_inv.m) c.args.self.q_inv.within c.difference.result.sized (lit≤ tt)

pub moved_by-requires : goal.moved_by-requires
moved_by-requires c = asks (goal.at.moved_by-requires c).After-matvec_ii-delta X

pub moved_by-requires-2 : goal.moved_by-requires-2
moved_by-requires-2 c = asks (goal.at.moved_by-requires-2 c).After-matvec_ii-delta Y

pub moved_by-requires-3 : goal.moved_by-requires-3
moved_by-requires-3 c = asks (goal.at.moved_by-requires-3 c).After-matvec_ii-delta Z

pub returns : goal.returns
returns c =
    let at = moved (goal.at.returns c).After-matvec_ii-delta in
    let f0 = at X c.moved_by.result c.moved_by.type_inv c.moved_by.ensures in
    let f1 = at Y c.moved_by-2.result c.moved_by-2.type_inv c.moved_by-2.ensures in
    let f2 = at Z c.moved_by-3.result c.moved_by-3.type_inv c.moved_by-3.ensures in
    λ i. f0 i ∷ f1 i ∷ f2 i ∷ []
