-- One choice: the sum of three addresses, its size, and the reads of them.
use mathlib.Core.Path.{◌≡◌, refl, sym, ◌∙◌}
use mathlib.Core.Bool.{false, true≢false}
use mathlib.Core.List.{List}
use Prim.Native.Nat.{ℕ, ◌≤◌}
use lib.Dec.{T}
use lib.IntN.{ℤ, pos, nat_abs, ◌+ℤ◌}
use lib.ListN.{get_or}
use mir.Syntax.{w64}
use mir.Val.{SFits}
use Rattle.integer.proofs.Fits.{held}
use Rattle.integer.proofs.Plain.{plain, fits-plain, plain-is, plain-within}
use Rattle.integer.specs.Same.{same}
use Rattle.integer.proofs.Same.{same-eq}
use Rattle.common.specs.Matrix.{Vec, side, origin}
use Rattle.common.proofs.Matrix.{axes-of, same-vector}
use Rattle.common.specs.Array.{Sized}
use Rattle.common.proofs.Bounds.{p-sized}
use Rattle.common.specs.Tested.{◌then◌}
use Rattle.bztable.specs.Reading.{Read, got, address_at}
use Rattle.bz_triplets.specs.declared.choices.Step.{Step}
use Rattle.bz_triplets.specs.declared.choices.Step.TheVariants as step
use Rattle.bz_triplets.specs.BzTriplets.{Choice, Walk, sum_of, is_zero, tried_sum, try_read, try_at}
use Rattle.bz_triplets.specs.Code.TripletsView.{found_by, is_closed}

-- ---- the sum
module _ {a b c : List ℤ} (h : Sized 10000000000000 a × (Sized 10000000000000 b × Sized 10000000000000 c)) where
  module _ (n : ℕ) where
    pub two-fit : SFits w64 (held (get_or a n (pos 0)) +ℤ held (get_or b n (pos 0)))
    two-fit = let f = h.0 in let g = h.1.0 in fits-plain (search (plain, p-sized) depth 12) tt

    pub sum_fits : SFits w64 (held (held (get_or a n (pos 0)) +ℤ held (get_or b n (pos 0))) +ℤ held (get_or c n (pos 0)))
    sum_fits = let f = h.0 in let g = h.1.0 in let k = h.1.1 in fits-plain (search (plain, p-sized) depth 12) tt

    pub sum_is : held (held (held (get_or a n (pos 0)) +ℤ held (get_or b n (pos 0))) +ℤ held (get_or c n (pos 0))) ≡ get_or a n (pos 0) +ℤ get_or b n (pos 0) +ℤ get_or c n (pos 0)
    sum_is = let f = h.0 in let g = h.1.0 in let k = h.1.1 in plain-is (search (plain, p-sized) depth 12) tt

    pub sum-size : nat_abs (held (held (held (get_or a n (pos 0)) +ℤ held (get_or b n (pos 0))) +ℤ held (get_or c n (pos 0)))) ≤ 30000000000000
    sum-size = rw sum_is (let f = h.0 in let g = h.1.0 in let k = h.1.1 in plain-within {v = get_or a n (pos 0) +ℤ get_or b n (pos 0) +ℤ get_or c n (pos 0)} (search (plain, p-sized) depth 12) tt)

-- ---- a sum of zero
pub zero-sum : (g : Vec ℤ) → T (is_zero g) → g ≡ origin
zero-sum g t = same-vector {f = side g} {g = λ k. pos 0} (λ k. same-eq (side g k) (pos 0) (axes-of (λ k. same (side g k) (pos 0)) t k))

-- ---- the three addresses, while the walk goes on
module _ (w : Walk) (s : Step) (b : Choice) (o : is_closed s ≡ false) (p : Vec ℕ) where
  going : try_at w (got (found_by s b)) p ≡ try_read w (found_by s b) p
  unfolding try_at
  going = go s o
    where
      go : (s : Step) → is_closed s ≡ false → try_at w (got (found_by s b)) p ≡ try_read w (found_by s b) p
      go step.Empty h = refl
      go (step.Left x) h = refl
      go step.Closed h = absurd (true≢false h)

  pub choice-read : {x y z : Read (Vec ℤ)} → x ≡ address_at w.addresses p.x → y ≡ address_at w.addresses p.y → z ≡ address_at w.addresses p.z
      → (x then λ u. y then λ v. z then λ k. got (tried_sum w (found_by s b) p (sum_of u v k))) ≡ try_at w (got (found_by s b)) p
  choice-read d e f = (λ i. d i then λ u. e i then λ v. f i then λ k. got (tried_sum w (found_by s b) p (sum_of u v k))) ∙ sym going
