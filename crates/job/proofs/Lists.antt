-- What is left of a list of one value, and of a list from which three numbers come off the front.
use mathlib.Core.Path.{◌≡◌, sym, ◌∙◌, ap}
use mathlib.Core.List.{List, ◌++◌}
use Prim.Native.Nat.{ℕ, zero, suc, ◌+◌, ◌*◌, ◌-◌, ◌≤◌}
use native.Mathlib.Nat.{sub-zero, zero-sub, suc-sub-suc}
use native.Mathlib.Omega.{arith}
use lib.IntN.{ℤ}
use lib.ListN.{length, take, drop, replicate, length-append, length-drop}
use lib.Seq.{take_at, drop_at, drop-drop}

pub drop-replicate : {A : Type 0} (n k : ℕ) (a : A) → drop k (replicate n a) ≡ replicate (n - k) a
drop-replicate n zero a = ap (λ m. replicate m a) (sym (sub-zero n))
drop-replicate zero (suc k) a = ap (λ m. replicate m a) (sym (zero-sub (suc k)))
drop-replicate (suc n) (suc k) a = drop-replicate n k a ∙ ap (λ m. replicate m a) (sym (suc-sub-suc n k))

-- ---- those from place 3 * k on
module _ (l three more : List ℤ) (k : ℕ) {rest : List ℤ} (e : rest ≡ drop (3 * k) l) (p : rest ≡ three ++ more) (n : length three ≡ 3) where
  pub three-is : three ≡ take 3 (drop (3 * k) l)
  three-is = sym (take_at three more 3 n) ∙ ap (take 3) (sym p ∙ e)

  pub more-is : more ≡ drop (3 * (k + 1)) l
  more-is = sym (drop_at three more 3 n) ∙ ap (drop 3) (sym p ∙ e) ∙ drop-drop 3 (3 * k) l ∙ ap (λ m. drop m l) next
    where
      next : 3 * k + 3 ≡ 3 * (k + 1)
      next = omega arith

  pub three-in : 3 * k ≤ length l → 3 * (k + 1) ≤ length l
  three-in h = omega (arith, ap length (sym e ∙ p), length-append three more, length-drop (3 * k) l)
