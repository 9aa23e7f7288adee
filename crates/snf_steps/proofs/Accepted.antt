-- What holds of every result that is not an overflow.
use mathlib.Core.Path.{◌≡◌, subst}
use mathlib.Core.Bool.{Bool, true, false, not, cond}
use lib.Dec.{T}
use Rattle.std.specs.Prelude.{Option, Some, None}
use Rattle.integer.proofs.Test.{pick-cases}
use Rattle.snf_steps.specs.Then.{◌then◌, provided, when}

pub data Accepted {X : Type 0} (P : X → Type 0) : Option X → Type 0 where
  accepted : {x : X} → P x → Accepted P (Some x)
  overflowed : Accepted P None

-- read off a result that is known
module _ {X : Type 0} {P : X → Type 0} where
  of-ok : {x : X} → Accepted P (Some x) → P x
  of-ok (accepted p) = p

  pub accepted-is : {m : Option X} {x : X} → Accepted P m → m ≡ Some x → P x
  accepted-is p e = of-ok (subst (Accepted P) e p)

pub accepted-bind : {X Y : Type 0} {P : X → Type 0} {Q : Y → Type 0} {m : Option X} (f : X → Option Y) → Accepted P m → ((x : X) → P x → Accepted Q (f x)) → Accepted Q (m then f)
accepted-bind f (accepted {x} p) k = k x p
accepted-bind f overflowed k = overflowed

-- two steps after a result
pub accepted-two : {X : Type 0} {P Q : X → Type 0} {m : Option X} (f g : X → Option X) → Accepted P m → ((x : X) → P x → Accepted Q (f x then g)) → Accepted Q (m then f then g)
accepted-two f g (accepted {x} p) k = k x p
accepted-two f g overflowed k = overflowed

module _ {X : Type 0} {P : X → Type 0} where
  pub accepted-map : {Q : X → Type 0} {m : Option X} → Accepted P m → ((x : X) → P x → Q x) → Accepted Q m
  accepted-map (accepted {x} p) k = accepted (k x p)
  accepted-map overflowed k = overflowed

  pub accepted-both : {Q : X → Type 0} {m : Option X} → Accepted P m → Accepted Q m → Accepted (λ x. P x × Q x) m
  accepted-both (accepted p) (accepted q) = accepted (p, q)
  accepted-both overflowed overflowed = overflowed

  pub accepted-provided : (b : Bool) (x : X) → (T b → P x) → Accepted P (provided b x)
  accepted-provided true x h = accepted (h tt)
  accepted-provided false x h = overflowed

  pub accepted-pick : (b : Bool) (x y : Option X) → (T b → Accepted P x) → (T (not b) → Accepted P y) → Accepted P (cond b x y)
  accepted-pick b x y h k = pick-cases b x y (Accepted P) h k

  pub accepted-when : (b : Bool) (f : X → Option X) (x : X) → (T b → Accepted P (f x)) → (T (not b) → P x) → Accepted P (when b f x)
  accepted-when true f x h k = h tt
  accepted-when false f x h k = accepted (k tt)
