-- Matrices that act on the grid: rotations of points by them compose as the matrices multiply.
use mathlib.Core.Path.{◌≡◌, sym, ◌∙◌, ap, subst}
use mathlib.Core.List.{[], ◌∷◌}
use lib.IntN.{ℤ, pos, ◌+ℤ◌, ◌*ℤ◌, ◌-ℤ◌, +ℤ_idl, +ℤ_idr}
use lib.Dec.{lit<}
use Prim.Native.Nat.{ℕ}
use Rattle.integer.specs.Divides.{Congruent}
use Rattle.integer.proofs.Polynomial.{Expr, con, add, mul}
use Rattle.integer.proofs.Reify.{ring, reify, zero-by, ◌∗◌, ◌⊹◌, eq-by}
use Rattle.integer.proofs.Divides.{divides-quot}
use Rattle.integer.proofs.Congruence.{congruent-by, congruent-is, congruent-refl, congruent-add}
use Rattle.common.specs.Matrix.{Axis, X, Y, Z, Vec, Mat, side, vector, entry, map_vec, ◌·◌, diagonal, identity, negate, ◌▹◌, entries, origin}
use Rattle.common.proofs.Matrix.{same-vector, at_entry, sides, column, solve_vec, 𝔸, 𝔹, ◌⊡◌, apply_e, diagonal-product, product-diagonal, negate-product, product-negate, apply-product, apply-identity}
use Rattle.grgrid.specs.Grid.{size, index, address, double, half, halve, rotate, carry}
pub use Rattle.grgrid.specs.MatrixGroup.{Shifts}
use Rattle.grgrid.proofs.Group.{Action}
use Rattle.grgrid.proofs.Folding.{Sides, Agree, agree-by, index-lt, index-address, address-agree, same_index}

-- ---- modulo d
abbrev pub grid : Vec ℕ → Mat ℤ
grid d = diagonal (map_vec pos d)

-- M carries multiples of d to multiples of d
pub record Acts (d : Vec ℕ) (M : Mat ℤ) : Type 0 where
  pub via : Mat ℤ
  pub whole : M · grid d ≡ grid d · via

pub acts-negate : {d : Vec ℕ} {M : Mat ℤ} → Acts d M → Acts d (negate M)
acts-negate {d} {M} w = record { via = negate w.via; whole = negate-product M (grid d) ∙ ap negate w.whole ∙ sym (product-negate (grid d) w.via) }

pub acts-agree : {d : Vec ℕ} {M : Mat ℤ} {u v : Vec ℤ} → Acts d M → Agree d u v → Agree d (M ▹ u) (M ▹ v)
acts-agree {d} {M} {u} {v} w a = agree-by (row u) (row v) (λ j. congruent-add (congruent-add (term j X) (term j Y)) (term j Z))
  where
    row : Vec ℤ → Axis → ℤ
    row u j = entry M j X *ℤ u.x +ℤ entry M j Y *ℤ u.y +ℤ entry M j Z *ℤ u.z

    carried : {e f x y : ℤ} (m n : ℤ) → m *ℤ f ≡ e *ℤ n → Congruent f x y → Congruent e (m *ℤ x) (m *ℤ y)
    carried {e} {f} {x} {y} m n h c =
        let t = c.apart.times in
        congruent-by (n *ℤ t) (eq-by (zero-by (congruent-is c) ∗ m ⊹ zero-by h ∗ t) (ring (e ∷ f ∷ m ∷ n ∷ x ∷ y ∷ t ∷ []) (search reify depth 40) tt))

    scaled : (j k : Axis) → entry M j k *ℤ pos (side d k) ≡ pos (side d j) *ℤ entry w.via j k
    scaled =
        at_entry (λ j k. entry M j k *ℤ pos (side d k)) (λ j k. pos (side d j) *ℤ entry w.via j k)
        (sym (product-diagonal M (λ k. pos (side d k))) ∙ w.whole ∙ diagonal-product (λ k. pos (side d k)) w.via)

    term : (j k : Axis) → Congruent (pos (side d j)) (entry M j k *ℤ side u k) (entry M j k *ℤ side v k)
    term j k = carried (entry M j k) (entry w.via j k) (scaled j k) (a.at k)

-- ---- the shift
-- a moved by t
abbrev pub moved : Vec ℤ → Vec ℤ → Vec ℤ
moved a t = vector (λ k. side a k +ℤ side t k)

agree-moved : {d : Vec ℕ} {u v : Vec ℤ} → Agree d u v → (t : Vec ℤ) → Agree d (moved u t) (moved v t)
agree-moved {d} {u} {v} a t = agree-by (λ k. side u k +ℤ side t k) (λ k. side v k +ℤ side t k) (λ k. congruent-add (a.at k) (congruent-refl (pos (side d k)) (side t k)))

moved_none : (a : Vec ℤ) → moved a origin ≡ a
moved_none a = same-vector {g = side a} (λ k. +ℤ_idr (side a k))

abbrev moved_e : Vec Expr → Vec Expr → Vec Expr
moved_e a t = vector (λ k. add (side a k) (side t k))

abbrev double_e : Vec Expr → Vec Expr → Vec Expr
double_e a ps = vector (λ k. add (mul (side a k) (con (pos 2))) (side ps k))

double-apply : (M : Mat ℤ) (a ps : Vec ℤ) → M ▹ double a ps ≡ double (M ▹ a) (M ▹ ps)
double-apply M a ps = solve_vec (entries M (sides a (sides ps []))) (apply_e 𝔸 (double_e (column 9) (column 12))) (double_e (apply_e 𝔸 (column 9)) (apply_e 𝔸 (column 12))) tt

double-double : (a t ps : Vec ℤ) → double a (double t ps) ≡ double (moved a t) ps
double-double a t ps = solve_vec (sides a (sides t (sides ps []))) (double_e (column 0) (double_e (column 3) (column 6))) (double_e (moved_e (column 0) (column 3)) (column 6)) tt

halve-double : (a ps : Vec ℤ) → halve (double a ps) ps ≡ a
halve-double a ps = same-vector {f = λ k. half (side a k *ℤ pos 2 +ℤ side ps k -ℤ side ps k)} {g = side a} (λ k. exact (side a k) (side ps k))
  where
    exact : (x p : ℤ) → half (x *ℤ pos 2 +ℤ p -ℤ p) ≡ x
    exact x p = divides-quot {a = x *ℤ pos 2 +ℤ p -ℤ p} {d = pos 2} (lit< tt) (record { times = x; is = ring (x ∷ p ∷ []) (search reify depth 40) tt })

module _ {ps : Vec ℤ} {M : Mat ℤ} (s : Shifts ps M) where
  shifts-double : (a : Vec ℤ) → M ▹ double a ps ≡ double (moved (M ▹ a) s.by) ps
  shifts-double a = double-apply M a ps ∙ ap (double (M ▹ a)) s.is ∙ double-double (M ▹ a) s.by ps

  -- then the rotation is M and a move
  pub rotate-moves : (d : Vec ℕ) (p : ℕ) → rotate d ps M p ≡ index d (moved (M ▹ address d p) s.by)
  unfolding rotate
  rotate-moves d p = ap (λ v. index d (halve v ps)) (shifts-double (address d p)) ∙ ap (index d) (halve-double (moved (M ▹ address d p) s.by) ps)

  abbrev shifts-product : {K : Mat ℤ} → Shifts ps K → Shifts ps (M · K)
  shifts-product {K} r = record { by = moved (M ▹ r.by) s.by; is = apply-product M K ps ∙ ap (λ v. M ▹ v) r.is ∙ shifts-double r.by }

abbrev shifts-identity : (ps : Vec ℤ) → Shifts ps identity
shifts-identity ps = record { by = origin; is = apply-identity ps ∙ sym (same-vector {g = side ps} (λ k. +ℤ_idl (side ps k))) }

-- ---- the action
module _ (d : Vec ℕ) (s : Sides d) (ps : Vec ℤ) where
  -- of a point by any of its addresses
  pub rotate-index : {M : Mat ℤ} → Acts d M → (t : Shifts ps M) (a : Vec ℤ) → rotate d ps M (index d a) ≡ index d (moved (M ▹ a) t.by)
  rotate-index w t a = rotate-moves t d (index d a) ∙ same_index d s (agree-moved (acts-agree w (address-agree d s a)) t.by)

  pub rotate-action : {P : Mat ℤ → Type 0} → ((M : Mat ℤ) → P M → Acts d M) → ((M : Mat ℤ) → P M → Shifts ps M) → Action ◌·◌ identity (size d) (rotate d ps) P
  unfolding rotate
  rotate-action w t = record {
    inside = λ M p k h. index-lt d s (halve (M ▹ double (address d p) ps) ps);
    one = λ p h. rotate-moves (shifts-identity ps) d p ∙ ap (index d) (moved_none (identity ▹ address d p) ∙ apply-identity (address d p)) ∙ index-address d s p h;
    times = λ M K p m k h.
        rotate-moves (shifts-product (t M m) (t K k)) d p ∙ ap (index d) (product M K (address d p) (t K k).by (t M m).by)
        ∙ sym (ap (rotate d ps M) (rotate-moves (t K k) d p) ∙ rotate-index (w M m) (t M m) (moved (K ▹ address d p) (t K k).by));
  }
    where
      product : (M K : Mat ℤ) (a u v : Vec ℤ) → moved ((M · K) ▹ a) (moved (M ▹ u) v) ≡ moved (M ▹ moved (K ▹ a) u) v
      product M K a u v =
          solve_vec (entries M (entries K (sides a (sides u (sides v []))))) (moved_e (apply_e (𝔸 ⊡ 𝔹) (column 18)) (moved_e (apply_e 𝔸 (column 21)) (column 24)))
          (moved_e (apply_e 𝔸 (moved_e (apply_e 𝔹 (column 18)) (column 21))) (column 24)) tt

-- ---- without a shift
abbrev pub shifts_none : (M : Mat ℤ) → Shifts origin M
shifts_none M = record { by = origin; is = solve_vec (entries M []) (apply_e 𝔸 (vector (λ k. con (pos 0)))) (double_e (vector (λ k. con (pos 0))) (vector (λ k. con (pos 0)))) tt }

pub rotate-plain : (d : Vec ℕ) (M : Mat ℤ) (p : ℕ) → rotate d origin M p ≡ carry d M p
unfolding carry
rotate-plain d M p = rotate-moves (shifts_none M) d p ∙ ap (index d) (moved_none (M ▹ address d p))

pub carry-action : (d : Vec ℕ) → Sides d → {P : Mat ℤ → Type 0} → ((M : Mat ℤ) → P M → Acts d M) → Action ◌·◌ identity (size d) (carry d) P
carry-action d s {P} w = subst (λ act. Action ◌·◌ identity (size d) act P) (λ t M p. rotate-plain d M p t) (rotate-action d s origin w (λ M k. shifts_none M))
