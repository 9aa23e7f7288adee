-- The operations that keep q0: their classes, those of the partners joined where q1 and q2 may be swapped. With the list of demand 3, the class map at q0 tells them.
use mathlib.Core.Path.{◌≡◌, refl, sym, ◌∙◌, ap, subst}
use mathlib.Core.Logic.{◌⊎◌, inl, inr, ⊎_elim, ◌↔◌}
use mathlib.Core.Bool.{Bool, true, false}
use mathlib.Core.List.Memᴰ.{append_cases}
use mathlib.Core.List.Memᴰ.{append_left}
use mathlib.Core.List.Memᴰ.{append_right}
use mathlib.Core.List.{List, [], ◌++◌, map}
use Prim.Native.Nat.{ℕ, ◌<◌}
use lib.Dec.{T, eqb, eqb→eq, eqb_refl}
use lib.IntN.{ℤ, pos, neg_ℤ, ◌-ℤ◌}
use lib.ListN.{get_or}
use Rattle.integer.proofs.Polynomial.{Expr, sub, neg}
use Rattle.integer.proofs.Congruence.{congruent-add, congruent-neg}
use Rattle.common.specs.Matrix.{Vec, Mat, side, vector, ◌·◌, identity, negate, ◌▹◌, entries}
use Rattle.common.proofs.Matrix.{sides, column, solve_vec, 𝔸, apply_e}
use Rattle.grgrid.specs.Grid.{size, index, address, carry}
use Rattle.grgrid.specs.ClassMap.{classes}
use Rattle.grgrid.specs.Own.{own_places}
use Rattle.grgrid.proofs.Lists.{◌∈◌}
use Rattle.grgrid.proofs.Picked.{in-passing, of-passing}
use Rattle.grgrid.proofs.Pass.{Equiv}
use Rattle.grgrid.specs.Orbits.{Keeps}
use Rattle.grgrid.proofs.Group.{Group, orbit-equiv, keeps-group}
use Rattle.grgrid.proofs.Folding.{Sides, Agree, agree-by, index-lt, index-address, address-agree, same_index}
use Rattle.grgrid.proofs.Acting.{Acts, acts-agree, carry-action}
use Rattle.grgrid.proofs.MatrixGroup.{MatrixGroup, grouped, joined-acts}
use Rattle.grgrid.proofs.Classes.{plain-classes}
use Rattle.grgrid.proofs.Count.{Classified}
use Rattle.recip_rotations.specs.PointGroup.{joins, point_group, with_negatives}
use Rattle.recip_rotations.proofs.Told.{unique-distinct, told-group}
use Rattle.triplet_grid.specs.Partner.{stabilizer, third, partner}
use Rattle.triplet_grid.specs.Classes.{Operation, Carries, Joined, Meets}
use Rattle.triplet_grid.specs.IrTriplets.{map_q_of, map_triplets_of, classes_at}
use Rattle.triplet_grid.proofs.Joining.{Partner, joined_meets, triplet-classes}

-- ---- the members of the stabilizer
pub in-stabilizer : (d : Vec ℕ) (q0 : ℕ) {M : Mat ℤ} (l : List (Mat ℤ)) → (M ∈ stabilizer d q0 l) ↔ Keeps (carry d) (λ M. M ∈ l) q0 M
unfolding stabilizer
in-stabilizer d q0 {M} l = (
  λ k. let r = of-passing keeps l k in (r.0, eqb→eq (carry d M q0) q0 r.1),
  λ k. in-passing keeps l k.0 (rw k.1 (eqb_refl q0)),
)
  where
    keeps : Mat ℤ → Bool
    keeps m = eqb (carry d m q0) q0

-- ---- the partner
abbrev third_e : Vec Expr → Vec Expr → Vec Expr
third_e u v = vector (λ k. sub (neg (side u k)) (side v k))

third-twice : (u v : Vec ℤ) → third u (third u v) ≡ v
third-twice u v = solve_vec (sides u (sides v [])) (third_e (column 0) (third_e (column 0) (column 3))) (column 3) tt

third-apply : (M : Mat ℤ) (u v : Vec ℤ) → M ▹ third u v ≡ third (M ▹ u) (M ▹ v)
third-apply M u v = solve_vec (entries M (sides u (sides v []))) (apply_e 𝔸 (third_e (column 9) (column 12))) (third_e (apply_e 𝔸 (column 9)) (apply_e 𝔸 (column 12))) tt

agree-third : {d : Vec ℕ} {u v s t : Vec ℤ} → Agree d u s → Agree d v t → Agree d (third u v) (third s t)
agree-third {d} {u} {v} {s} {t} a b =
    agree-by (λ k. neg_ℤ (side u k) -ℤ side v k) (λ k. neg_ℤ (side s k) -ℤ side t k) (λ k. congruent-add (congruent-neg (a.at k)) (congruent-neg (b.at k)))

module _ (d : Vec ℕ) (s : Sides d) where
  at-index : (a : Vec ℤ) {p : ℕ} → index d a ≡ p → Agree d (address d p) a
  at-index a e = subst (λ (p : ℕ). Agree d (address d p) a) e (address-agree d s a)

  -- by any addresses of the two points
  pub partner-index : (a b : Vec ℤ) {q p : ℕ} → index d a ≡ q → index d b ≡ p → index d (third a b) ≡ partner d q p
  unfolding partner
  partner-index a b e f = sym (same_index d s (agree-third (at-index a e) (at-index b f)))

  module _ (q0 : ℕ) (h : q0 < size d) where
    pub partner-inside : (p : ℕ) → partner d q0 p < size d
    unfolding partner
    partner-inside p = index-lt d s (third (address d q0) (address d p))

    pub partner-twice : (p : ℕ) → p < size d → partner d q0 (partner d q0 p) ≡ p
    unfolding partner
    partner-twice p k =
        let u = address d q0 in
        let v = address d p in
        sym (partner-index u (third u v) (index-address d s q0 h) refl) ∙ ap (index d) (third-twice u v) ∙ index-address d s p k

    -- an operation that keeps q0 carries partners to partners
    pub partner-carry : (M : Mat ℤ) → Acts d M → carry d M q0 ≡ q0 → (p : ℕ) → carry d M (partner d q0 p) ≡ partner d q0 (carry d M p)
    unfolding carry partner
    partner-carry M w e p =
        let u = address d q0 in
        let v = address d p in
        same_index d s (acts-agree w (address-agree d s (third u v))) ∙ ap (index d) (third-apply M u v) ∙ partner-index (M ▹ u) (M ▹ v) e refl

-- ---- the classes at q0, where L lists the operations P
same-group : {A : Type 0} {op : A → A → A} {e : A} {P Q : A → Type 0} → ((x : A) → P x ↔ Q x) → Group op e P → Group op e Q
same-group {op = op} {e = e} i g = record {
  one = (i e).0 g.one;
  times = λ x y k l. (i (op x y)).0 (g.times x y ((i x).1 k) ((i y).1 l));
  inverse = λ x k. let r = g.inverse x ((i x).1 k) in (r.0, (i r.0).0 r.1, r.2);
}

module _ (d : Vec ℕ) (s : Sides d) {L : List (Mat ℤ)} (m : MatrixGroup L) {P : Mat ℤ → Type 0} (i : (M : Mat ℤ) → (M ∈ L) ↔ P M) (w : (M : Mat ℤ) → P M → Acts d M)
    (q0 : ℕ) (h : q0 < size d) where
  keepers : Group ◌·◌ identity (Keeps (carry d) P q0)
  unfolding carry
  keepers = keeps-group (same-group i (grouped m)) (carry-action d s w) q0 h

  pub carries-equiv : Equiv (size d) (Carries d P q0)
  unfolding carry
  carries-equiv = orbit-equiv keepers (carry-action d s (λ M k. w M k.0))

  pub carries-partner : Partner (size d) (Carries d P q0) (partner d q0)
  carries-partner = record {
    inside = λ p k. partner-inside d s q0 h p;
    twice = partner-twice d s q0 h;
    moves = λ p q k o. record { by = o.by; is-in = o.is-in; lands = partner-carry d s q0 h o.by (w o.by o.is-in.0) o.is-in.1 p ∙ ap (partner d q0) o.lands };
  }

  pub point-classes : Classified (size d) (Carries d P q0) (map_q_of d q0 L) (own_places (map pos (map_q_of d q0 L)) (size d))
  unfolding map_q_of carry classes
  point-classes = plain-classes d s keepers (λ M k. w M k.0) (stabilizer d q0 L) members
    where
      members : (M : Mat ℤ) → (M ∈ stabilizer d q0 L) ↔ Keeps (carry d) P q0 M
      members M = let r = in-stabilizer d q0 L in (λ k. ((i M).0 (r.0 k).0, (r.0 k).1), λ k. r.1 ((i M).1 k.0, k.1))

  pub swapped-classes : (swappable : Bool) → let numbers = map_triplets_of swappable d q0 (map_q_of d q0 L) in
      Classified (size d) (Joined swappable (Carries d P q0) (partner d q0)) numbers (own_places (map pos numbers) (size d))
  swapped-classes swappable = triplet-classes swappable d q0 carries-equiv carries-partner point-classes

-- ---- the class call
pub joined-operations : (time_reversal : Bool) (l : List (Mat ℤ)) (M : Mat ℤ) → (M ∈ with_negatives time_reversal l) ↔ Operation time_reversal l M
joined-operations time_reversal l M = step (joins time_reversal l)
  where
    step : (b : Bool) → (M ∈ elim b [ true ↦ l ++ map negate l | false ↦ l ]) ↔ ((M ∈ l) ⊎ (T b × (M ∈ map negate l)))
    step true = (λ k. ⊎_elim inl (λ j. inr (tt, j)) (append_cases l k), ⊎_elim (append_left (map negate l)) (λ k. append_right l k.1))
    step false = (inl, ⊎_elim (λ k. k) (λ k. absurd k.0))

module _ (time_reversal : Bool) {l : List (Mat ℤ)} (m : MatrixGroup l) where
  pub operations : (M : Mat ℤ) → (M ∈ point_group l time_reversal false) ↔ Operation time_reversal l M
  unfolding point_group
  operations M = rw (unique-distinct l m.distinct) (joined-operations time_reversal l M)

  module _ (d : Vec ℕ) (s : Sides d) (w : (M : Mat ℤ) → M ∈ l → Acts d M) (q0 : ℕ) (h : q0 < size d) (swappable : Bool) where
    acts : (M : Mat ℤ) → Operation time_reversal l M → Acts d M
    acts M k = ⊎_elim (w M) (λ j. joined-acts w M (append_right l j.1)) k

    abbrev numbers : List ℕ
    numbers = map_triplets_of swappable d q0 (classes_at q0 d l time_reversal)

    -- an operation that keeps q0 carries p to q
    abbrev carried : ℕ → ℕ → Type 0
    carried = Carries d (Operation time_reversal l) q0

    pub call-classes : Classified (size d) (Joined swappable carried (partner d q0)) numbers (own_places (map pos numbers) (size d))
    unfolding classes_at
    call-classes = swapped-classes d s (told-group l m time_reversal false) operations acts q0 h swappable

    -- two points bear one number exactly if an operation that keeps q0 carries one to the other or, with swapping, to the other's partner
    pub call-meets : (p q : ℕ) → p < size d → q < size d → (get_or numbers p 0 ≡ get_or numbers q 0) ↔ Meets swappable carried (partner d q0) p q
    call-meets p q j k =
        let g = told-group l m time_reversal false in
        let one = call-classes.one_number p q j k in
        let two = joined_meets (carries-equiv d s g operations acts q0 h) (carries-partner d s g operations acts q0 h) swappable p q j k in
        (λ e. two.0 (one.0 e), λ e. one.1 (two.1 e))
