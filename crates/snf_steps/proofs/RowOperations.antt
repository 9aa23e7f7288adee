-- What each elementary matrix does to the rows of a matrix, and that its determinant is 1 or -1.
use mathlib.Core.Path.{◌≡◌, ◌∙◌, ap}
use mathlib.Core.List.{[], ◌∷◌}
use Prim.Native.Nat.{ℕ}
use lib.IntN.{ℤ, pos, neg_ℤ, nat_abs, ◌+ℤ◌, ◌*ℤ◌}
use Rattle.integer.proofs.Polynomial.{Expr, var, con, neg}
use Rattle.integer.proofs.Reify.{ring, reify}
use Rattle.common.specs.Matrix.{Axis, X, Y, Z, Mat, entry, entries, map_mat, Ops, integers, ◌·◌, det}
use Rattle.common.specs.Array.{matrix_of}
use Rattle.common.proofs.Matrix.{expressions, atoms, 𝔸, ◌⊡◌, solve_mat}
use Rattle.common.proofs.Unimodular.{Unimodular}
use Rattle.snf_steps.specs.Elementary as elementary
use Rattle.snf_steps.specs.Elementary.{elementary_swap_rows, elementary_flip_sign_row, elementary_add_rows, below_first, below_second}
use Rattle.snf_steps.proofs.Bezout.{Bezout}

-- rows i and j become s·i + t·j and u·j - v·i
abbrev pub combining : ℕ → ℕ → (s t u v : ℤ) → Mat ℤ
combining i j s t u v = matrix_of (elementary.combining i j s t (neg_ℤ v) u)

abbrev pub combining_by : ℕ → ℕ → {a b : ℤ} → Bezout a b → Mat ℤ
combining_by i j z = combining i j z.s z.t z.u z.v

-- ---- matrices by their rows
abbrev pub stack : {R : Type 0} → (x y z : Axis → R) → Mat R
stack x y z = record { a = x X; b = x Y; c = x Z; d = y X; e = y Y; f = y Z; g = z X; h = z Y; i = z Z }

module _ {R : Type 0} (o : Ops R) where
  -- s times one row and t times another
  abbrev pub mix : (s t : R) → (x y : Axis → R) → Axis → R
  mix s t x y k = o.plus (o.times s (x k)) (o.times t (y k))

  -- s times one row, added to another
  abbrev pub plus_times : R → (x y : Axis → R) → Axis → R
  plus_times s x y k = o.plus (o.times s (x k)) (y k)

abbrev zero_e : Expr
zero_e = con (pos 0)

abbrev one_e : Expr
one_e = con (pos 1)

-- ---- the rows
module _ (s t v u : ℤ) (m : Mat ℤ) where
  pub combine-01 : matrix_of (elementary.combining 0 1 s t v u) · m ≡ stack (mix integers s t (entry m X) (entry m Y)) (mix integers v u (entry m X) (entry m Y)) (entry m Z)
  combine-01 =
      let M = atoms 4 in
      solve_mat (s ∷ t ∷ v ∷ u ∷ entries m [])
      (record { a = var 0; b = var 1; c = zero_e; d = var 2; e = var 3; f = zero_e; g = zero_e; h = zero_e; i = one_e } ⊡ M)
      (stack (mix expressions (var 0) (var 1) (entry M X) (entry M Y)) (mix expressions (var 2) (var 3) (entry M X) (entry M Y)) (entry M Z)) tt

  pub combine-02 : matrix_of (elementary.combining 0 2 s t v u) · m ≡ stack (mix integers s t (entry m X) (entry m Z)) (entry m Y) (mix integers v u (entry m X) (entry m Z))
  combine-02 =
      let M = atoms 4 in
      solve_mat (s ∷ t ∷ v ∷ u ∷ entries m [])
      (record { a = var 0; b = zero_e; c = var 1; d = zero_e; e = one_e; f = zero_e; g = var 2; h = zero_e; i = var 3 } ⊡ M)
      (stack (mix expressions (var 0) (var 1) (entry M X) (entry M Z)) (entry M Y) (mix expressions (var 2) (var 3) (entry M X) (entry M Z))) tt

  pub combine-12 : matrix_of (elementary.combining 1 2 s t v u) · m ≡ stack (entry m X) (mix integers s t (entry m Y) (entry m Z)) (mix integers v u (entry m Y) (entry m Z))
  combine-12 =
      let M = atoms 4 in
      solve_mat (s ∷ t ∷ v ∷ u ∷ entries m [])
      (record { a = one_e; b = zero_e; c = zero_e; d = zero_e; e = var 0; f = var 1; g = zero_e; h = var 2; i = var 3 } ⊡ M)
      (stack (entry M X) (mix expressions (var 0) (var 1) (entry M Y) (entry M Z)) (mix expressions (var 2) (var 3) (entry M Y) (entry M Z))) tt

-- a matrix of numbers as expressions
abbrev pub constant : Mat ℤ → Mat Expr
constant m = map_mat con m

module _ (m : Mat ℤ) where
  pub swap-01 : matrix_of (elementary_swap_rows 0 1) · m ≡ stack (entry m Y) (entry m X) (entry m Z)
  swap-01 = solve_mat (entries m []) (constant (matrix_of (elementary_swap_rows 0 1)) ⊡ 𝔸) (stack (entry 𝔸 Y) (entry 𝔸 X) (entry 𝔸 Z)) tt

  pub swap-02 : matrix_of (elementary_swap_rows 0 2) · m ≡ stack (entry m Z) (entry m Y) (entry m X)
  swap-02 = solve_mat (entries m []) (constant (matrix_of (elementary_swap_rows 0 2)) ⊡ 𝔸) (stack (entry 𝔸 Z) (entry 𝔸 Y) (entry 𝔸 X)) tt

  pub swap-12 : matrix_of (elementary_swap_rows 1 2) · m ≡ stack (entry m X) (entry m Z) (entry m Y)
  swap-12 = solve_mat (entries m []) (constant (matrix_of (elementary_swap_rows 1 2)) ⊡ 𝔸) (stack (entry 𝔸 X) (entry 𝔸 Z) (entry 𝔸 Y)) tt

  pub flip-0 : matrix_of (elementary_flip_sign_row 0) · m ≡ stack (λ k. neg_ℤ (entry m X k)) (entry m Y) (entry m Z)
  flip-0 = solve_mat (entries m []) (constant (matrix_of (elementary_flip_sign_row 0)) ⊡ 𝔸) (stack (λ k. neg (entry 𝔸 X k)) (entry 𝔸 Y) (entry 𝔸 Z)) tt

  pub flip-1 : matrix_of (elementary_flip_sign_row 1) · m ≡ stack (entry m X) (λ k. neg_ℤ (entry m Y k)) (entry m Z)
  flip-1 = solve_mat (entries m []) (constant (matrix_of (elementary_flip_sign_row 1)) ⊡ 𝔸) (stack (entry 𝔸 X) (λ k. neg (entry 𝔸 Y k)) (entry 𝔸 Z)) tt

  pub flip-2 : matrix_of (elementary_flip_sign_row 2) · m ≡ stack (entry m X) (entry m Y) (λ k. neg_ℤ (entry m Z k))
  flip-2 = solve_mat (entries m []) (constant (matrix_of (elementary_flip_sign_row 2)) ⊡ 𝔸) (stack (entry 𝔸 X) (entry 𝔸 Y) (λ k. neg (entry 𝔸 Z k))) tt

module _ (x : ℤ) (m : Mat ℤ) where
  pub add-01 : matrix_of (elementary_add_rows 0 1 x) · m ≡ stack (plus_times integers x (entry m Y) (entry m X)) (entry m Y) (entry m Z)
  add-01 =
      let M = atoms 1 in
      solve_mat (x ∷ entries m []) (record { a = one_e; b = var 0; c = zero_e; d = zero_e; e = one_e; f = zero_e; g = zero_e; h = zero_e; i = one_e } ⊡ M)
      (stack (plus_times expressions (var 0) (entry M Y) (entry M X)) (entry M Y) (entry M Z)) tt

  pub add-02 : matrix_of (elementary_add_rows 0 2 x) · m ≡ stack (plus_times integers x (entry m Z) (entry m X)) (entry m Y) (entry m Z)
  add-02 =
      let M = atoms 1 in
      solve_mat (x ∷ entries m []) (record { a = one_e; b = zero_e; c = var 0; d = zero_e; e = one_e; f = zero_e; g = zero_e; h = zero_e; i = one_e } ⊡ M)
      (stack (plus_times expressions (var 0) (entry M Z) (entry M X)) (entry M Y) (entry M Z)) tt

  pub add-12 : matrix_of (elementary_add_rows 1 2 x) · m ≡ stack (entry m X) (plus_times integers x (entry m Z) (entry m Y)) (entry m Z)
  add-12 =
      let M = atoms 1 in
      solve_mat (x ∷ entries m []) (record { a = one_e; b = zero_e; c = zero_e; d = zero_e; e = one_e; f = var 0; g = zero_e; h = zero_e; i = one_e } ⊡ M)
      (stack (entry M X) (plus_times expressions (var 0) (entry M Z) (entry M Y)) (entry M Z)) tt

pub below-first : (u v : ℤ) (m : Mat ℤ) → matrix_of (below_first u v) · m ≡ stack (entry m X) (plus_times integers u (entry m X) (entry m Y)) (plus_times integers v (entry m X) (entry m Z))
below-first u v m =
    let M = atoms 2 in
    solve_mat (u ∷ v ∷ entries m []) (record { a = one_e; b = zero_e; c = zero_e; d = var 0; e = one_e; f = zero_e; g = var 1; h = zero_e; i = one_e } ⊡ M)
    (stack (entry M X) (plus_times expressions (var 0) (entry M X) (entry M Y)) (plus_times expressions (var 1) (entry M X) (entry M Z))) tt

pub below-second : (v : ℤ) (m : Mat ℤ) → matrix_of (below_second v) · m ≡ stack (entry m X) (entry m Y) (plus_times integers v (entry m Y) (entry m Z))
below-second v m =
    let M = atoms 1 in
    solve_mat (v ∷ entries m []) (record { a = one_e; b = zero_e; c = zero_e; d = zero_e; e = one_e; f = zero_e; g = zero_e; h = var 0; i = one_e } ⊡ M)
    (stack (entry M X) (entry M Y) (plus_times expressions (var 0) (entry M Y) (entry M Z))) tt

-- ---- the determinants
module _ (s t u v : ℤ) where
  det-01 : det (combining 0 1 s t u v) ≡ s *ℤ u +ℤ t *ℤ v
  det-01 = ring (s ∷ t ∷ u ∷ v ∷ []) (search reify depth 60 fits 100000) tt

  det-02 : det (combining 0 2 s t u v) ≡ s *ℤ u +ℤ t *ℤ v
  det-02 = ring (s ∷ t ∷ u ∷ v ∷ []) (search reify depth 60 fits 100000) tt

  det-12 : det (combining 1 2 s t u v) ≡ s *ℤ u +ℤ t *ℤ v
  det-12 = ring (s ∷ t ∷ u ∷ v ∷ []) (search reify depth 60 fits 100000) tt

module _ {a b : ℤ} (z : Bezout a b) where
  pub unimodular-01 : Unimodular (combining_by 0 1 z)
  unimodular-01 = record { unit = ap nat_abs (det-01 z.s z.t z.u z.v ∙ z.one) }

  pub unimodular-02 : Unimodular (combining_by 0 2 z)
  unimodular-02 = record { unit = ap nat_abs (det-02 z.s z.t z.u z.v ∙ z.one) }

  pub unimodular-12 : Unimodular (combining_by 1 2 z)
  unimodular-12 = record { unit = ap nat_abs (det-12 z.s z.t z.u z.v ∙ z.one) }

module _ (x : ℤ) where
  det-add-01 : det (matrix_of (elementary_add_rows 0 1 x)) ≡ pos 1
  det-add-01 = ring (x ∷ []) (search reify depth 60 fits 100000) tt

  det-add-02 : det (matrix_of (elementary_add_rows 0 2 x)) ≡ pos 1
  det-add-02 = ring (x ∷ []) (search reify depth 60 fits 100000) tt

  det-add-12 : det (matrix_of (elementary_add_rows 1 2 x)) ≡ pos 1
  det-add-12 = ring (x ∷ []) (search reify depth 60 fits 100000) tt

  pub unimodular-add-01 : Unimodular (matrix_of (elementary_add_rows 0 1 x))
  unimodular-add-01 = record { unit = ap nat_abs det-add-01 }

  pub unimodular-add-02 : Unimodular (matrix_of (elementary_add_rows 0 2 x))
  unimodular-add-02 = record { unit = ap nat_abs det-add-02 }

  pub unimodular-add-12 : Unimodular (matrix_of (elementary_add_rows 1 2 x))
  unimodular-add-12 = record { unit = ap nat_abs det-add-12 }

pub unimodular-below-first : (u v : ℤ) → Unimodular (matrix_of (below_first u v))
unimodular-below-first u v = record { unit = ap nat_abs (law u v) }
  where
    law : (u v : ℤ) → det (matrix_of (below_first u v)) ≡ pos 1
    law u v = ring (u ∷ v ∷ []) (search reify depth 60 fits 100000) tt

pub unimodular-below-second : (v : ℤ) → Unimodular (matrix_of (below_second v))
unimodular-below-second v = record { unit = ap nat_abs (law v) }
  where
    law : (v : ℤ) → det (matrix_of (below_second v)) ≡ pos 1
    law v = ring (v ∷ []) (search reify depth 60 fits 100000) tt
