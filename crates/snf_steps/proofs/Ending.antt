-- `finalize` stays diagonal and keeps a = p · A · transpose q; in the end det p is 1.
use mathlib.Core.Path.{◌≡◌, refl, sym, ◌∙◌, ap, subst}
use mathlib.Core.Bool.{Bool, not, ◌&&◌}
use mathlib.Core.List.{[]}
use mathlib.Core.Logic.{inl, inr}
use Prim.Native.Nat.{ℕ, zero, ◌<◌}
use native.Mathlib.Omega.{arith}
use lib.Dec.{T, ltb→lt}
use lib.IntN.{ℤ, pos, negsuc, neg_ℤ, nat_abs, ◌*ℤ◌}
use lib.Signed.{lt_z}
use Rattle.std.specs.Prelude.{Option}
use Rattle.integer.proofs.Polynomial.{Expr, var, con, neg}
use Rattle.integer.proofs.Divides.{nonzero-factors}
use Rattle.common.specs.Matrix.{Axis, X, Y, Z, Vec, Mat, side, entry, transpose, ◌·◌, det, diagonal, negate}
use Rattle.common.specs.Array.{matrix_of}
use Rattle.common.specs.IntegerMatrix.{det_fits, negation_fits}
use Rattle.common.proofs.Matrix.{column, sides, diagonal_e, ◌⊡◌, solve_mat, negate-product, product-negate, negate-twice, det-diagonal, det-negate}
use Rattle.common.proofs.Unimodular.{Regular, Unimodular, unimodular-negate}
use Rattle.snf_steps.specs.Then.{when}
use Rattle.snf_steps.specs.Elementary.{elementary_swap_rows, elementary_flip_sign_row, elementary_disturb_rows}
use Rattle.snf_steps.specs.Columns.{multiply}
use Rattle.snf_steps.specs.Stages.{Triple, on_rows, on_columns, Outcome, first, second}
use Rattle.snf_steps.specs.Finalize.{make_positive, make_diag_positive, swap_diag_elems, order01, order12, finalize_sort, finalize_disturb, negate_pq, flip_pq, leaving, put_in_order, finalize}
use Rattle.snf_steps.proofs.Accepted.{Accepted, accepted, accepted-bind, accepted-map, accepted-provided, accepted-when}
use Rattle.snf_steps.proofs.RowOperations.{constant}
use Rattle.snf_steps.proofs.Keeping.{is-multiple-does, IsDiagonal, kept-regular, rows-multiplied, columns-multiplied}
use Rattle.snf_steps.proofs.Disturbance.{first_disturbed, second_disturbed, SoundDiagonal, FirstDisturbed, first-through, SecondDisturbed, second-through}

-- ---- what the elementary matrices do to a diagonal matrix
abbrev D : Mat Expr
D = diagonal_e (column 0)

module _ (v : Vec ℤ) where
  pub flip-0 : matrix_of (elementary_flip_sign_row 0) · diagonal v ≡ diagonal (record { x = neg_ℤ v.x; y = v.y; z = v.z })
  flip-0 = solve_mat (sides v []) (constant (matrix_of (elementary_flip_sign_row 0)) ⊡ D) (diagonal_e (record { x = neg (var 0); y = var 1; z = var 2 })) tt

  pub flip-1 : matrix_of (elementary_flip_sign_row 1) · diagonal v ≡ diagonal (record { x = v.x; y = neg_ℤ v.y; z = v.z })
  flip-1 = solve_mat (sides v []) (constant (matrix_of (elementary_flip_sign_row 1)) ⊡ D) (diagonal_e (record { x = var 0; y = neg (var 1); z = var 2 })) tt

  pub flip-2 : matrix_of (elementary_flip_sign_row 2) · diagonal v ≡ diagonal (record { x = v.x; y = v.y; z = neg_ℤ v.z })
  flip-2 = solve_mat (sides v []) (constant (matrix_of (elementary_flip_sign_row 2)) ⊡ D) (diagonal_e (record { x = var 0; y = var 1; z = neg (var 2) })) tt

  pub exchange-01 : transpose (matrix_of (elementary_swap_rows 0 1) · transpose (matrix_of (elementary_swap_rows 0 1) · diagonal v)) ≡ diagonal (record { x = v.y; y = v.x; z = v.z })
  exchange-01 =
      let S = constant (matrix_of (elementary_swap_rows 0 1)) in
      solve_mat (sides v []) (transpose (S ⊡ transpose (S ⊡ D))) (diagonal_e (record { x = var 1; y = var 0; z = var 2 })) tt

  pub exchange-12 : transpose (matrix_of (elementary_swap_rows 1 2) · transpose (matrix_of (elementary_swap_rows 1 2) · diagonal v)) ≡ diagonal (record { x = v.x; y = v.z; z = v.y })
  exchange-12 =
      let S = constant (matrix_of (elementary_swap_rows 1 2)) in
      solve_mat (sides v []) (transpose (S ⊡ transpose (S ⊡ D))) (diagonal_e (record { x = var 0; y = var 2; z = var 1 })) tt

  pub disturb-01 : transpose (matrix_of (elementary_disturb_rows 0 1) · transpose (diagonal v)) ≡ first_disturbed v.x v.y v.y v.z
  disturb-01 =
      let o = con (pos 0) in
      solve_mat (sides v []) (transpose (constant (matrix_of (elementary_disturb_rows 0 1)) ⊡ transpose D))
      (record { a = var 0; b = o; c = o; d = var 1; e = var 1; f = o; g = o; h = o; i = var 2 }) tt

  pub disturb-12 : transpose (matrix_of (elementary_disturb_rows 1 2) · transpose (diagonal v)) ≡ second_disturbed v.x v.y v.z v.z
  disturb-12 =
      let o = con (pos 0) in
      solve_mat (sides v []) (transpose (constant (matrix_of (elementary_disturb_rows 1 2)) ⊡ transpose D))
      (record { a = var 0; b = o; c = o; d = o; e = var 1; f = o; g = o; h = var 2; i = var 2 }) tt

-- ---- a determinant of 1 or -1 by its sign
positive-unit : (z : ℤ) → nat_abs z ≡ 1 → T (not (lt_z z (pos 0))) → z ≡ pos 1
positive-unit (pos n) e t = ap pos e
positive-unit (negsuc n) e t = absurd t

negative-unit : (z : ℤ) → nat_abs z ≡ 1 → T (lt_z z (pos 0)) → neg_ℤ z ≡ pos 1
negative-unit (pos n) e t = absurd (never n (ltb→lt n 0 t))
  where
    never : (n : ℕ) → n < 0 → ⊥
    never n l = omega arith
negative-unit (negsuc n) e t = ap pos e

-- the signs of both sides cancel
both-negated : (P A Q : Mat ℤ) → negate P · A · transpose (negate Q) ≡ P · A · transpose Q
both-negated P A Q =
    ap (λ m. m · negate (transpose Q)) (negate-product P A) ∙ product-negate (negate (P · A)) (transpose Q) ∙ ap negate (negate-product (P · A) (transpose Q)) ∙ negate-twice (P · A · transpose Q)

-- what `finalize` leaves
pub record Finalized (A : Mat ℤ) (s : Triple) : Type 0 where
  pub product : s.a ≡ s.p · A · transpose s.q
  pub det-p : det s.p ≡ pos 1
  pub unimodular-q : Unimodular s.q
  pub diagonal : IsDiagonal s.a

module _ (A : Mat ℤ) (r : Regular A) where
  -- ---- signs and order
  on-diagonal : (l : Mat ℤ) (s : Triple) → Unimodular l → ((v : Vec ℤ) → IsDiagonal (l · diagonal v)) → SoundDiagonal A s → Accepted (SoundDiagonal A) (on_rows (multiply l) s)
  on-diagonal l s u k v =
      accepted-map (rows-multiplied A l s u v.sound) (λ t q. record {
        sound = q.sound;
        diagonal = subst IsDiagonal (sym (q.is ∙ ap (λ m. l · m) v.diagonal.is)) (k v.diagonal.numbers);
      })

  make-diag-positive : (s : Triple) → SoundDiagonal A s → Accepted (SoundDiagonal A) (make_diag_positive s)
  unfolding make_diag_positive
  make-diag-positive s v =
      accepted-bind _ (accepted-bind _
      (row 0 s.a.a (record { unit = refl }) (λ v. record { numbers = record { x = neg_ℤ v.x; y = v.y; z = v.z }; is = flip-0 v }) s v)
      (λ s v. row 1 s.a.e (record { unit = refl }) (λ v. record { numbers = record { x = v.x; y = neg_ℤ v.y; z = v.z }; is = flip-1 v }) s v))
      (λ s v. row 2 s.a.i (record { unit = refl }) (λ v. record { numbers = record { x = v.x; y = v.y; z = neg_ℤ v.z }; is = flip-2 v }) s v)
    where
      row : (i : ℕ) (x : ℤ) → Unimodular (matrix_of (elementary_flip_sign_row i)) → ((v : Vec ℤ) → IsDiagonal (matrix_of (elementary_flip_sign_row i) · diagonal v))
          → (s : Triple) → SoundDiagonal A s → Accepted (SoundDiagonal A) (make_positive i x s)
      row i x u k s v = accepted-when (lt_z x (pos 0)) (on_rows (multiply (matrix_of (elementary_flip_sign_row i)))) s (λ _. on-diagonal (matrix_of (elementary_flip_sign_row i)) s u k v) (λ _. v)

  swap-diag-elems : (i j : ℕ) (s : Triple) → Unimodular (matrix_of (elementary_swap_rows i j))
      → ((v : Vec ℤ) → IsDiagonal (transpose (matrix_of (elementary_swap_rows i j) · transpose (matrix_of (elementary_swap_rows i j) · diagonal v))))
      → SoundDiagonal A s → Accepted (SoundDiagonal A) (swap_diag_elems i j s)
  swap-diag-elems i j s u k v =
      let l = matrix_of (elementary_swap_rows i j) in
      accepted-bind (on_columns (multiply l)) (rows-multiplied A l s u v.sound) (λ t p. accepted-map (columns-multiplied A l t u p.sound) (λ w q. record {
        sound = q.sound;
        diagonal = subst IsDiagonal (sym (q.is ∙ ap (λ m. transpose (l · transpose m)) (p.is ∙ ap (λ m. l · m) v.diagonal.is))) (k v.diagonal.numbers);
      }))

  finalize-sort : (s : Triple) → SoundDiagonal A s → Accepted (SoundDiagonal A) (finalize_sort s)
  unfolding finalize_sort
  finalize-sort s v = accepted-bind order01 (accepted-bind order12 (first_two s v) last-two) first_two
    where
      first_two : (s : Triple) → SoundDiagonal A s → Accepted (SoundDiagonal A) (order01 s)
      first_two s v =
          accepted-when (lt_z s.a.e s.a.a) (swap_diag_elems 0 1) s
          (λ _. swap-diag-elems 0 1 s (record { unit = refl }) (λ v. record { numbers = record { x = v.y; y = v.x; z = v.z }; is = exchange-01 v }) v) (λ _. v)

      last-two : (s : Triple) → SoundDiagonal A s → Accepted (SoundDiagonal A) (order12 s)
      last-two s v =
          accepted-when (lt_z s.a.i s.a.e) (swap_diag_elems 1 2) s
          (λ _. swap-diag-elems 1 2 s (record { unit = refl }) (λ v. record { numbers = record { x = v.x; y = v.z; z = v.y }; is = exchange-12 v }) v) (λ _. v)

  -- ---- disturbances
  -- by what they divide is never 0
  pub diagonal-nonzero : {s : Triple} → SoundDiagonal A s → (k : Axis) → zero < nat_abs (entry s.a k k)
  diagonal-nonzero {s} v k =
      let d = v.diagonal.numbers in
      subst (λ (m : Mat ℤ). zero < nat_abs (entry m k k)) (sym v.diagonal.is) (each d (subst (λ m. zero < nat_abs (det m)) v.diagonal.is (kept-regular A r v.sound.kept).nonzero) k)
    where
      each : (d : Vec ℤ) → zero < nat_abs (det (diagonal d)) → (k : Axis) → zero < nat_abs (entry (diagonal d) k k)
      each d h k =
          let xyz = nonzero-factors (d.x *ℤ d.y) d.z (subst (λ (z : ℤ). zero < nat_abs z) (det-diagonal (side d)) h) in
          let xy = nonzero-factors d.x d.y xyz.0 in
          axis k xy.0 xy.1 xyz.1
        where
          axis : (k : Axis) → zero < nat_abs d.x → zero < nat_abs d.y → zero < nat_abs d.z → zero < nat_abs (entry (diagonal d) k k)
          axis X x y z = x
          axis Y x y z = y
          axis Z x y z = z

  disturb-first : (s : Triple) → SoundDiagonal A s → Accepted (FirstDisturbed A) (finalize_disturb 0 1 s.a.a s.a.e s)
  unfolding finalize_disturb
  disturb-first s v =
      let l = matrix_of (elementary_disturb_rows 0 1) in
      let d = v.diagonal.numbers in
      let e = v.diagonal.is in
      accepted-bind _ (is-multiple-does s.a.e s.a.a) (λ b m.
      let n : zero < nat_abs d.x = subst (λ (k : Mat ℤ). zero < nat_abs k.a) e m.nonzero in
      accepted-when (not b) (on_columns (multiply l)) s
      (λ _. accepted-map (columns-multiplied A l s (record { unit = refl }) v.sound) (λ t q. record {
        sound = q.sound;
        x = d.x;
        y = d.y;
        z = d.y;
        w = d.z;
        is = q.is ∙ ap (λ m. transpose (l · transpose m)) e ∙ disturb-01 d;
        disturbance = inr refl;
        nonzero = n;
      }))
      (λ _. record { sound = v.sound; x = d.x; y = pos 0; z = d.y; w = d.z; is = e; disturbance = inl refl; nonzero = n }))

  disturb-second : (s : Triple) → SoundDiagonal A s → Accepted (SecondDisturbed A) (finalize_disturb 1 2 s.a.e s.a.i s)
  unfolding finalize_disturb
  disturb-second s v =
      let l = matrix_of (elementary_disturb_rows 1 2) in
      let d = v.diagonal.numbers in
      let e = v.diagonal.is in
      accepted-bind _ (is-multiple-does s.a.i s.a.e) (λ b m.
      let n : zero < nat_abs d.y = subst (λ (k : Mat ℤ). zero < nat_abs k.e) e m.nonzero in
      accepted-when (not b) (on_columns (multiply l)) s
      (λ _. accepted-map (columns-multiplied A l s (record { unit = refl }) v.sound) (λ t q. record {
        sound = q.sound;
        x = d.x;
        y = d.y;
        z = d.z;
        w = d.z;
        is = q.is ∙ ap (λ m. transpose (l · transpose m)) e ∙ disturb-12 d;
        disturbance = inr refl;
        nonzero = n;
      }))
      (λ _. record { sound = v.sound; x = d.x; y = d.y; z = pos 0; w = d.z; is = e; disturbance = inl refl; nonzero = n }))

  -- ---- the signs of p and q
  flip-p-q : (s : Triple) → SoundDiagonal A s → Accepted (Finalized A) (flip_pq s)
  unfolding flip_pq
  flip-p-q s v =
      let k = v.sound.kept in
      let negative = lt_z (det s.p) (pos 0) in
      accepted-bind (λ b. when b negate_pq s) (accepted-provided {P = λ b. negative ≡ b} (det_fits s.p) negative (λ _. refl)) (λ b e.
      accepted-when b negate_pq s
      (λ t. accepted-provided (negation_fits s.p && negation_fits s.q) (record { a = s.a; p = negate s.p; q = negate s.q }) (λ _. record {
        product = k.product ∙ sym (both-negated s.p A s.q);
        det-p = det-negate s.p ∙ negative-unit (det s.p) k.unimodular-p.unit (subst T (sym e) t);
        unimodular-q = unimodular-negate k.unimodular-q;
        diagonal = v.diagonal;
      }))
      (λ t. record {
        product = k.product;
        det-p = positive-unit (det s.p) k.unimodular-p.unit (subst (λ (b : Bool). T (not b)) (sym e) t);
        unimodular-q = k.unimodular-q;
        diagonal = v.diagonal;
      }))

  left-diagonal : (f : Triple → Option Outcome) (s : Triple) → Accepted (λ o. SoundDiagonal A o.left) (f s) → Accepted (SoundDiagonal A) (leaving f s)
  left-diagonal f s p = accepted-bind _ p (λ o v. accepted v)

  pub put-in-order : (s : Triple) → SoundDiagonal A s → Accepted (SoundDiagonal A) (put_in_order s)
  unfolding put_in_order
  put-in-order s v =
      let through = accepted-bind (leaving first) (accepted-bind _ (finalize-sort s v) disturb-first) (λ s v. left-diagonal first s (first-through A r s v)) in
      let sorted = accepted-bind finalize_sort through finalize-sort in
      accepted-bind (leaving second) (accepted-bind _ sorted disturb-second) (λ s v. left-diagonal second s (second-through A r s v))

  pub finalize-ends : (s : Triple) → SoundDiagonal A s → Accepted (Finalized A) (finalize s)
  unfolding finalize
  finalize-ends s v = accepted-bind flip_pq (accepted-bind put_in_order (make-diag-positive s v) put-in-order) flip-p-q
