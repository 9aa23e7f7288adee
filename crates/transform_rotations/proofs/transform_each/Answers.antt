use mathlib.Core.Path.{◌≡◌, sym, ◌∙◌, ap}
use mathlib.Core.List.{[]}
use Prim.Native.Nat.{ℕ, ◌*◌, ◌/◌, ◌%◌, ◌≤◌}
use native.Mathlib.Omega.{arith}
use native.Mathlib.Nat.{div-add-mod}
use lib.Seq.{sets}
use Rattle.std.specs.Prelude.{Err}
use Rattle.std.proofs.lemmas.Result.{err_from_is_err_and}
use lib.Dec.{T, eqb, eqb→eq}
use lib.ListN.{length}
use borrow.Author.Rules.{rules}
use Rattle.common.specs.FloatMatrix.{float_vector, float_matrix}
use Rattle.common.specs.Array.{matrix_of, rows, matrix_at}
use Rattle.common.specs.Matrix.{entries}
use Rattle.common.specs.Tested.{require, Accepted}
use Rattle.common.specs.declared.Refusal.TheVariants.{SymmetryBroken}
use Rattle.common.proofs.Tests.{not-accepted}
use Rattle.transform_rotations.specs.Transform.{to_d, is_whole}
use Rattle.transform_rotations.specs.Code.Steps.{transform_over, transform_by}
use Rattle.transform_rotations.proofs.Turns.{turn, kept, dropped, turned_none, turned_on, broken, all_whole_lem, all_listed}
use Rattle.transform_rotations.proofs.transform_each.Goals as goal

-- whole matrices leave no place after the last
ended : (m n : ℕ) {k : ℕ} → T (eqb (m % 9) 0) → m / 9 ≤ n → k ≡ m → k ≤ n * 9
ended m n t h e = let z : m % 9 ≡ 0 = eqb→eq (m % 9) 0 t in omega (arith, div-add-mod m 9)

pub loop-n-init : goal.loop-n-init
loop-n-init c =
    let a = c.args in
    turned_none (transform_by (float_matrix a.q_inv) (float_matrix a.q) (float_vector a.d)) a.rotations.list.now (length a.rotations.list.now / 9) a.out.now

pub returns-in_err-rounded : goal.returns-in_err-rounded
returns-in_err-rounded c =
    let s = c.args in
    let l = c.loop-n in
    let g = transform_by (float_matrix s.q_inv) (float_matrix s.q) (float_vector s.d) in
    let m = matrix_at s.rotations.list.now l.n in
    let e = c.transform.ensures ∙ ap (λ r. rows (transform_over (float_matrix s.q_inv) (float_matrix s.q) (float_vector s.d) (float_matrix r))) (c.to_d.ensures ∙ ap (λ m. rows (to_d (matrix_of m))) c.at.ensures) in
    let t = dropped (is_whole (g m)) _ _ _ (c.in_err-rounded.ensures ∙ ap (λ m. turn (float_matrix m)) e) in
    let r = err_from_is_err_and c.from_residual.result c.from_residual.ensures.1 in
    let b = broken g s.rotations.list.now (length s.rotations.list.now / 9) l.n (search rules) l.invariant t.0 in
    record {
      value = rw (r.1, r.2) (ap Err t.1 ∙ sym (ap (λ b. require b SymmetryBroken Accepted) b));
      out_after = λ h. absurd (not-accepted (sym r.1 ∙ h));
    }

pub loop-n-preserved : goal.loop-n-preserved
loop-n-preserved c =
    let s = c.args in
    let l = c.loop-n in
    let g = transform_by (float_matrix s.q_inv) (float_matrix s.q) (float_vector s.d) in
    let m = matrix_at s.rotations.list.now l.n in
    let e = c.transform.ensures ∙ ap (λ r. rows (transform_over (float_matrix s.q_inv) (float_matrix s.q) (float_vector s.d) (float_matrix r))) (c.to_d.ensures ∙ ap (λ m. rows (to_d (matrix_of m))) c.at.ensures) in
    let t = kept (is_whole (g m)) _ _ _ (c.in_ok-rounded.ensures ∙ ap (λ m. turn (float_matrix m)) e) in
    turned_on g s.rotations.list.now (length s.rotations.list.now / 9) l.n (search rules) l.invariant (search rules) t.0
    (c.store.ensures ∙ ap (λ k. sets l.out (l.n * 9) (entries (matrix_of k) [])) t.1)

pub returns : goal.returns
returns c =
    let s = c in
    let l = c.loop-n in
    let g = transform_by (float_matrix s.args.q_inv) (float_matrix s.args.q) (float_vector s.args.d) in
    let n = length s.args.rotations.list.now in
    let over : n / 9 ≤ l.n = search rules in
    record {
      value = ap (λ b. require b SymmetryBroken Accepted) (all_whole_lem g s.args.rotations.list.now (n / 9) l.n over l.invariant);
      out_after = λ _. all_listed g s.args.rotations.list.now (n / 9) l.n over l.invariant (ended n l.n s.requires.whole over (search rules));
    }
