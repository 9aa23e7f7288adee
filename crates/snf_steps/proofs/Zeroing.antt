-- Multiplying a and its companion from the left; and one entry of a column made 0 by another.
use mathlib.Core.Path.{◌≡◌, refl, sym, ◌∙◌, ap, ap₂, subst}
use mathlib.Core.Bool.{not, ◌&&◌}
use mathlib.Core.Logic.{◌⊎◌, inl, inr}
use Prim.Native.Nat.{ℕ, zero, ◌^◌, ◌≤◌, ◌<◌}
use lib.Dec.{T}
use lib.IntN.{ℤ, pos, neg_ℤ, nat_abs}
use Rattle.std.specs.Prelude.{Some}
use Rattle.integer.specs.Checked.{is_zero}
use Rattle.integer.proofs.Test.{and_l}
use Rattle.integer.proofs.Ring.{neg-*ℤ}
use Rattle.integer.proofs.Order.{NonNeg}
use Rattle.integer.proofs.Size.{zero_test, nonzero-test}
use Rattle.integer.proofs.Divides.{divides-quot}
use Rattle.common.specs.Matrix.{Mat, ◌·◌, identity}
use Rattle.common.specs.Array.{matrix_of}
use Rattle.common.specs.IntegerMatrix.{product_fits}
use Rattle.common.proofs.Matrix.{product-assoc, identity-product}
use Rattle.common.proofs.Unimodular.{Unimodular, unimodular-product}
use Rattle.snf_steps.specs.Then.{◌then◌}
use Rattle.snf_steps.specs.Gcd.{extended_gcd}
use Rattle.snf_steps.specs.Elementary.{combining, set_zero_fits}
use Rattle.snf_steps.specs.declared.columns.Combination.{Combination}
use Rattle.snf_steps.specs.Columns.{Pair, multiply, combination, combination_matrix, make_zero}
use Rattle.snf_steps.proofs.Accepted.{Accepted, accepted, accepted-bind, accepted-map, accepted-both, accepted-provided, accepted-pick}
use Rattle.snf_steps.proofs.FittingEntries.{Fits, product-fits}
use Rattle.snf_steps.proofs.Bezout.{extended-gcd, Bezout, bezout, bezout-zero}
use Rattle.snf_steps.proofs.GcdSign.{GcdSign, gcd-sign}
use Rattle.snf_steps.proofs.RowOperations as rows
use Rattle.snf_steps.proofs.RowOperations.{combining_by}

-- ---- from the left
abbrev pub multiplied : Mat ℤ → Pair → Pair
multiplied l s = record { a = l · s.a; p = l · s.p }

pub record Multiplied (l : Mat ℤ) (s t : Pair) : Type 0 where
  pub is : t ≡ multiplied l s
  pub fits : Fits t.a

pub multiply-does : (l : Mat ℤ) (s : Pair) → Accepted (Multiplied l s) (multiply l s)
unfolding multiply
multiply-does l s =
    accepted-provided (product_fits l s.a && product_fits l s.p) (multiplied l s)
    (λ t. record { is = refl; fits = product-fits l s.a (and_l (product_fits l s.a) (product_fits l s.p) t) })

-- t is s multiplied by a matrix with a determinant of 1 or -1
pub record Moves (s t : Pair) : Type 0 where
  pub by : Mat ℤ
  pub unimodular : Unimodular by
  pub is : t ≡ multiplied by s

identity-multiplied : (s : Pair) → multiplied identity s ≡ s
identity-multiplied s = λ j. record { a = identity-product s.a j; p = identity-product s.p j }

pub moves-none : (s : Pair) → Moves s s
moves-none s = record { by = identity; unimodular = record { unit = refl }; is = sym (identity-multiplied s) }

pub moves-then : {s t u : Pair} → Moves s t → Moves t u → Moves s u
moves-then {s} m n = record {
  by = n.by · m.by;
  unimodular = unimodular-product n.unimodular m.unimodular;
  is = n.is ∙ ap (multiplied n.by) m.is ∙ sym (λ j. record { a = product-assoc n.by m.by s.a j; p = product-assoc n.by m.by s.p j });
}

-- ---- the matrix that makes b 0 is that of the gcd and the exact quotients
pub record Combines (i j : ℕ) (a b : ℤ) (c : Combination) : Type 0 where
  pub by : Bezout a b
  pub is : combination_matrix i j c ≡ combining_by i j by
  pub sign : (by.gcd ≡ b) ⊎ NonNeg by.gcd

pub combination-does : (i j : ℕ) (a b : ℤ) → zero < nat_abs b → nat_abs b ≤ 2 ^ 63 → Accepted (Combines i j a b) (extended_gcd a b then combination a b)
unfolding bezout
combination-does i j a b h hb =
    accepted-bind _ (accepted-both (extended-gcd a b hb) (gcd-sign a b h)) (λ e both.
    let g = both.0 in
    let z = bezout a b e h g in
    accepted-provided (set_zero_fits a b e.r) _ (λ _. record {
      by = z;
      sign = both.1;
      is = ap₂ (λ u v. matrix_of (combining i j e.s e.t v u)) (divides-quot z.nonzero g.gcd.left)
          (divides-quot z.nonzero (record { times = neg_ℤ z.v; is = ap neg_ℤ z.second ∙ sym (neg-*ℤ z.v e.r) }));
    }))

-- t is s with rows i and j combined
pub record Zeroed (i j : ℕ) (a b : ℤ) (s t : Pair) : Type 0 where
  pub by : Bezout a b
  pub is : t ≡ multiplied (combining_by i j by) s
  pub fits : Fits t.a
  pub still : b ≡ pos 0 → by.t ≡ pos 0
  pub sign : GcdSign a b by.gcd

pub make-zero-does : (i j : ℕ) (a b : ℤ) (s : Pair) → rows.combining i j (pos 1) (pos 0) (pos 1) (pos 0) ≡ identity → zero < nat_abs a → nat_abs b ≤ 2 ^ 63 → Fits s.a
    → Accepted (Zeroed i j a b s) (make_zero i j a b s)
unfolding make_zero bezout-zero
make-zero-does i j a b s same ha hb w =
    accepted-pick (is_zero b) (Some s) _
    (λ t. accepted (record { by = bezout-zero a b ha (zero_test b t); is = sym (ap (λ l. multiplied l s) same ∙ identity-multiplied s); fits = w; still = λ _. refl; sign = inl (zero_test b t, refl) }))
    (λ n. accepted-bind _ (combination-does i j a b (nonzero-test b n) hb) (λ c z.
    accepted-map (multiply-does (combination_matrix i j c) s) (λ t q. record {
      by = z.by;
      is = q.is ∙ ap (λ l. multiplied l s) z.is;
      fits = q.fits;
      still = λ e. absurd (subst (λ z. T (not (is_zero z))) e n);
      sign = inr z.sign;
    })))
