-- The definition by what the two calls returned, and the products by what `product` returned.
use mathlib.Core.Path.{◌≡◌, refl, ◌∙◌, ap}
use mathlib.Core.Bool.{Bool, true, false, ◌&&◌, cond}
use mathlib.Core.List.{List, [], ◌∷◌}
use Prim.Native.Nat.{ℕ, suc, ◌<◌}
use native.Mathlib.Omega.{arith}
use lib.IntN.{ℤ, pos}
use lib.ListN.{length, get_or, drop, drop_of_length-le}
use lib.Seq.{drop-cons}
use Rattle.std.specs.Prelude.{Option, Some, None, Result, Ok, Err}
use Rattle.common.specs.declared.Refusal.{Refusal}
use Rattle.common.specs.declared.Refusal.TheVariants.{Overflow}
use Rattle.common.specs.Matrix.{Vec, Mat, entries, ◌·◌, diagonal}
use Rattle.common.specs.IntegerMatrix.{product_fits}
use Rattle.common.specs.Array.{vector_of, matrix_at, items}
use Rattle.snf_steps.specs.Then.{provided}
use Rattle.snf3x3.specs.declared.Snf.{Snf}
use Rattle.snf3x3.specs.Snf3x3 as first
use Rattle.snf3x3.specs.Snf3x3.{snf3x3_unlimited}
use Rattle.snf3x3.specs.Written as snf
use Rattle.smith3x3.specs.declared.Smith.{Smith}
use Rattle.smith3x3.specs.Written.{written, product_of}
use Rattle.smith3x3.specs.Smith3x3.{Answer, refused, divided, multiplied, joined, again}

-- three numbers
pub three-items : (l : List ℤ) → length l ≡ 3 → l ≡ items (vector_of l)
three-items l e = from 0 (omega (arith, e)) (from 1 (omega (arith, e)) (from 2 (omega (arith, e)) (drop_of_length-le l {i = 3} (omega (arith, e)))))
  where
    from : (n : ℕ) {rest : List ℤ} → n < length l → drop (suc n) l ≡ rest → drop n l ≡ get_or l n (pos 0) ∷ rest
    from n h r = drop-cons l n (pos 0) h ∙ ap (λ r. get_or l n (pos 0) ∷ r) r

-- the two products
abbrev pub both-products : List ℤ → Option (List ℤ) → Option (List ℤ) → Result Smith Refusal
both-products d None q = Err Overflow
both-products d (Some p) None = Err Overflow
both-products d (Some p) (Some q) = Ok (record { d_diag = d; p = p; q = q })

pub multiplied-by : (d : Vec ℤ) (p q p' q' : Mat ℤ) → both-products (items d) (product_of p' p) (product_of q q') ≡ written (multiplied d p q p' q')
multiplied-by d p q p' q' = by (product_fits p' p) (product_fits q q')
  where
    by : (t u : Bool) → both-products (items d) (provided t (entries (p' · p) [])) (provided u (entries (q · q') [])) ≡ written (cond (t && u) (divided d (p' · p) (q · q')) (refused Overflow))
    by true true = refl
    by true false = refl
    by false u = refl

-- after the second call, and after the first
abbrev pub after-second : (p q : Mat ℤ) → Result Snf Refusal → Answer
after-second p q (Ok s) = multiplied (vector_of s.d_diag) p q (matrix_at s.p 0) (matrix_at s.q 0)
after-second p q (Err r) = refused r

pub joined-by : (p q : Mat ℤ) (w : first.Answer) → after-second p q (snf.written w) ≡ joined p q w
joined-by p q (first.refused r) = refl
joined-by p q (first.diagonalised d p' q' n) = refl

abbrev pub after_first : Result Snf Refusal → Answer
after_first (Ok s) = joined (matrix_at s.p 0) (matrix_at s.q 0) (snf3x3_unlimited (diagonal (vector_of s.d_diag)))
after_first (Err r) = refused r

pub again-by : (w : first.Answer) → after_first (snf.written w) ≡ again w
again-by (first.refused r) = refl
again-by (first.diagonalised d p q n) = refl
