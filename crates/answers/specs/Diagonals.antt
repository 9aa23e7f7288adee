-- What the exports of snf3x3 and smith3x3 answer and leave in their outputs.
use Rattle.std.specs.Prelude.{Bool, ◌&&◌, List, [], ◌∷◌, ℕ, eqb, ℤ, length, Result, cond}
use Rattle.common.specs.declared.Refusal.{Refusal}
use Rattle.common.specs.Tested.{answer_of, told_of}
use Rattle.common.specs.Array.{matrix_at}
use Rattle.answers.specs.Lengths.{wrong_length, unwritten}
use Rattle.snf3x3.specs.declared.Snf.{Snf}
use Rattle.snf3x3.specs.Snf3x3.{snf3x3}
use Rattle.snf3x3.specs.Written.{written}
use Rattle.smith3x3.specs.declared.Smith.{Smith}
use Rattle.smith3x3.specs.Smith3x3.{smith3x3}
use Rattle.smith3x3.specs.Written as smith

-- of d, P and Q
abbrev pub result_lengths : ℕ → ℕ → ℕ → Bool
result_lengths d p q = eqb d 3 && (eqb p 9 && eqb q 9)

-- ---- snf3x3
-- of the matrix, d, P, Q and `told`
abbrev pub diagonal_lengths : ℕ → ℕ → ℕ → ℕ → ℕ → Bool
diagonal_lengths a d p q told = eqb a 9 && (result_lengths d p q && eqb told 1)

pub record ZoneSnf3x3 : Type 0 where
  pub answer : ℤ
  pub d : List ℤ
  pub p : List ℤ
  pub q : List ℤ
  pub told : List ℤ

-- of a call that gives s
abbrev pub snf_told : Result Snf Refusal → ZoneSnf3x3
snf_told s = record {
  answer = answer_of s;
  d = told_of (λ s. s.d_diag) 3 s;
  p = told_of (λ s. s.p) 9 s;
  q = told_of (λ s. s.q) 9 s;
  told = told_of (λ s. s.rounds ∷ []) 1 s;
}

-- the outputs have k, l, m and n places
abbrev pub zone_snf3x3 : List ℤ → (k l m n : ℕ) → ZoneSnf3x3
zone_snf3x3 a k l m n =
    cond (diagonal_lengths (length a) k l m n) (snf_told (written (snf3x3 (matrix_at a 0))))
    (record { answer = wrong_length; d = unwritten k; p = unwritten l; q = unwritten m; told = unwritten n })

-- ---- smith3x3
-- of the matrix, d, P and Q
abbrev pub smith_lengths : ℕ → ℕ → ℕ → ℕ → Bool
smith_lengths a d p q = eqb a 9 && result_lengths d p q

pub record ZoneSmith3x3 : Type 0 where
  pub answer : ℤ
  pub d : List ℤ
  pub p : List ℤ
  pub q : List ℤ

abbrev pub smith_told : Result Smith Refusal → ZoneSmith3x3
smith_told s = record { answer = answer_of s; d = told_of (λ s. s.d_diag) 3 s; p = told_of (λ s. s.p) 9 s; q = told_of (λ s. s.q) 9 s }

-- the outputs have k, l and m places
abbrev pub zone_smith3x3 : List ℤ → (k l m : ℕ) → ZoneSmith3x3
zone_smith3x3 a k l m =
    cond (smith_lengths (length a) k l m) (smith_told (smith.written (smith3x3 (matrix_at a 0))))
    (record { answer = wrong_length; d = unwritten k; p = unwritten l; q = unwritten m })
