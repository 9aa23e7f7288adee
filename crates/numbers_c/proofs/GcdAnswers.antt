-- What the export of the extended gcd answers and leaves, by its branches.
use mathlib.Core.Path.{◌≡◌, refl, sym, ◌∙◌, ap}
use mathlib.Core.List.{List}
use Prim.Native.Nat.{ℕ, ◌<◌}
use native.Mathlib.Omega.{arith}
use lib.IntN.{ℤ, pos, negsuc}
use lib.ListN.{replicate}
use borrow.Author.Tests.{eq-eqb, ne_eqb}
use mir.Syntax.{w64}
use mir.Val.{SFits}
use Rattle.std.specs.Prelude.{Option, Some, None, cond}
use Rattle.integer.proofs.Fits.{fits-size, range-fits, sfits-range}
use Rattle.common.specs.declared.Refusal.TheVariants.{WrongLength}
use Rattle.common.specs.Refusal.{number_of}
use Rattle.snf_steps.specs.Then.{◌then◌}
use Rattle.snf_steps.specs.declared.gcd.Euclid.{Euclid}
use Rattle.snf_steps.specs.declared.gcd.Counted.{Counted}
use Rattle.snf_steps.specs.Gcd.{extended_gcd, steps, counted_gcd}
use Rattle.snf_steps.proofs.Divisions.{few-steps}
use Rattle.numbers_c.specs.GcdTold.{gcd_number, gcd_told, GcdTold}

-- the count, or k where there is none
abbrev count_or : ℕ → Option Counted → ℕ
count_or k (Some c) = c.count
count_or k None = k

count-is : (m : Option Euclid) (k : ℕ) → count_or k (m then λ e. Some (record { last = e; count = k })) ≡ k
count-is (Some e) k = refl
count-is None k = refl

pub count_fits : (a b : ℤ) → SFits w64 b → (e : Euclid) (n : ℕ) → Some (record { last = e; count = n }) ≡ counted_gcd a b → n < 0x8000000000000000
count_fits a b f e n h =
    let is : n ≡ steps a b = ap (count_or (steps a b)) h ∙ count-is (extended_gcd a b) (steps a b) in
    omega (arith, is, few-steps a b (fits-size b (range-fits b (sfits-range f))))

module _ (a b : ℤ) (n : ℕ) {r : ℤ} {told : List ℤ} where
  pub gcd-unsized : (n ≡ 4 → ⊥) → r ≡ pos (number_of WrongLength) → told ≡ replicate n (negsuc 0) → GcdTold a b n r told
  gcd-unsized h er et =
      let e = sym (ne_eqb n 4 h) in record {
        answer = er ∙ ap (λ t. cond t (gcd_number (counted_gcd a b)) (pos (number_of WrongLength))) e;
        value = et ∙ ap (λ t. cond t (gcd_told (counted_gcd a b)) (replicate n (negsuc 0))) e;
      }

  pub gcd-told : n ≡ 4 → {g : Option Counted} → g ≡ counted_gcd a b → r ≡ gcd_number g → told ≡ gcd_told g → GcdTold a b n r told
  gcd-told h eg er et =
      let e = sym (eq-eqb n 4 h) in record {
        answer = er ∙ ap gcd_number eg ∙ ap (λ t. cond t (gcd_number (counted_gcd a b)) (pos (number_of WrongLength))) e;
        value = et ∙ ap gcd_told eg ∙ ap (λ t. cond t (gcd_told (counted_gcd a b)) (replicate n (negsuc 0))) e;
      }
