-- What the reader returns and writes, by whether the header is right.
use mathlib.Core.Path.{◌≡◌, refl, sym, ◌∙◌, ap, ap₂}
use mathlib.Core.Bool.{Bool, true, false, cond}
use mathlib.Core.List.{List, ◌++◌}
use Prim.Native.Nat.{ℕ, ◌+◌, ◌-◌, ◌*◌, ◌≤◌}
use native.Mathlib.Omega.{arith}
use lib.IntN.{ℤ, negsuc}
use lib.ListN.{length, take, drop, replicate, length-replicate}
use lib.Seq.{take_at}
use Rattle.std.specs.Prelude.{Ok, Err}
use Rattle.common.specs.declared.Refusal.TheVariants.{BadHeader}
use Rattle.common.proofs.Tests.{same-ok, refused-not-ok}
use Rattle.grgrid.proofs.Built.{length-build}
use Rattle.job.specs.Job.{word, signed, signed_words, job_fits, accepted, job_of, rotations_of, rotations_written}
use Rattle.job.specs.declared.job.Job.{Job}
use Rattle.job.proofs.Lists.{drop-replicate}
use Rattle.job.proofs.Sections.{sections}

module _ (b : List ℕ) where
  module _ (e : job_fits b ≡ false) where
    pub refused-job : Err BadHeader ≡ job_of b
    unfolding job_of
    refused-job = sym (ap (λ t. cond t (Ok (accepted b)) (Err BadHeader)) e)

    pub none-laid : {l : List ℤ} → l ≡ replicate 1728 (negsuc 0) → l ≡ rotations_written b 1728
    unfolding rotations_written
    none-laid p = p ∙ sym (ap (λ t. cond t (rotations_of b ++ replicate (1728 - 9 * word b 4) (negsuc 0)) (replicate 1728 (negsuc 0))) e)

  module _ (e : job_fits b ≡ true) where
    pub accepted-job : Ok (accepted b) ≡ job_of b
    unfolding job_of
    accepted-job = sym (ap (λ t. cond t (Ok (accepted b)) (Err BadHeader)) e)

    -- there is room for k rotations in a slice of 1728 places
    pub room : {k n : ℕ} {l : List ℤ} → k ≡ word b 4 → l ≡ replicate n (negsuc 0) → n ≡ 1728 → 9 * k ≤ length l
    room {k} {n} {l} ek p en =
        let few = (sections b e).few in
        let long : length l ≡ n = ap length p ∙ length-replicate n (negsuc 0) in
        omega arith

    -- k rotations, read from place `at` on into the first m places of a slice that held -1
    pub rotations-laid : {at k m : ℕ} {part rest : List ℤ} → part ≡ signed_words b at m → m ≡ 9 * k → at ≡ word b 12 → k ≡ word b 4 → rest ≡ replicate 1728 (negsuc 0) → part ++ drop (9 * k) rest ≡ rotations_written b 1728
    unfolding rotations_written rotations_of
    rotations-laid {k = k} p em ea ek r =
        ap₂ ◌++◌ (p ∙ ap₂ (signed_words b) ea (em ∙ ap (λ k. 9 * k) ek)) (ap₂ (λ k l. drop (9 * k) l) ek r ∙ drop-replicate 1728 (9 * word b 4) (negsuc 0))
        ∙ sym (ap (λ t. cond t (rotations_of b ++ replicate (1728 - 9 * word b 4) (negsuc 0)) (replicate 1728 (negsuc 0))) e)

    -- they are the told part of the slice
    pub told-rotations : take (9 * word b 4) (rotations_written b 1728) ≡ rotations_of b
    unfolding rotations_written rotations_of signed_words
    told-rotations =
        ap (λ t. take (9 * word b 4) (cond t (rotations_of b ++ replicate (1728 - 9 * word b 4) (negsuc 0)) (replicate 1728 (negsuc 0)))) e
        ∙ take_at (rotations_of b) (replicate (1728 - 9 * word b 4) (negsuc 0)) (9 * word b 4) (length-build (λ k done. signed (word b (word b 12 + 4 * k))) (9 * word b 4))

  -- a job that was read
  pub read-job : {j : Job} → job_of b ≡ Ok j → (job_fits b ≡ true) × (j ≡ accepted b)
  unfolding job_of
  read-job {j} h = go (job_fits b) h
    where
      go : (t : Bool) → cond t (Ok (accepted b)) (Err BadHeader) ≡ Ok j → (t ≡ true) × (j ≡ accepted b)
      go true h = (refl, sym (same-ok h))
      go false h = absurd (refused-not-ok h)
