-- The walk over the points, turn by turn.
use mathlib.Core.Path.{◌≡◌, refl, sym, ◌∙◌, ap, ap₂, subst}
use mathlib.Core.Logic.{⊎_elim}
use mathlib.Core.Bool.{Bool, true, false, not, cond}
use mathlib.Core.List.{List, [], ◌∷◌}
use Prim.Native.Nat.{ℕ, zero, suc, ◌+◌, ◌-◌, ◌<◌, ◌≤◌}
use native.Mathlib.Nat.{not-suc-le-zero, le_of_suc-le-suc, eq-or-lt_of_le}
use native.Mathlib.Numerals.{add-one}
use native.Mathlib.Omega.{arith}
use lib.Dec.{T, eqb, eqb-suc-zero, not_T}
use lib.IntN.{ℤ, pos}
use lib.ListN.{length, length-append}
use Rattle.integer.proofs.Test.{and_in, is_true, is_false, fails}
use Rattle.std.specs.Prelude.{Some, None}
use Rattle.grgrid.specs.Build.{concat}
use Rattle.bzgrid.specs.Table.{Image}
use Rattle.bzgrid.specs.BzGridAddresses.{all_found}
use Rattle.bzgrid.specs.Code.Writing.{put_at, Tables, tables, stored, restart, if_sparse, counted}
use Rattle.bzgrid.specs.Code.Walked.{before, after, walk_of, WrittenTo}
use Rattle.bzgrid.proofs.Runs.{next-stored, Found}
use Rattle.bzgrid.proofs.Layouts.{below, here, at-written}

-- images were stored if the place has moved
moved : (xs : List Image) (t : Tables) → ((stored t xs).next ≡ t.next → ⊥) → Found xs
moved [] t h = h refl
moved (x ∷ xs) t h = fails (eqb-suc-zero (length xs))

restarted : (sparse : Bool) (u : Tables) (i k : ℕ) {a b : List ℤ} {x y : ℕ} → a ≡ u.addresses → b ≡ u.grg → k ≡ u.at → x ≡ cond sparse i k → y ≡ cond sparse k (k + 1)
    → tables a b x y ≡ restart sparse i u
restarted true u i k p q e f h = λ j. tables (p j) (q j) (f j) ((h ∙ e) j)
restarted false u i k p q e f h = λ j. tables (p j) (q j) ((f ∙ e) j) ((h ∙ ap (λ m. m + 1) e) j)

-- each point below n has an image
pub found_at : (g : ℕ → List Image) (n i : ℕ) → i < n → T (all_found g n) → Found (g i)
found_at g zero i h all = absurd (not-suc-le-zero h)
found_at g (suc n) i h all =
    ⊎_elim (λ e. subst (λ j. Found (g j)) (sym e) (here g n all))
    (λ l. found_at g n i l (below g n all))
    (eq-or-lt_of_le (le_of_suc-le-suc h))

-- and so there are at least as many
as_many : (g : ℕ → List Image) (i : ℕ) → T (all_found g i) → i ≤ length (concat g i)
as_many g zero all = omega arith
as_many g (suc i) all =
    omega (arith, length-append (concat g i) (g i), as_many g i (below g i all), one (g i) (here g i all))
  where
    one : (xs : List Image) → Found xs → 1 ≤ length xs
    one [] some = absurd some
    one (x ∷ xs) some = omega arith

-- the outputs and the next place after the first i points
pub record Reached (sparse : Bool) (g : ℕ → List Image) (n base : ℕ) (a₀ m₀ b₀ a m b : List ℤ) (k i : ℕ) : Type 0 where
  pub found : T (all_found g i)
  pub addresses : a ≡ (after sparse g n a₀ b₀ i).addresses
  pub grg : b ≡ (after sparse g n a₀ b₀ i).grg
  pub place : k ≡ if_sparse sparse n + before sparse g i
  pub map : m ≡ counted (before sparse g) base m₀ i

module _ {sparse : Bool} {g : ℕ → List Image} {n base : ℕ} {a₀ m₀ b₀ : List ℤ} where
  module _ {a m b : List ℤ} {k i : ℕ} (r : Reached sparse g n base a₀ m₀ b₀ a m b k i) {from : ℕ} (ef : from ≡ if_sparse sparse n) where
    pub low : i ≤ n → (from ≤ k) × (i ≤ k)
    low l = (omega (arith, r.place, ef), first sparse l r.place)
      where
        first : (s : Bool) → i ≤ n → k ≡ if_sparse s n + before s g i → i ≤ k
        first true l e = omega arith
        first false l e = omega (arith, as_many g i r.found)

    count : k - from ≡ before sparse g i
    count = omega (arith, r.place, ef)

    count-put : {m' : List ℤ} → m' ≡ put_at 1 m (base + i) (pos (k - from) ∷ []) → m' ≡ counted (before sparse g) base m₀ (suc i)
    count-put p = p ∙ ap₂ (λ l c. put_at 1 l (base + i) (pos c ∷ [])) r.map count

    module _ {a' b' : List ℤ} {x y x' y' : ℕ} (ex : x ≡ cond sparse i k) (ey : y ≡ cond sparse k (k + 1)) (e : tables a' b' x' y' ≡ stored (tables a b x y) (g i)) where
      pub turn_found : Found (g i) → {m' : List ℤ} → m' ≡ put_at 1 m (base + i) (pos (k - from) ∷ []) → Reached sparse g n base a₀ m₀ b₀ a' m' b' x' (i + 1)
      turn_found some p = subst (Reached sparse g n base a₀ m₀ b₀ a' _ b' x') (sym (add-one i)) (record {
        found = all;
        addresses = ap (λ (t : Tables). t.addresses) next;
        grg = ap (λ (t : Tables). t.grg) next;
        place = ap (λ (t : Tables). t.at) next ∙ at-written g sparse (tables a₀ b₀ (if_sparse sparse n) 0) (suc i) all;
        map = count-put p;
      })
        where
          all : T (all_found g (suc i))
          all = and_in (all_found g i) (not (eqb (length (g i)) 0)) r.found some

          next : tables a' b' x' y' ≡ after sparse g n a₀ b₀ (suc i)
          next = e ∙ ap (λ t. stored t (g i)) (restarted sparse (after sparse g n a₀ b₀ i) i k r.addresses r.grg (r.place ∙ sym (at-written g sparse (tables a₀ b₀ (if_sparse sparse n) 0) i r.found)) ex ey)

      pub turn : {m' : List ℤ} → m' ≡ put_at 1 m (base + i) (pos (k - from) ∷ []) → (y' ≡ y → ⊥) → Reached sparse g n base a₀ m₀ b₀ a' m' b' x' (i + 1)
      turn p h = turn_found (moved (g i) (tables a b x y) (λ q. h (ap (λ (t : Tables). t.next) e ∙ q))) p

      -- no image was stored
      pub missing : i < n → y' ≡ y → {P : Type 0} → (None ≡ walk_of sparse g n) × (T (all_found g n) → P)
      missing l h =
          (ap (λ f. cond f (Some (if_sparse sparse n + before sparse g n)) None) (sym (is_false (all_found g n) (not_T (all_found g n) lacks))), λ all. absurd (lacks all))
        where
          lacks : T (all_found g n) → ⊥
          lacks all = none (g i) (found_at g n i l all) (sym (next-stored (g i) (tables a b x y)) ∙ sym (ap (λ (t : Tables). t.next) e) ∙ h)
            where
              none : (xs : List Image) → Found xs → y + length xs ≡ y → ⊥
              none [] some q = some
              none (z ∷ xs) some q = omega arith

  pub ended : {a m b : List ℤ} {k i : ℕ} → Reached sparse g n base a₀ m₀ b₀ a m b k i → i ≡ n → {from : ℕ} → from ≡ if_sparse sparse n → {m' : List ℤ} → m' ≡ put_at 1 m (base + n) (pos (k - from) ∷ [])
      → (Some k ≡ walk_of sparse g n) × (T (all_found g n) → WrittenTo sparse g n base a₀ m₀ b₀ a m' b)
  ended {a} {m} {b} {k} r q ef p =
      let s = subst (Reached sparse g n base a₀ m₀ b₀ a m b k) q r in (
        ap Some s.place ∙ ap (λ f. cond f (Some (if_sparse sparse n + before sparse g n)) None) (sym (is_true (all_found g n) s.found)),
        λ all. record { addresses = s.addresses; grg = s.grg; map = count-put s ef p },
      )
