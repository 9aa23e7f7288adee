-- The three calls on one input: with the lengths that `bz_grid_sizes` gives, `bz_grid_fill` is the single call, whatever the room; with others it is refused.
use Rattle.std.specs.Prelude.{◌≡◌, List, [], ◌∷◌, ℕ, ℤ, pos, Float, Result, Ok, Err}
use Rattle.common.specs.Array.{vector_of}
use Rattle.common.specs.declared.Refusal.{Refusal}
use Rattle.common.specs.declared.Refusal.TheVariants.{OtherSizes}
use Rattle.bzgrid.specs.declared.Lengths.{Lengths}
use Rattle.bzgrid.specs.declared.Built.{Built}
use Rattle.bzgrid.specs.BzGridAddresses.{unbuilt, bz_grid_addresses, bz_grid_fill, bz_grid_sizes}

-- as three numbers
abbrev pub numbers : Lengths → List ℤ
numbers l = pos l.addresses ∷ pos l.map ∷ pos l.grg ∷ []

module _ (d : List ℤ) (q : List (List ℤ)) (ps : List ℤ) (lattice : List (List Float)) (t : ℤ) where
  abbrev sizes : Result Lengths Refusal
  sizes = bz_grid_sizes d q ps lattice t

  pub record KnownSizes (a b c : ℕ) : Type 0 where
    pub same : (l : Lengths) → sizes ≡ Ok l → bz_grid_fill d q ps lattice t (numbers l) a b c ≡ bz_grid_addresses d q ps lattice t a b c
    pub others : (l : Lengths) → sizes ≡ Ok l → (n : List ℤ) → ¬ (vector_of n ≡ vector_of (numbers l))
        → bz_grid_fill d q ps lattice t n a b c ≡ unbuilt a b c OtherSizes
    -- where the sizes are refused, all three are, for the same reason
    pub refused : (r : Refusal) → sizes ≡ Err r
        → (bz_grid_addresses d q ps lattice t a b c ≡ unbuilt a b c r) × ((n : List ℤ) → bz_grid_fill d q ps lattice t n a b c ≡ unbuilt a b c r)
    -- where the single call accepts, it tells what the sizes are
    pub told : (l : Built) → (bz_grid_addresses d q ps lattice t a b c).answer ≡ Ok l → sizes ≡ Ok l.lengths
