-- `bz_grid_addresses`: its tests, in document 01's order, and its answer with the three outputs, as one outcome.
use Rattle.std.specs.Prelude.{Bool, true, false, not, ◌&&◌, List, ◌++◌, ℕ, zero, suc, ◌+◌, ◌*◌, ◌-◌, leb, eqb, ℤ, pos}
use Rattle.std.specs.Prelude.{negsuc, Float, length, replicate, Result, Ok, Err, Option, Some, None, cond}
use Rattle.common.specs.declared.Refusal.{Refusal}
use Rattle.integer.specs.Same.{same}
use Rattle.common.specs.Matrix.{Vec, same_vector}
use Rattle.common.specs.Array.{vector_of, sides_of, matrix_of}
use Rattle.common.specs.FloatMatrix.{float_matrix}
use Rattle.common.specs.Limits.{matrix_within, diagonal_fits, shift_fits}
use Rattle.common.specs.Tested.{require, output_of, Tested, Accepted, ◌then◌, giving}
use Rattle.common.specs.declared.Refusal.TheVariants.{OutsideLimits, BadGridType, NotUnimodularQ, SingularReciprocalLattice, SearchFailed}
use Rattle.common.specs.declared.Refusal.TheVariants.{OtherSizes, WrongLength}
use Rattle.grgrid.specs.Grid.{size}
use Rattle.bzgrid.specs.declared.GridType.{GridType}
use Rattle.bzgrid.specs.declared.GridType.TheVariants.{Sparse, Dense}
use Rattle.bzgrid.specs.declared.Lengths.{Lengths}
use Rattle.bzgrid.specs.declared.TableRecord.{TableRecord}
use Rattle.bzgrid.specs.declared.Built.{Built}
use Rattle.bzsearch.specs.Lattice.{lattice_fits, singular}
use Rattle.bzsearch.specs.Search.{Search, new_search, unimodular}
use Rattle.bzgrid.specs.Table.{Image, images_at, dense, dense_map, sparse, sparse_map, empty, address_list, point_list}

abbrev pub grid_type_of : ℤ → Result GridType Refusal
grid_type_of t = cond (same t (pos 1)) (Ok Sparse) (cond (same t (pos 2)) (Ok Dense) (Err BadGridType))

abbrev pub is_sparse : GridType → Bool
is_sparse Sparse = true
is_sparse Dense = false

abbrev pub search_of : List ℤ → List (List ℤ) → List ℤ → List (List Float) → Search
search_of d q ps lattice = new_search (sides_of d) (vector_of ps) (matrix_of q) (float_matrix lattice)

-- ---- a table of either type
abbrev pub table_of : GridType → (ℕ → List Image) → ℕ → List Image
table_of Sparse g n = sparse g n
table_of Dense g n = dense g n

abbrev pub map_of : GridType → Vec ℕ → (ℕ → List Image) → List ℤ
map_of Sparse d g = sparse_map d g
map_of Dense d g = dense_map g (size d)

abbrev pub map_length : GridType → Vec ℕ → ℕ
map_length Sparse d = empty d + (size d + 1)
map_length Dense d = size d + 1

-- each of the points below n has an image
abbrev pub all_found : (ℕ → List Image) → ℕ → Bool
all_found g zero = true
all_found g (suc n) = all_found g n && not (eqb (length (g n)) 0)

abbrev pub lengths_of : GridType → Vec ℕ → (ℕ → List Image) → Lengths
lengths_of t d g = let m = length (table_of t g (size d)) in record { addresses = 3 * m; map = map_length t d; grg = m }

-- whoever was told the lengths beforehand hands them over
abbrev pub as_told : Option (List ℤ) → Lengths → Bool
as_told None l = true
as_told (Some n) l = same_vector (vector_of n) (record { x = pos l.addresses; y = pos l.map; z = pos l.grg })

-- outputs of lengths a, b and c have room
abbrev pub has_room : Lengths → ℕ → ℕ → ℕ → Bool
has_room l a b c = leb l.addresses a && (leb l.map b && leb l.grg c)

-- ---- the tests
abbrev pub within_limits : List ℤ → List (List ℤ) → List ℤ → List (List Float) → Bool
within_limits d q ps lattice = diagonal_fits d && (matrix_within 1000 (matrix_of q) && (shift_fits ps && lattice_fits (float_matrix lattice)))

-- the layout, where they pass
unfoldable pub input_tests : List ℤ → List (List ℤ) → List ℤ → List (List Float) → ℤ → Result GridType Refusal
unfolding singular
input_tests d q ps lattice t =
    require (within_limits d q ps lattice) OutsideLimits
    (grid_type_of t then λ k.
    require (unimodular (matrix_of q)) NotUnimodularQ
    (require (not (singular (float_matrix lattice))) SingularReciprocalLattice (Ok k)))

-- ---- the answer, and the outputs, which have a, b and c places: -1 in those past the tables'
pub record BzGridAddresses (A : Type 0) : Type 0 where
  pub answer : Result A Refusal
  pub addresses : List ℤ
  pub map : List ℤ
  pub grg : List ℤ

abbrev pub padded : List ℤ → ℕ → List ℤ
padded l n = l ++ replicate (n - length l) (negsuc 0)

module _ (a b c : ℕ) where
  -- -1 everywhere
  abbrev pub unbuilt : {A : Type 0} → Refusal → BzGridAddresses A
  unbuilt r = record { answer = Err r; addresses = replicate a (negsuc 0); map = replicate b (negsuc 0); grg = replicate c (negsuc 0) }

-- the tables of the images g of each point, where the tests pass
module _ (t : GridType) (d : Vec ℕ) (g : ℕ → List Image) (a b c : ℕ) where
  abbrev pub laid_out : Tested → BzGridAddresses Lengths
  laid_out e =
      let table = table_of t g (size d) in
      record {
        answer = giving e (lengths_of t d g);
        addresses = output_of e a (padded (address_list table) a);
        map = output_of e b (padded (map_of t d g) b);
        grg = output_of e c (padded (point_list table) c);
      }

-- those of a search, which may have the lengths n
module _ (t : GridType) (s : Search) (n : Option (List ℤ)) (a b c : ℕ) where
  unfoldable pub build_tests : Tested
  unfolding images_at
  build_tests =
      let l = lengths_of t s.d (images_at s) in
      require (all_found (images_at s) (size s.d)) SearchFailed (require (as_told n l) OtherSizes (require (has_room l a b c) WrongLength Accepted))

  unfoldable pub built : BzGridAddresses Lengths
  unfolding build_tests images_at
  built = laid_out t s.d (images_at s) a b c build_tests

-- their lengths alone
abbrev pub sizes_of : GridType → Search → Result Lengths Refusal
sizes_of t s = require (all_found (images_at s) (size s.d)) SearchFailed (Ok (lengths_of t s.d (images_at s)))

-- ---- the call
abbrev pub built_for : Result GridType Refusal → Search → Option (List ℤ) → (a b c : ℕ) → BzGridAddresses Lengths
built_for (Ok k) s n a b c = built k s n a b c
built_for (Err r) s n a b c = unbuilt a b c r

-- the record of the tables' grid beside the lengths
abbrev pub recorded : TableRecord → BzGridAddresses Lengths → BzGridAddresses Built
recorded r o = record { answer = o.answer then λ l. Ok (record { lengths = l; table = r }); addresses = o.addresses; map = o.map; grg = o.grg }

module _ (d : List ℤ) (q : List (List ℤ)) (ps : List ℤ) (lattice : List (List Float)) (t : ℤ) where
  -- where the lengths n are told
  unfoldable pub tables_told : Option (List ℤ) → (a b c : ℕ) → BzGridAddresses Built
  unfolding input_tests built
  tables_told n a b c = recorded (record { d = d; ps = ps; bz_grid_type = t }) (built_for (input_tests d q ps lattice t) (search_of d q ps lattice) n a b c)

  unfoldable pub bz_grid_addresses : (a b c : ℕ) → BzGridAddresses Built
  unfolding tables_told
  bz_grid_addresses = tables_told None

  -- the same from lengths that `bz_grid_sizes` gave, in places; any numbers
  unfoldable pub bz_grid_fill : List ℤ → (a b c : ℕ) → BzGridAddresses Built
  unfolding tables_told
  bz_grid_fill n = tables_told (Some n)

  -- the three lengths alone
  unfoldable pub bz_grid_sizes : Result Lengths Refusal
  unfolding input_tests images_at
  bz_grid_sizes = input_tests d q ps lattice t then λ k. sizes_of k (search_of d q ps lattice)
