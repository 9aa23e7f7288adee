-- An image table of either type: laid out from the images of each point, and read back; and the tables that could stand.
use Rattle.std.specs.Prelude.{Bool, true, false, not, ◌&&◌, List, [], ◌∷◌, ℕ, zero, suc, ◌+◌, ◌*◌, leb, eqb, ℤ, length, take, Ok, Err}
use Rattle.integer.specs.Same.{same}
use Rattle.common.specs.Every.{every}
use Rattle.common.specs.Matrix.{Vec, same_vector}
use Rattle.common.specs.Tested.{◌then◌}
use Rattle.grgrid.specs.Grid.{size, index}
use Rattle.bzgrid.specs.declared.GridType.{GridType}
use Rattle.bzgrid.specs.declared.GridType.TheVariants.{Sparse, Dense}
use Rattle.bzgrid.specs.Table.{named, address_list, point_list}
use Rattle.bzgrid.specs.BzGridAddresses.{table_of, map_of, map_length}
use Rattle.bztable.specs.Access.{image_places}
use Rattle.bztable.specs.Reading.{Read, got, inside, address_at, place_at, list_of, read_each}

-- the addresses, three numbers each; the map; the grid point of each address
pub record Table : Type 0 where
  pub addresses : List ℤ
  pub map : List ℤ
  pub grg : List ℤ

-- the table of the images g p of each point p
abbrev pub layout : GridType → Vec ℕ → (ℕ → List (Vec ℤ)) → Table
layout t d g =
    let l = table_of t (named g) (size d) in
    record { addresses = address_list l; map = map_of t d (named g); grg = point_list l }

-- ---- a table that may hold anything
-- the images of point p, as its places hold them; none where one of these cannot be read
abbrev pub list_at : GridType → Vec ℕ → Table → ℕ → List (Vec ℤ)
list_at t d x p = list_of (image_places t x.map (size d) p then read_each (address_at x.addresses))

-- how many images its map counts, where the grid has n points
abbrev pub counted : GridType → List ℤ → ℕ → Read ℕ
counted Sparse map n = place_at map (9 * n) then λ e. got (n + e)
counted Dense map n = place_at map n

-- ---- refusal 14: the whole map, or an image that it counts, cannot be read
abbrev pub is_read : {A : Type 0} → Read A → Bool
is_read (Ok a) = true
is_read (Err r) = false

-- of each of the first n
abbrev pub all_below : (ℕ → Bool) → ℕ → Bool
all_below f zero = true
all_below f (suc n) = all_below f n && f n

-- the map, and m images; their number is one that a map of type 2 can hold
abbrev pub all_read : GridType → Vec ℕ → Table → ℕ → Bool
all_read t d x m =
    all_below (λ i. is_read (place_at x.map i)) (map_length t d)
    && (leb m 1099511627776 && (leb m (length x.grg) && all_below (λ i. is_read (address_at x.addresses i)) m))

-- the number of images
unfoldable pub table_read : GridType → Vec ℕ → Table → Read ℕ
table_read t d x = counted t x.map (size d) then λ m. inside (all_read t d x m) m

-- ---- refusal 19: the lists that are read, laid out anew, do not make the same table
abbrev pub no_repeats : List (Vec ℤ) → Bool
no_repeats [] = true
no_repeats (a ∷ l) = every (λ b. not (same_vector a b)) l && no_repeats l

-- at least one image, each folding to point p, none twice
abbrev pub good_list : Vec ℕ → ℕ → List (Vec ℤ) → Bool
good_list d p l = not (eqb (length l) 0) && (every (λ a. eqb (index d a) p) l && no_repeats l)

abbrev pub same_list : List ℤ → List ℤ → Bool
same_list [] [] = true
same_list [] (b ∷ m) = false
same_list (a ∷ l) [] = false
same_list (a ∷ l) (b ∷ m) = same a b && same_list l m

abbrev pub same_table : Table → Table → Bool
same_table x y = same_list x.map y.map && (same_list x.grg y.grg && same_list x.addresses y.addresses)

-- the places of the map, and of m images
abbrev pub told : GridType → Vec ℕ → Table → ℕ → Table
told t d x m = record { addresses = take (3 * m) x.addresses; map = take (map_length t d) x.map; grg = take m x.grg }

unfoldable pub could_stand : GridType → Vec ℕ → Table → ℕ → Bool
unfolding index
could_stand t d x m = let g = list_at t d x in all_below (λ p. good_list d p (g p)) (size d) && same_table (layout t d g) (told t d x m)
