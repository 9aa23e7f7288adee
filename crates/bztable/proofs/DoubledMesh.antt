-- The map of a sparse table over the doubled mesh: at each place of the mesh the last image that falls there, 8 N where none does; images of different points
-- never fall on one place.
use mathlib.Core.Path.{◌≡◌, refl, sym, ◌∙◌, ap, subst}
use mathlib.Core.Logic.{◌⊎◌, inl, inr, ⊎_elim}
use mathlib.Core.Bool.{Bool, true, false}
use mathlib.Core.List.{List, [], ◌∷◌, ◌++◌, append_assoc}
use Prim.Native.Nat.{ℕ, zero, suc, ◌+◌, ◌*◌, ◌-◌, ◌≤◌, ◌<◌, zero-le, suc-le-suc}
use native.Mathlib.Nat.{le_of_lt, le_of_suc-le-suc, not-suc-le-zero, add-zero, zero-add}
use native.Mathlib.Omega.{arith}
use lib.Dec.{eqb}
use lib.IntN.{ℤ, pos, negsuc}
use lib.ListN.{length, get_or, set, replicate, length-set, length-replicate, get_or-replicate, get_or-append, take, drop}
use lib.Seq.{get_or-set_same, get_or-set_other, split_at, length-take-le}
use borrow.Author.Tests.{eqb-true, eqb-false}
use Rattle.integer.specs.Divides.{Divides, Congruent}
use Rattle.integer.proofs.Divides.{divides-trans}
use Rattle.common.specs.Matrix.{Axis, Vec, side, origin}
use Rattle.common.proofs.Matrix.{side-vector}
use Rattle.grgrid.specs.Grid.{size, index}
use Rattle.grgrid.proofs.Lists.{◌∈◌}
use Rattle.grgrid.proofs.Folding.{Sides, index-lt, same_index, index_same}
use Rattle.bzgrid.specs.declared.GridType.TheVariants.{Sparse}
use Rattle.grgrid.specs.Build.{concat}
use Rattle.bzgrid.specs.Table.{Image, image_of, sparse, doubled, placed, sparse_map, address_list, others, listed}
use Rattle.bzgrid.specs.BzGridAddresses.{padded}
use Rattle.bztable.specs.Reading.{got, triple_at, place_at}
use Rattle.bztable.proofs.TableRead.{address-reads, length-placed, place-read, sparse-room}
use Rattle.bztable.proofs.ImageTable.{Stands, Folded, image-place, place-folds}

-- ---- the mesh of 2 d
double-divides : (n : ℕ) → Divides (pos n) (pos (2 * n))
double-divides n = record { times = pos 2; is = refl }

module _ (d : Vec ℕ) (h : Sides d) where
  pub doubled-sides : Sides (doubled d)
  doubled-sides = record { positive = λ k. rw (side-vector (λ k. 2 * side d k) k) (twice (h.positive k)) }
    where
      twice : {n : ℕ} → 0 < n → 0 < 2 * n
      twice l = omega arith

  pub doubled-lt : (a : Vec ℤ) → index (doubled d) a < 8 * size d
  doubled-lt a = subst (λ (n : ℕ). index (doubled d) a < n) (cube d.x d.y d.z) (index-lt (doubled d) doubled-sides a)
    where
      cube : (x y z : ℕ) → 2 * x * (2 * y) * (2 * z) ≡ 8 * (x * y * z)
      cube x y z = omega arith

  -- addresses that agree there have one index
  pub doubled-index : (a b : Vec ℤ) → index (doubled d) a ≡ index (doubled d) b → index d a ≡ index d b
  doubled-index a b e = same_index d h (record { at = λ k. half k ((index_same (doubled d) doubled-sides a b e).at k) })
    where
      half : (k : Axis) → Congruent (pos (side (doubled d) k)) (side a k) (side b k) → Congruent (pos (side d k)) (side a k) (side b k)
      half k c = record { apart = divides-trans (double-divides (side d k)) (rw (side-vector (λ k. 2 * side d k) k) at c.apart) }

-- ---- the last of several
-- of the places below m, the last i that has the key k
pub record Last (key : ℕ → ℕ) (m k i : ℕ) : Type 0 where
  pub inside : i < m
  pub has : key i ≡ k
  pub last : (j : ℕ) → j < m → key j ≡ k → j ≤ i

abbrev pub Free : (key : ℕ → ℕ) (m k : ℕ) → Type 0
Free key m k = (j : ℕ) → j < m → ¬ (key j ≡ k)

-- and of those in a list
pub record LastOf (l : List ℕ) (key : ℕ → ℕ) (k i : ℕ) : Type 0 where
  pub among : i ∈ l
  pub has : key i ≡ k
  pub last : (j : ℕ) → j ∈ l → key j ≡ k → j ≤ i

abbrev none : Image
none = image_of 0 origin

-- the place of the mesh on which the i-th image falls
abbrev mesh_at : Vec ℕ → List Image → ℕ → ℕ
mesh_at d xs i = index (doubled d) (get_or xs i none).address

module _ (d : Vec ℕ) (k : ℕ) where
  abbrev Placed : ℕ → List Image → List ℤ → Type 0
  Placed at xs l =
      (Free (mesh_at d xs) (length xs) k × (get_or (placed d at xs l) k (pos 0) ≡ get_or l k (pos 0)))
      ⊎ ((i : ℕ) × Last (mesh_at d xs) (length xs) k i × (get_or (placed d at xs l) k (pos 0) ≡ pos (at + i)))

  pub placed-is : (at : ℕ) (xs : List Image) (l : List ℤ) → k < length l → Placed at xs l
  placed-is at [] l h = inl (λ j h. absurd (not-suc-le-zero h), refl)
  placed-is at (x ∷ xs) l h = ⊎_elim none-later later (placed-is (suc at) xs (set l (index (doubled d) x.address) (pos at)) (omega (arith, length-set l (index (doubled d) x.address) (pos at))))
    where
      key : ℕ
      key = index (doubled d) x.address

      l' : List ℤ
      l' = set l key (pos at)

      later : (i : ℕ) × Last (mesh_at d xs) (length xs) k i × (get_or (placed d (suc at) xs l') k (pos 0) ≡ pos (suc at + i)) → Placed at (x ∷ xs) l
      later r = inr (suc r.0, record { inside = suc-le-suc r.1.inside; has = r.1.has; last = last }, r.2 ∙ ap pos (next at r.0))
        where
          next : (a i : ℕ) → suc a + i ≡ a + suc i
          next a i = omega arith

          last : (j : ℕ) → j < suc (length xs) → mesh_at d (x ∷ xs) j ≡ k → j ≤ suc r.0
          last zero h e = zero-le
          last (suc j) h e = suc-le-suc (r.1.last j (le_of_suc-le-suc h) e)

      none-later : Free (mesh_at d xs) (length xs) k × (get_or (placed d (suc at) xs l') k (pos 0) ≡ get_or l' k (pos 0)) → Placed at (x ∷ xs) l
      none-later r = go (eqb key k) refl
        where
          go : (t : Bool) → eqb key k ≡ t → Placed at (x ∷ xs) l
          go true e = inr (0, record { inside = suc-le-suc zero-le; has = eqb-true key k e; last = last }, r.1 ∙ here ∙ ap pos (sym (add-zero at)))
            where
              here : get_or l' k (pos 0) ≡ pos at
              here = rw (eqb-true key k e) (get_or-set_same l k (pos at) (pos 0) h)

              last : (j : ℕ) → j < suc (length xs) → mesh_at d (x ∷ xs) j ≡ k → j ≤ 0
              last zero h e = zero-le
              last (suc j) h e = absurd (r.0 j (le_of_suc-le-suc h) e)
          go false e = inl (free, r.1 ∙ get_or-set_other l key k (pos at) (pos 0) (λ i. eqb-false key k e (sym i)))
            where
              free : Free (mesh_at d (x ∷ xs)) (suc (length xs)) k
              free zero h i = eqb-false key k e i
              free (suc j) h i = r.0 j (le_of_suc-le-suc h) i

-- ---- images of different points never share a place of the mesh
module _ (d : Vec ℕ) (g : ℕ → List (Vec ℤ)) (h : Sides d) (f : Folded d g) where
  pub mesh-apart : (p q : ℕ) → p < size d → q < size d → {u v : Vec ℤ} → u ∈ g p → v ∈ g q → index (doubled d) u ≡ index (doubled d) v → p ≡ q
  mesh-apart p q l m {u} {v} i j e = sym (f.folds p l i) ∙ doubled-index d h u v e ∙ f.folds q m j

-- ---- the table of the images of each point
pub address-at : (xs : List Image) (r : List ℤ) (j : ℕ) → j < length xs → triple_at (address_list xs ++ r) j ≡ (get_or xs j none).address
address-at xs r j h =
    ap (triple_at (address_list xs ++ r)) (sym (length-take-le j xs (le_of_lt h)))
    ∙ address-reads xs r (take j xs) (get_or xs j none) (drop (suc j) xs) (split_at xs j none h)

-- where the address at a place falls
abbrev pub key_of : Vec ℕ → List ℤ → ℕ → ℕ
key_of d addresses i = index (doubled d) (triple_at addresses i)

-- the map of a table of m places: the last place whose address falls there, or 8 N
pub record Mesh (d : Vec ℕ) (addresses map : List ℤ) (m : ℕ) : Type 0 where
  pub at : (k : ℕ) → k < 8 * size d
      → (Free (key_of d addresses) m k × (place_at map k ≡ got (8 * size d))) ⊎ ((i : ℕ) × Last (key_of d addresses) m k i × (place_at map k ≡ got i))

module _ (d : Vec ℕ) (g : ℕ → List Image) (few : length (sparse g (size d)) ≤ 1099511627776) (points : size d ≤ 65536) (a b : ℕ) where
  abbrev n : ℕ
  n = size d

  abbrev table : List Image
  table = sparse g n

  abbrev addresses : List ℤ
  addresses = padded (address_list table) a

  abbrev rest : List ℤ
  rest = replicate (b - length (sparse_map d g)) (negsuc 0)

  abbrev map : List ℤ
  map = padded (sparse_map d g) b

  abbrev blank : List ℤ
  blank = replicate (8 * n) (pos (8 * n))

  abbrev mesh : List ℤ
  mesh = placed d 0 table blank

  on-mesh : (k : ℕ) → k < 8 * n → {i : ℕ} → get_or mesh k (pos 0) ≡ pos i → i ≤ 1099511627776 → place_at map k ≡ got i
  on-mesh k l e low =
      place-read map k (omega (arith, l, sparse-room d g rest))
      (ap (λ l. get_or l k (pos 0)) (append_assoc mesh counts rest)
      ∙ get_or-append mesh (counts ++ rest) (pos 0) k (omega (arith, length-placed d 0 table blank, length-replicate (8 * n) (pos (8 * n)))) ∙ e) low
    where
      counts : List ℤ
      counts = listed (λ i. pos (length (concat (others g) i))) (n + 1)

  abbrev key : ℕ → ℕ
  key = key_of d addresses

  abbrev MeshIs : ℕ → Type 0
  MeshIs k = (Free key (length table) k × (place_at map k ≡ got (8 * n))) ⊎ ((i : ℕ) × Last key (length table) k i × (place_at map k ≡ got i))

  mesh-is : (k : ℕ) → k < 8 * n → MeshIs k
  mesh-is k l = ⊎_elim free last (placed-is d k 0 table blank (omega (arith, length-replicate (8 * n) (pos (8 * n)))))
    where
      same : (j : ℕ) → j < length table → key j ≡ mesh_at d table j
      same j m = ap (index (doubled d)) (address-at table (replicate (a - length (address_list table)) (negsuc 0)) j m)

      free : Free (mesh_at d table) (length table) k × (get_or mesh k (pos 0) ≡ get_or blank k (pos 0)) → MeshIs k
      free r =
          inl (λ j m e. r.0 j m (sym (same j m) ∙ e), on-mesh k l (r.1 ∙ get_or-replicate (8 * n) k (pos (8 * n)) (pos 0) l) (omega (arith, points)))

      last : (i : ℕ) × Last (mesh_at d table) (length table) k i × (get_or mesh k (pos 0) ≡ pos (0 + i)) → MeshIs k
      last r =
          let w = r.1 in
          inr (
            r.0,
            record { inside = w.inside; has = same r.0 w.inside ∙ w.has; last = λ j m e. w.last j m (sym (same j m) ∙ e) },
            on-mesh k l (r.2 ∙ ap pos (zero-add r.0)) (omega (arith, few, w.inside)),
          )

  pub table-mesh : Mesh d addresses map (length table)
  table-mesh = record { at = mesh-is }

-- ---- of an image: the last of its point's places that falls where it does
module _ {d : Vec ℕ} {g : ℕ → List (Vec ℤ)} {addresses map points : List ℤ} {m : ℕ} (s : Sides d) (h : Folded d g)
    (w : Stands Sparse (size d) g addresses map points m) (e : Mesh d addresses map m) where
  pub image-on-mesh : (p : ℕ) → p < size d → {v : Vec ℤ} → v ∈ g p
      → (i : ℕ) × (place_at map (index (doubled d) v) ≡ got i) × LastOf (w.places p) (key_of d addresses) (index (doubled d) v) i
  image-on-mesh p l {v} i = ⊎_elim (λ f. absurd (f.0 o.0 (w.inside p l o.1) (ap (index (doubled d)) o.2))) found (e.at k (doubled-lt d s v))
    where
      k : ℕ
      k = index (doubled d) v

      o : (i : ℕ) × (i ∈ w.places p) × (triple_at addresses i ≡ v)
      o = image-place w p l i

      found : (i : ℕ) × Last (key_of d addresses) m k i × (place_at map k ≡ got i) → (i : ℕ) × (place_at map k ≡ got i) × LastOf (w.places p) (key_of d addresses) k i
      found r =
          (r.0, r.2, record { among = subst (λ (q : ℕ). r.0 ∈ w.places q) owner u.2; has = r.1.has; last = λ j i f. r.1.last j (w.inside p l i) f })
        where
          u : (q : ℕ) × (q < size d) × (r.0 ∈ w.places q)
          u = w.owner r.0 r.1.inside

          owner : u.0 ≡ p
          owner = sym (place-folds w h u.0 u.1 u.2) ∙ doubled-index d s (triple_at addresses r.0) v r.1.has ∙ h.folds p l i
