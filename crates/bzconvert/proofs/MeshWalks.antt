-- The two walks over the doubled mesh: each place holds the last image that falls there, or 8 N where none does.
use mathlib.Core.Path.{◌≡◌, refl, sym, ◌∙◌, ap, subst}
use mathlib.Core.Logic.{◌⊎◌, inl, inr, ⊎_elim}
use mathlib.Core.Bool.{Bool, true, false, ◌&&◌, ◌||◌}
use mathlib.Core.List.{List}
use Prim.Native.Nat.{ℕ, zero, suc, ◌+◌, ◌*◌, ◌≤◌, ◌<◌}
use native.Mathlib.Nat.{le_refl, le_of_suc-le-suc, eq-or-lt_of_le, not-suc-le-zero, zero-add}
use native.Mathlib.Omega.{arith}
use lib.Dec.{T, ltb, leb, eqb, eqb→eq, eqb_refl, ltb→lt, lt→ltb, leb→le, le→leb}
use lib.IntN.{ℤ, pos}
use lib.ListN.{length, get_or, replicate, length-replicate, get_or-replicate}
use Rattle.integer.proofs.Test.{and_l, and_r, and_in, or_l, or_r, or-of, holds as true-holds}
use Rattle.common.specs.Matrix.{Vec, origin}
use Rattle.grgrid.specs.Grid.{size, index}
use Rattle.grgrid.proofs.Folding.{Sides}
use Rattle.bzgrid.specs.Table.{Image, image_of, doubled, placed, empty}
use Rattle.bztable.specs.Reading.{got, triple_at, address_at, place_at}
use Rattle.bztable.proofs.DoubledMesh.{Free, Last, key_of, doubled-lt, placed-is}
use Rattle.bzconvert.specs.Layout.{Table, all_below}
use Rattle.bzconvert.specs.Code.ByPlaces.{if_read, falls, image_falls, mesh_holds, mesh_keeps, mesh_finds}
use Rattle.bzconvert.proofs.Tests.{below-of, of-below}

eq-in : (a b : ℕ) → a ≡ b → T (eqb a b)
eq-in a b e = subst (λ (b : ℕ). T (eqb a b)) e (eqb_refl a)

-- place k of the mesh, where v stands: of m images the last that falls there, or 8 N
abbrev pub OnMesh : Vec ℕ → (addresses : List ℤ) → (m k v : ℕ) → Type 0
OnMesh d addresses m k v = (Free (key_of d addresses) m k × (v ≡ 8 * size d)) ⊎ Last (key_of d addresses) m k v

-- whether one of the first j falls there
falls-or : (key : ℕ → ℕ) (m k j : ℕ) → j ≤ m → Free key j k ⊎ ((i : ℕ) × (i < m) × (key i ≡ k))
falls-or key m k zero h = inl (λ j l e. not-suc-le-zero l)
falls-or key m k (suc j) h = ⊎_elim (λ f. go (eqb (key j) k) refl f) inr (falls-or key m k j (omega arith))
  where
    go : (b : Bool) → eqb (key j) k ≡ b → Free key j k → Free key (suc j) k ⊎ ((i : ℕ) × (i < m) × (key i ≡ k))
    go true e f = inr (j, omega arith, eqb→eq (key j) k (true-holds e))
    go false e f = inl (λ i l g. ⊎_elim (λ p. subst T e (eq-in (key j) k (ap key (sym p) ∙ g))) (λ l. f i l g) (eq-or-lt_of_le (le_of_suc-le-suc l)))

-- ---- of a table that can be read: place k of the mesh holds the number held k
module _ (d : Vec ℕ) (s : Sides d) (x : Table) (m : ℕ) (held : ℕ → ℕ) (map-read : (k : ℕ) → k < 8 * size d → place_at x.map k ≡ got (held k))
    (addresses-read : (i : ℕ) → i < m → address_at x.addresses i ≡ got (triple_at x.addresses i)) where
  abbrev key : ℕ → ℕ
  key = key_of d x.addresses

  falls-is : (k v : ℕ) → v < m → falls (doubled d) x.addresses k v ≡ eqb (key v) k
  falls-is k v l = ap (if_read (λ a. eqb (index (doubled d) a) k)) (addresses-read v l)

  falls-of : (k v : ℕ) → T (image_falls d x m k v) → (v < m) × (key v ≡ k)
  falls-of k v t =
      let l = ltb→lt v m (and_l (ltb v m) (falls (doubled d) x.addresses k v) t) in
      (l, eqb→eq (key v) k (subst T (falls-is k v l) (and_r (ltb v m) (falls (doubled d) x.addresses k v) t)))

  of-falls : (k v : ℕ) → v < m → key v ≡ k → T (image_falls d x m k v)
  of-falls k v l e = and_in (ltb v m) (falls (doubled d) x.addresses k v) (lt→ltb v m l) (subst T (sym (falls-is k v l)) (eq-in (key v) k e))

  holds-is : (k : ℕ) → k < 8 * size d → mesh_holds d x m k ≡ (eqb (held k) (empty d) || image_falls d x m k (held k))
  holds-is k l = ap (if_read (λ v. eqb v (empty d) || image_falls d x m k v)) (map-read k l)

  finds-is : (i : ℕ) → i < m → mesh_finds d x m i ≡ (leb i (held (key i)) && image_falls d x m (key i) (held (key i)))
  finds-is i l =
      ap (if_read (λ a. mesh_keeps d x m i (index (doubled d) a))) (addresses-read i l)
      ∙ ap (if_read (λ v. leb i v && image_falls d x m (key i) v)) (map-read (key i) (doubled-lt d s (triple_at x.addresses i)))

  module _ (a : T (all_below (mesh_holds d x m) (empty d))) (b : T (all_below (mesh_finds d x m) m)) where
    finds : (i : ℕ) → i < m → (i ≤ held (key i)) × (held (key i) < m) × (key (held (key i)) ≡ key i)
    finds i l =
        let v = held (key i) in
        let t = subst T (finds-is i l) (below-of (mesh_finds d x m) m b i l) in
        let f = falls-of (key i) v (and_r (leb i v) (image_falls d x m (key i) v) t) in
        (leb→le i v (and_l (leb i v) (image_falls d x m (key i) v) t), f.0, f.1)

    pub mesh-of : (k : ℕ) → k < 8 * size d → OnMesh d x.addresses m k (held k)
    mesh-of k l = ⊎_elim free last (falls-or key m k m (le_refl m))
      where
        free : Free key m k → OnMesh d x.addresses m k (held k)
        free f =
            ⊎_elim (λ t. inl (f, eqb→eq (held k) (empty d) t)) (λ t. let r = falls-of k (held k) t in absurd (f (held k) r.0 r.1))
            (or-of (eqb (held k) (empty d)) (image_falls d x m k (held k)) (subst T (holds-is k l) (below-of (mesh_holds d x m) (empty d) a k l)))

        last : (i : ℕ) × (i < m) × (key i ≡ k) → OnMesh d x.addresses m k (held k)
        last r =
            let f = finds r.0 r.1 in
            let e : held (key r.0) ≡ held k = ap held r.2 in
            inr (record {
              inside = subst (λ (v : ℕ). v < m) e f.1;
              has = ap key (sym e) ∙ f.2 ∙ r.2;
              last = λ j h g. subst (λ (v : ℕ). j ≤ v) (ap held g) (finds j h).0;
            })

  module _ (h : (k : ℕ) → k < 8 * size d → OnMesh d x.addresses m k (held k)) where
    pub all-hold : T (all_below (mesh_holds d x m) (empty d))
    all-hold = of-below (mesh_holds d x m) (empty d) (λ k l. subst T (sym (holds-is k l)) (⊎_elim
        (λ f. or_l (eqb (held k) (empty d)) (image_falls d x m k (held k)) (eq-in (held k) (empty d) f.1))
        (λ f. or_r (eqb (held k) (empty d)) (image_falls d x m k (held k)) (of-falls k (held k) f.inside f.has)) (h k l)))

    pub all-found : T (all_below (mesh_finds d x m) m)
    all-found = of-below (mesh_finds d x m) m (λ i l.
        let v = held (key i) in
        subst T (sym (finds-is i l)) (⊎_elim (λ f. absurd (f.0 i l refl))
        (λ f. and_in (leb i v) (image_falls d x m (key i) v) (le→leb i v (f.last i l refl)) (of-falls (key i) v f.inside f.has))
        (h (key i) (doubled-lt d s (triple_at x.addresses i)))))

-- ---- and as the layout places them
module _ (d : Vec ℕ) (addresses : List ℤ) (table : List Image)
    (same : (i : ℕ) → i < length table → index (doubled d) (get_or table i (image_of 0 origin)).address ≡ key_of d addresses i) where
  abbrev laid : List ℤ
  laid = placed d 0 table (replicate (empty d) (pos (empty d)))

  room : (k : ℕ) → k < 8 * size d → k < length (replicate (empty d) (pos (empty d)))
  room k l = omega (arith, length-replicate (empty d) (pos (empty d)))

  blank : (k : ℕ) → k < 8 * size d → get_or (replicate (empty d) (pos (empty d))) k (pos 0) ≡ pos (8 * size d)
  blank k l = get_or-replicate (empty d) k (pos (empty d)) (pos 0) l

  pub laid-mesh : (k : ℕ) → k < 8 * size d → {v : ℕ} → get_or laid k (pos 0) ≡ pos v → OnMesh d addresses (length table) k v
  laid-mesh k l {v} e = ⊎_elim
      (λ r. let f : v ≡ 8 * size d = number (sym e ∙ r.1 ∙ blank k l) in inl (λ j h g. r.0 j h (same j h ∙ g), f))
      (λ r. let f : v ≡ r.0 = number (sym e ∙ r.2) ∙ zero-add r.0 in
      let w = r.1 in
      let last : Last (key_of d addresses) (length table) k r.0 = record {
        inside = w.inside;
        has = sym (same r.0 w.inside) ∙ w.has;
        last = λ j h g. w.last j h (same j h ∙ g);
      } in
      inr (subst (Last (key_of d addresses) (length table) k) (sym f) last))
      (placed-is d k 0 table (replicate (empty d) (pos (empty d))) (room k l))
    where
      number : {a b : ℕ} → pos a ≡ pos b → a ≡ b
      number e = cc

  pub mesh-laid : (k : ℕ) → k < 8 * size d → {v : ℕ} → OnMesh d addresses (length table) k v → get_or laid k (pos 0) ≡ pos v
  mesh-laid k l {v} h = ⊎_elim free last h
    where
      free : Free (key_of d addresses) (length table) k × (v ≡ 8 * size d) → get_or laid k (pos 0) ≡ pos v
      free f =
          ⊎_elim (λ r. r.1 ∙ blank k l ∙ ap pos (sym f.1)) (λ r. let w = r.1 in absurd (f.0 r.0 w.inside (sym (same r.0 w.inside) ∙ w.has)))
          (placed-is d k 0 table (replicate (empty d) (pos (empty d))) (room k l))

      last : Last (key_of d addresses) (length table) k v → get_or laid k (pos 0) ≡ pos v
      last f =
          ⊎_elim (λ r. absurd (r.0 v f.inside (same v f.inside ∙ f.has)))
          (λ r. let w = r.1 in
          let up = w.last v f.inside (same v f.inside ∙ f.has) in
          let down = f.last r.0 w.inside (sym (same r.0 w.inside) ∙ w.has) in
          let e : 0 + r.0 ≡ v = omega arith in r.2 ∙ ap pos e)
          (placed-is d k 0 table (replicate (empty d) (pos (empty d))) (room k l))
