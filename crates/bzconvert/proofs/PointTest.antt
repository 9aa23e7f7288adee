-- The test of a point by its places: its list is good, and the third table names the point at each of its places.
use mathlib.Core.Path.{◌≡◌, refl, sym, ◌∙◌, ap, subst}
use mathlib.Core.Bool.{Bool, not, ◌&&◌}
use mathlib.Core.List.{List}
use Prim.Native.Nat.{ℕ, ◌<◌}
use lib.Dec.{T, eqb, eqb→eq, eqb_refl}
use lib.IntN.{ℤ}
use lib.ListN.{length}
use Rattle.std.specs.Prelude.{Ok, Err}
use Rattle.integer.proofs.Test.{and_l, and_r, and_in}
use Rattle.common.specs.Every.{every}
use Rattle.common.specs.Matrix.{Vec, origin, same_vector}
use Rattle.common.specs.Tested.{◌then◌}
use Rattle.common.proofs.Every.{every_of, of-every}
use Rattle.grgrid.specs.Grid.{size, index}
use Rattle.grgrid.specs.Lists.{◌∈◌}
use Rattle.bzgrid.specs.declared.GridType.{GridType}
use Rattle.bzgrid.proofs.Accepted.{passes-first}
use Rattle.bztable.specs.Access.{image_places}
use Rattle.bztable.specs.Reading.{Read, got, list_of, address_at, place_at, read_each}
use Rattle.bztable.proofs.EachRead.{each-read}
use Rattle.bzconvert.specs.Layout.{Table, list_at, good_list}
use Rattle.bzconvert.specs.Code.ByPlaces.{if_read, falls, holds, image_stands, apart, pairwise, images_stand, point_stands}
use Rattle.bzconvert.proofs.Tests.{list-good}
use Rattle.bzconvert.proofs.PlaceTests.{passes-read, every-read, pairwise-read, all-read, repeats}
use native.Mathlib.Omega.{arith}

pub holds-of : (l : List ℤ) (n i : ℕ) → T (holds l n i) → place_at l i ≡ got n
holds-of l n i t = let r = passes-read (λ v. eqb v n) (place_at l i) t in r.1 ∙ ap got (eqb→eq r.0 n r.2)

pub of-holds : (l : List ℤ) (n i : ℕ) → place_at l i ≡ got n → T (holds l n i)
of-holds l n i e = subst (λ x. T (if_read (λ v. eqb v n) x)) (sym e) (eqb_refl n)

module _ (t : GridType) (d : Vec ℕ) (x : Table) (p : ℕ) where
  -- the places of a point whose images are read, and the list that they hold
  pub record Point : Type 0 where
    pub places : List ℕ
    pub placed : image_places t x.map (size d) p ≡ got places
    pub list : List (Vec ℤ)
    pub read : read_each (address_at x.addresses) places ≡ got list
    pub good : T (good_list d p list)
    pub named : (i : ℕ) → i ∈ places → place_at x.grg i ≡ got p

  module _ (places : List ℕ) where
    abbrev has : Bool
    has = not (eqb (length places) 0)

    abbrev stand : Bool
    stand = every (image_stands d x p) places

    abbrev once : Bool
    once = pairwise (apart x.addresses) places

    abbrev folded : Bool
    folded = every (falls d x.addresses p) places

    -- the three tests are those of the list
    tests : {l : List (Vec ℤ)} → read_each (address_at x.addresses) places ≡ got l → (has && (folded && once)) ≡ good_list d p l
    tests {l} e =
        λ i. not (eqb (sym ((each-read 0 origin (address_at x.addresses) places e).0) i) 0)
        && (every-read (address_at x.addresses) (λ a. eqb (index d a) p) places e i
        && (pairwise-read (address_at x.addresses) (λ a b. not (same_vector a b)) places e ∙ repeats l) i)

  pub point-of : T (point_stands t d x p) → Point
  point-of h =
      let r = passes-read (images_stand d x p) (image_places t x.map (size d) p) h in
      let l = r.0 in
      let u = and_r (has l) (stand l && once l) r.2 in
      let each : (i : ℕ) → i ∈ l → T (image_stands d x p i) = every_of (image_stands d x p) l (and_l (stand l) (once l) u) in
      let fold : (i : ℕ) → i ∈ l → T (falls d x.addresses p i) = λ i m. and_l (falls d x.addresses p i) (holds x.grg p i) (each i m) in
      let a = all-read (address_at x.addresses) l (λ i m. let s = passes-read (λ a. eqb (index d a) p) (address_at x.addresses i) (fold i m) in (s.0, s.1)) in
      record {
        places = l;
        placed = r.1;
        list = a.0;
        read = a.1;
        good = subst T (tests l a.1) (and_in (has l) (folded l && once l) (and_l (has l) (stand l && once l) r.2)
            (and_in (folded l) (once l) (of-every (falls d x.addresses p) l fold) (and_r (stand l) (once l) u)));
        named = λ i m. holds-of x.grg p i (and_r (falls d x.addresses p i) (holds x.grg p i) (each i m));
      }

  pub of-point : Point → T (point_stands t d x p)
  of-point w =
      let l = w.places in
      let g = subst T (sym (tests l w.read)) w.good in
      let u = and_r (has l) (folded l && once l) g in
      let each : (i : ℕ) → i ∈ l → T (image_stands d x p i) = λ i m.
      and_in (falls d x.addresses p i) (holds x.grg p i) (every_of (falls d x.addresses p) l (and_l (folded l) (once l) u) i m)
      (of-holds x.grg p i (w.named i m)) in
      subst (λ r. T (if_read (images_stand d x p) r)) (sym w.placed)
      (and_in (has l) (stand l && once l) (and_l (has l) (folded l && once l) g)
      (and_in (stand l) (once l) (of-every (image_stands d x p) l each) (and_r (folded l) (once l) u)))

  -- the list is the one that is read
  pub point-list : (w : Point) → list_at t d x p ≡ w.list
  point-list w = ap list_of ((λ i. w.placed i then read_each (address_at x.addresses)) ∙ w.read)

-- a list that is read, and is not empty
whole : {A : Type 0} (y : Read (List A)) → 0 < length (list_of y) → y ≡ got (list_of y)
whole (Ok l) h = refl
whole (Err r) h = absurd (omega arith)

module _ (t : GridType) (d : Vec ℕ) (x : Table) (p : ℕ) (good : T (good_list d p (list_at t d x p))) where
  -- the places of a point whose list is good
  pub places-read : (l : List ℕ) × (image_places t x.map (size d) p ≡ got l) × (read_each (address_at x.addresses) l ≡ got (list_at t d x p))
  places-read =
      passes-first (image_places t x.map (size d) p) (read_each (address_at x.addresses))
      (whole (image_places t x.map (size d) p then read_each (address_at x.addresses)) (list-good d p (list_at t d x p) good).some)

  pub good-point : ((l : List ℕ) → image_places t x.map (size d) p ≡ got l → (i : ℕ) → i ∈ l → place_at x.grg i ≡ got p) → Point t d x p
  good-point named =
      let r = places-read in
      record { places = r.0; placed = r.1; list = list_at t d x p; read = r.2; good = good; named = named r.0 r.1 }
