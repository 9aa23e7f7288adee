-- A read of an image table is refused by 14 alone.
use mathlib.Core.Bool.{Bool, true, false}
use mathlib.Core.List.{List}
use Prim.Native.Nat.{ℕ, ◌+◌, ◌*◌}
use lib.Dec.{ltb}
use lib.IntN.{ℤ, pos, negsuc}
use lib.ListN.{length, get_or}
use Rattle.common.specs.declared.Refusal.{Refusal}
use Rattle.common.specs.declared.Refusal.TheVariants.{OutsideTable}
use Rattle.common.proofs.RefusedBy.{RefusedBy, given, by, by-then}
use Rattle.bzgrid.specs.declared.GridType.{GridType}
use Rattle.bzgrid.specs.declared.GridType.TheVariants.{Sparse, Dense}
use Rattle.bztable.specs.Reading.{inside, address_at, address_of, place_of, place_at}
use Rattle.bztable.specs.Access.{bounded, run_of, image_places, first_place}

module _ (P : Refusal → Type 0) (p : P OutsideTable) where
  by-inside : {A : Type 0} (b : Bool) (a : A) → RefusedBy P (inside b a)
  by-inside true a = given P
  by-inside false a = by P p

  pub by-address : (l : List ℤ) (i : ℕ) → RefusedBy P (address_at l i)
  by-address l i = by-inside _ _

  pub by-address-of : (l : List ℤ) (i : ℤ) → RefusedBy P (address_of l i)
  by-address-of l (pos i) = by-address l i
  by-address-of l (negsuc i) = by P p

  by-number : (n : ℤ) → RefusedBy P (place_of n)
  by-number (pos n) = by-inside _ _
  by-number (negsuc n) = by P p

  by-place : (map : List ℤ) (i : ℕ) → RefusedBy P (place_at map i)
  by-place map i = by-then P (inside (ltb i (length map)) (get_or map i (pos 0))) (by-inside (ltb i (length map)) (get_or map i (pos 0))) by-number

  by-bounded : (map : List ℤ) (k first : ℕ) → RefusedBy P (bounded map k first)
  by-bounded map k first = by-then P (place_at map k) (by-place map k) (λ s. by-then P (place_at map (k + 1)) (by-place map (k + 1)) (λ e. given P))

  by-run : (t : GridType) (map : List ℤ) (n q : ℕ) → RefusedBy P (run_of t map n q)
  by-run Sparse map n q = by-bounded map (8 * n + q) n
  by-run Dense map n q = by-bounded map q 0

  pub by-images : (t : GridType) (map : List ℤ) (n q : ℕ) → RefusedBy P (image_places t map n q)
  by-images t map n q = by-then P (run_of t map n q) (by-run t map n q) (λ r. given P)

  pub by-first : (t : GridType) (map : List ℤ) (q : ℕ) → RefusedBy P (first_place t map q)
  by-first Sparse map q = given P
  by-first Dense map q = by-place map q
