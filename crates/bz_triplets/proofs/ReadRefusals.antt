-- Reading the triplets is refused by 14 alone.
use mathlib.Core.List.{List, [], ◌∷◌, foldl}
use Prim.Native.Nat.{ℕ}
use lib.IntN.{ℤ, nat_abs}
use lib.Ieee.{Float}
use lib.ListN.{length}
use Rattle.std.specs.Prelude.{Ok, Err}
use Rattle.common.specs.Matrix.{Vec}
use Rattle.common.specs.Array.{sides_of}
use Rattle.common.specs.declared.Refusal.{Refusal}
use Rattle.common.specs.declared.Refusal.TheVariants.{OutsideTable}
use Rattle.common.proofs.RefusedBy.{RefusedBy, given, by-then}
use Rattle.grgrid.specs.Own.{own_points}
use Rattle.grgrid.specs.Grid.{size, index}
use Rattle.bzgrid.specs.declared.GridType.{GridType}
use Rattle.bztable.specs.Access.{image_places, first_place}
use Rattle.bztable.specs.Reading.{Read, got, address_at, address_of, read_each}
use Rattle.bztable.proofs.ReadRefusals.{by-address, by-address-of, by-images, by-first}
use Rattle.triplet_grid.specs.Partner.{third}
use Rattle.bz_triplets.specs.Choosing.{start, left, closed, nested}
use Rattle.bz_triplets.specs.BzTriplets.{State, Walk, try_read, try_at, chosen, first_of, triplet_of, triplet_at, triplets_read, walk_of, point_of}

-- what each step of a walk keeps
module _ {S : Type 0} (Q : S → Type 0) where
  kept : {A : Type 0} (step : S → A → S) → ((s : S) (a : A) → Q s → Q (step s a)) → (s : S) (l : List A) → Q s → Q (foldl step s l)
  kept step f s [] h = h
  kept step f s (a ∷ l) h = kept step f (step s a) l (f s a h)

  kept-nested : {X : Type 0} (step : S → Vec X → S) → ((s : S) (a : Vec X) → Q s → Q (step s a)) → (s : S) (l : Vec (List X)) → Q s → Q (nested step s l)
  kept-nested step f s l =
      kept _ (λ s a. kept _ (λ s b. kept _ (λ s c. f s (record { x = a; y = b; z = c })) s l.z) s l.y) s l.x

module _ (P : Refusal → Type 0) (p : P OutsideTable) where
  by-choice : (w : Walk) (s : State) (c : Vec ℕ) → RefusedBy P (try_read w s c)
  by-choice w s c =
      by-then P (address_at w.addresses c.x) (by-address P p w.addresses c.x) (λ x.
      by-then P (address_at w.addresses c.y) (by-address P p w.addresses c.y) (λ y.
      by-then P (address_at w.addresses c.z) (by-address P p w.addresses c.z) (λ z. given P)))

  by-step : (w : Walk) (s : Read State) (c : Vec ℕ) → RefusedBy P s → RefusedBy P (try_at w s c)
  unfolding try_at
  by-step w (Ok start) c h = by-choice w start c
  by-step w (Ok (left x b)) c h = by-choice w (left x b) c
  by-step w (Ok (closed b)) c h = given P
  by-step w (Err r) c h = h

  by-chosen : (t : GridType) (n : ℕ) (map : List ℤ) (w : Walk) (q0 q1 q2 : ℕ) → RefusedBy P (chosen t n map w q0 q1 q2)
  unfolding chosen
  by-chosen t n map w q0 q1 q2 =
      by-then P (image_places t map n q0) (by-images P p t map n q0) (λ x.
      by-then P (image_places t map n q1) (by-images P p t map n q1) (λ y.
      by-then P (image_places t map n q2) (by-images P p t map n q2) (λ z.
      kept-nested (RefusedBy P) (try_at w) (by-step w) (got start) (record { x = x; y = y; z = z }) (given P))))

  by-class : (t : GridType) (d : Vec ℕ) (map : List ℤ) (w : Walk) (a0 : Vec ℤ) (q0 q1 : ℕ) → RefusedBy P (triplet_of t d map w a0 q0 q1)
  unfolding triplet_of
  by-class t d map w a0 q0 q1 =
      by-then P (first_of map w.addresses t q1) (by-then P (first_place t map q1) (by-first P p t map q1) (by-address P p w.addresses))
      (λ a1. by-chosen t (size d) map w q0 q1 (index d (third a0 a1)))

  by-each : {A : Type 0} (f : ℕ → Read A) → ((q : ℕ) → RefusedBy P (f q)) → (l : List ℕ) → RefusedBy P (read_each f l)
  by-each f h [] = given P
  by-each f h (q ∷ l) = by-then P (f q) (h q) (λ s. by-then P (read_each f l) (by-each f h l) (λ r. given P))

  pub by-triplets : (q0 : ℤ) (addresses map classes d : List ℤ) (q : List (List ℤ)) (lattice : List (List Float)) (t : GridType) → RefusedBy P (triplets_read q0 addresses map classes d q lattice t)
  unfolding triplets_read
  by-triplets q0 addresses map classes d q lattice t =
      by-then P (address_of addresses q0) (by-address-of P p addresses q0) (λ a0.
      by-each (triplet_at q0 addresses map classes d q lattice t a0) (by-class t (sides_of d) map (walk_of addresses d q lattice) a0 (point_of (sides_of d) t (nat_abs q0) a0)) (own_points classes (length classes)))
