-- A table that can be read, place by place: the numbers of its map and its addresses.
use mathlib.Core.Path.{◌≡◌, refl, sym, ◌∙◌, ap}
use mathlib.Core.Bool.{Bool, ◌&&◌}
use Prim.Native.Nat.{ℕ, zero, suc, ◌*◌, ◌/◌, ◌≤◌, ◌<◌}
use native.Mathlib.Nat.{le_refl}
use native.Mathlib.Omega.{arith}
use lib.Dec.{T, ltb, ltb→lt}
use lib.IntN.{pos, nat_abs}
use lib.ListN.{length, get_or}
use Rattle.std.specs.Prelude.{Ok, Err}
use Rattle.integer.proofs.Test.{and_l}
use Rattle.common.specs.Matrix.{Vec}
use Rattle.grgrid.specs.Grid.{size}
use Rattle.bzgrid.specs.declared.GridType.{GridType}
use Rattle.bzgrid.specs.BzGridAddresses.{map_length}
use Rattle.bzgrid.proofs.Accepted.{passes-first}
use Rattle.bztable.specs.Reading.{Read, got, inside, near, triple_at, address_at, place_at}
use Rattle.bztable.proofs.TableRead.{inside-got, place-got, place-inside, address-got}
use Rattle.bzconvert.specs.Layout.{Table, counted, is_read, all_read, table_read}
use Rattle.bzconvert.proofs.Readable.{inside-read, parts}

what-is-read : {A : Type 0} (x : Read A) → T (is_read x) → (a : A) × (x ≡ got a)
what-is-read (Ok a) t = (a, refl)
what-is-read (Err r) t = absurd t

module _ (t : GridType) (d : Vec ℕ) (x : Table) {m : ℕ} (e : table_read t d x ≡ got m) where
  abbrev maps : ℕ → ℕ
  maps i = nat_abs (get_or x.map i (pos 0))

  pub map-read : (i : ℕ) → i < map_length t d → place_at x.map i ≡ got (maps i)
  map-read i l =
      let r = what-is-read (place_at x.map i) ((parts t d x e).map i l) in
      r.1 ∙ ap got (sym (ap nat_abs (place-got x.map i r.1)))

  pub map-number : (i : ℕ) → i < map_length t d → get_or x.map i (pos 0) ≡ pos (maps i)
  map-number i l = place-got x.map i (map-read i l)

  pub map-room : (i : ℕ) → i < map_length t d → i < length x.map
  map-room i l = place-inside x.map i (map-read i l)

  pub image-read : (i : ℕ) → i < m → address_at x.addresses i ≡ got (triple_at x.addresses i)
  image-read i l =
      let r = what-is-read (address_at x.addresses i) ((parts t d x e).images i l) in
      r.1 ∙ ap got (sym (address-got x.addresses i r.1))

  pub addresses-room : 3 * m ≤ length x.addresses
  addresses-room = go m room
    where
      whole : ℕ → Bool
      whole i = ltb i (length x.addresses / 3)

      room : (i : ℕ) → i < m → i < length x.addresses / 3
      room i l =
          let a = triple_at x.addresses i in
          let h = inside-read (whole i && near a) a ((parts t d x e).images i l) in
          ltb→lt i (length x.addresses / 3) (and_l (whole i) (near a) h)

      go : (k : ℕ) → ((i : ℕ) → i < k → i < length x.addresses / 3) → 3 * k ≤ length x.addresses
      go zero h = omega arith
      go (suc k) h = omega (arith, h k (le_refl (suc k)))

  pub counted-is : counted t x.map (size d) ≡ got m
  unfolding table_read
  counted-is =
      let r = passes-first (counted t x.map (size d)) (λ m. inside (all_read t d x m) m) e in
      r.1 ∙ ap got (inside-got (all_read t d x r.0) r.2)
