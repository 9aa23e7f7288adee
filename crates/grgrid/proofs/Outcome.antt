-- The outcome of a call, once its tests are known.
use mathlib.Core.Path.{◌≡◌, sym, ◌∙◌, ap}
use mathlib.Core.List.{List, map}
use Prim.Native.Nat.{ℕ}
use lib.IntN.{ℤ, pos, negsuc}
use lib.ListN.{replicate}
use Rattle.std.specs.Prelude.{Ok, Err}
use Rattle.common.specs.declared.Refusal.{Refusal}
use Rattle.common.specs.Array.{vector_of, sides_of, matrices}
use Rattle.common.specs.Tested.{giving, output_of, Tested, Accepted}
use Rattle.grgrid.specs.Grid.{size}
use Rattle.grgrid.specs.ClassMap.{class_map_of, classes}
use Rattle.grgrid.specs.IrGridMap.{map_tests, ir_grid_map}
use Rattle.grgrid.specs.Addresses.{addresses, address_tests, all_grid_addresses}

-- ---- ir_grid_map
module _ (rotations d ps : List ℤ) (n : ℕ) where
  abbrev count : ℕ
  count = classes (sides_of d) (vector_of ps) (matrices rotations)

  abbrev numbers : List ℤ
  numbers = map pos (class_map_of (sides_of d) (vector_of ps) (matrices rotations))

  map-by : {t : Tested} → map_tests rotations d ps n ≡ t → record { answer = giving t (pos count); map = output_of t n numbers } ≡ ir_grid_map rotations d ps n
  unfolding ir_grid_map
  map-by e = ap (λ t. record { answer = giving t (pos count); map = output_of t n numbers }) (sym e)

  pub mapped : map_tests rotations d ps n ≡ Accepted → {k : ℤ} → k ≡ pos count → {l : List ℤ} → l ≡ numbers → record { answer = Ok k; map = l } ≡ ir_grid_map rotations d ps n
  mapped e f g = (λ i. record { answer = Ok (f i); map = g i }) ∙ map-by e

  pub map-refused : {x : Refusal} → map_tests rotations d ps n ≡ Err x → {l : List ℤ} → l ≡ replicate n (negsuc 0) → record { answer = Err x; map = l } ≡ ir_grid_map rotations d ps n
  map-refused {x} e g = (λ i. record { answer = Err x; map = g i }) ∙ map-by e

-- ---- all_grid_addresses
module _ (d : List ℤ) (n : ℕ) {t : Tested} (e : t ≡ address_tests d n) where
  abbrev listed : List ℤ
  listed = addresses (sides_of d) (size (sides_of d))

  addresses-by : {s : Tested} → t ≡ s → record { answer = s; addresses = output_of s n listed } ≡ all_grid_addresses d n
  unfolding all_grid_addresses
  addresses-by f = ap (λ t. record { answer = t; addresses = output_of t n listed }) (sym f ∙ e)

  pub addresses-listed : t ≡ Accepted → {l : List ℤ} → l ≡ listed → record { answer = t; addresses = l } ≡ all_grid_addresses d n
  addresses-listed f g = (λ i. record { answer = f i; addresses = g i }) ∙ addresses-by f

  pub addresses-refused : {x : Refusal} → t ≡ Err x → {l : List ℤ} → l ≡ replicate n (negsuc 0) → record { answer = t; addresses = l } ≡ all_grid_addresses d n
  addresses-refused f g = (λ i. record { answer = f i; addresses = g i }) ∙ addresses-by f
