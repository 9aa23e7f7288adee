-- The order of two forms: the first of the nine places that differs decides, as `cmp` of arrays has it.
use Rattle.std.specs.Prelude.{◌≡◌, ◌↔◌, List, ℤ}
use Rattle.std.specs.declared.cmp.Ordering.{Ordering}
use Rattle.std.specs.declared.cmp.Ordering.TheVariants.{Less, Equal}
use Rattle.std.specs.Ordering.{int_cmp, ordering_reverse}
use Rattle.std.specs.Cmp.Lexicographic.{slice_cmp}

abbrev pub order_forms : List ℤ → List ℤ → Ordering
order_forms g h = slice_cmp int_cmp g h

-- it is a total order
pub record FormsOrdered : Type 0 where
  pub equal : (g h : List ℤ) → order_forms g h ≡ Equal ↔ g ≡ h
  pub exchanged : (g h : List ℤ) → order_forms h g ≡ ordering_reverse (order_forms g h)
  pub transitive : (g h k : List ℤ) → order_forms g h ≡ Less → order_forms h k ≡ Less → order_forms g k ≡ Less
