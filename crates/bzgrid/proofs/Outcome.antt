-- From what the walk and the test of the lengths leave to what a call that lays out a table answers and writes.
use mathlib.Core.Path.{◌≡◌, refl, sym, ◌∙◌, ap, ap₂, subst, subst₂}
use mathlib.Core.Bool.{Bool, true, false, false≢true, ◌&&◌, cond}
use mathlib.Core.List.{List}
use Prim.Native.Nat.{ℕ, ◌+◌, ◌*◌, ◌≤◌, ◌<◌}
use native.Mathlib.Omega.{arith}
use lib.Dec.{T, leb, leb→le}
use lib.IntN.{ℤ}
use lib.ListN.{length}
use Rattle.std.specs.Prelude.{Option, Some, None, Result, Ok, Err, IfOk}
use Rattle.integer.proofs.Test.{and_l, and_r, holds, is_true}
use Rattle.common.specs.Matrix.{Axis, X, Y, Z, Vec, side}
use Rattle.common.specs.Array.{sides_of}
use Rattle.common.specs.Limits.{diagonal_fits}
use Rattle.common.specs.Tested.{require, Tested, Accepted, giving}
use Rattle.common.specs.declared.Refusal.{Refusal}
use Rattle.common.specs.declared.Refusal.TheVariants.{SearchFailed, OtherSizes, WrongLength}
use Rattle.common.proofs.Matrix.{side-vector}
use Rattle.common.proofs.Tests.{same-refusal, refused-not-ok}
use Rattle.grgrid.specs.Grid.{size}
use Rattle.grgrid.proofs.Accepted.{side-small, few-points, grid-fits}
use Rattle.bzgrid.specs.declared.GridType.{GridType}
use Rattle.bzgrid.specs.declared.GridType.TheVariants.{Sparse, Dense}
use Rattle.bzgrid.specs.declared.Lengths.{Lengths}
use Rattle.bzsearch.specs.Search.{Search}
use Rattle.bzgrid.specs.Table.{Image, images_at, dense_map, sparse_map, doubled, address_list, point_list}
use Rattle.bzgrid.specs.BzGridAddresses.{is_sparse, table_of, map_of, map_length, all_found, lengths_of, as_told, has_room, padded}
use Rattle.bzgrid.specs.BzGridAddresses.{unbuilt, laid_out, build_tests, built, sizes_of}
use Rattle.bzgrid.specs.Code.Writing.{if_sparse, with_mesh}
use Rattle.bzgrid.specs.Code.Walked.{before, walk_of, blank, WrittenTo, lengths_for, judged, MeshFits}
use Rattle.bzgrid.proofs.Layouts.{table, length-table, addresses-laid, points-laid}
use Rattle.bzgrid.proofs.Mapped.{size-doubled, mapped}

-- ---- what the walk answers
told-images : (f : Bool) (k : ℕ) {m : ℕ} → Some m ≡ cond f (Some k) None → (f ≡ true) × (m ≡ k)
told-images true k e = (refl, cc)
told-images false k e = let z : ◌≡◌ {A = Bool} false true = cc in absurd (false≢true z)

told-missing : (f : Bool) (k : ℕ) → None ≡ cond f (Some k) None → f ≡ false
told-missing true k e = let z : ◌≡◌ {A = Bool} false true = cc in absurd (false≢true z)
told-missing false k e = refl

-- ---- by the layout
module _ (d : Vec ℕ) (g : ℕ → List Image) where
  table_is : (t : GridType) → table_of t g (size d) ≡ table g (is_sparse t) (size d)
  table_is Sparse = refl
  table_is Dense = refl

  map_is : (t : GridType) → map_of t d g ≡ cond (is_sparse t) (sparse_map d g) (dense_map g (size d))
  map_is Sparse = refl
  map_is Dense = refl

  map-length : (t : GridType) → if_sparse (is_sparse t) (8 * size d) + (size d + 1) ≡ map_length t d
  map-length Sparse = refl
  map-length Dense = omega arith

-- ---- the grid and the doubled mesh
pub mesh-of : (l : List ℤ) → T (diagonal_fits l) → MeshFits (sides_of l)
mesh-of l fits = record {
  grid = grid-fits l fits;
  mesh = record { positive = positive; small = small; few = omega (arith, size-doubled (sides_of l), few-points l fits) };
  small = (side-small l fits X, side-small l fits Y, side-small l fits Z);
  few = few-points l fits;
}
  where
    twice : (k : Axis) → side (doubled (sides_of l)) k ≡ 2 * side (sides_of l) k
    twice k = side-vector (λ k. 2 * side (sides_of l) k) k

    positive : (k : Axis) → 0 < side (doubled (sides_of l)) k
    positive k = omega (arith, twice k, (grid-fits l fits).positive k)

    small : (k : Axis) → side (doubled (sides_of l)) k ≤ 512
    small k = omega (arith, twice k, side-small l fits k)

pub mesh-fits : (l : List ℤ) → T (diagonal_fits l) → {d : Vec ℕ} → d ≡ sides_of l → MeshFits d
mesh-fits l fits e = subst MeshFits (sym e) (mesh-of l fits)

-- ---- the answer, and the outputs of lengths x, y and z
pub room_for : (sp : Bool) (n m x y z : ℕ) → T (has_room (lengths_for sp n m) x y z) → (3 * m ≤ x) × (if_sparse sp (8 * n) + (n + 1) ≤ y) × (m ≤ z)
room_for sp n m x y z r =
    let b = if_sparse sp (8 * n) + (n + 1) in
    let q = and_r (leb (3 * m) x) (leb b y && leb m z) r in
    (leb→le (3 * m) x (and_l (leb (3 * m) x) (leb b y && leb m z) r), leb→le b y (and_l (leb b y) (leb m z) q), leb→le m z (and_r (leb b y) (leb m z) q))

-- the tests of the lengths
abbrev pub room_tests : Option (List ℤ) → Lengths → (x y z : ℕ) → Tested
room_tests w l x y z = require (as_told w l) OtherSizes (require (has_room l x y z) WrongLength Accepted)

judged-by : (w : Option (List ℤ)) (l : Lengths) (x y z : ℕ) → judged w l x y z ≡ giving (room_tests w l x y z) l
judged-by w l x y z = by (as_told w l) (has_room l x y z)
  where
    by : (u h : Bool) → require u OtherSizes (require h WrongLength (Ok l)) ≡ giving (require u OtherSizes (require h WrongLength Accepted)) l
    by true true = refl
    by true false = refl
    by false h = refl

built-room : (w : Option (List ℤ)) (l : Lengths) (x y z : ℕ) {k : Lengths} → Ok k ≡ judged w l x y z → T (as_told w l) × T (has_room l x y z)
built-room w l x y z {k} = by (as_told w l) (has_room l x y z)
  where
    by : (u h : Bool) → Ok k ≡ require u OtherSizes (require h WrongLength (Ok l)) → T u × T h
    by true true e = (tt, tt)
    by true false e = absurd (refused-not-ok (sym e))
    by false h e = absurd (refused-not-ok (sym e))

-- ---- of the images g of each point
module _ (t : GridType) (d : Vec ℕ) (g : ℕ → List Image) (x y z : ℕ) where
  pub unbuilt-is : {r : Refusal} (k : Tested) → Err r ≡ giving k (lengths_of t d g) → unbuilt x y z r ≡ laid_out t d g x y z k
  unbuilt-is (Ok _) e = absurd (refused-not-ok e)
  unbuilt-is (Err q) e = ap (unbuilt x y z) (same-refusal e)

  -- the code's names: whether the table is sparse, the number of points and that of images
  module _ {sp : Bool} {k m : ℕ} (es : sp ≡ is_sparse t) (ek : k ≡ size d) (found : T (all_found g (size d))) (em : m ≡ if_sparse sp k + before sp g k) where
    count : m ≡ length (table g (is_sparse t) (size d))
    count = em ∙ ap₂ (λ b j. if_sparse b j + before b g j) es ek ∙ sym (length-table g (is_sparse t) (size d) found)

    pub lengths-are : lengths_for sp k m ≡ lengths_of t d g
    lengths-are =
        ap₂ (λ b j. lengths_for b j m) es ek
        ∙ ap₂ (λ c j. record { addresses = 3 * c; map = j; grg = c }) (count ∙ ap length (sym (table_is d g t))) (map-length d g t)

    module _ (w : Option (List ℤ)) where
      pub judged-is : judged w (lengths_for sp k m) x y z ≡ giving (room_tests w (lengths_of t d g) x y z) (lengths_of t d g)
      judged-is = ap (λ l. judged w l x y z) lengths-are ∙ judged-by w (lengths_of t d g) x y z

      module _ {l : Lengths} (j : Ok l ≡ judged w (lengths_for sp k m) x y z) where
        both : T (as_told w (lengths_for sp k m)) × T (has_room (lengths_for sp k m) x y z)
        both = built-room w (lengths_for sp k m) x y z j

        room : (3 * m ≤ x) × (if_sparse (is_sparse t) (8 * size d) + (size d + 1) ≤ y) × (m ≤ z)
        room = room_for (is_sparse t) (size d) m x y z (subst T (ap₂ (λ b j. has_room (lengths_for b j m) x y z) es ek) both.1)

        passed : room_tests w (lengths_of t d g) x y z ≡ Accepted
        passed =
            ap (λ l. room_tests w l x y z) (sym lengths-are)
            ∙ ap₂ (λ u h. require u OtherSizes (require h WrongLength Accepted))
            (is_true (as_told w (lengths_for sp k m)) both.0) (is_true (has_room (lengths_for sp k m) x y z) both.1)

        whole : {a m₁ b m₂ : List ℤ} {c : Vec ℕ} → WrittenTo sp g k (if_sparse sp (8 * k)) (blank x) (blank y) (blank z) a m₁ b
            → c ≡ doubled d → m₂ ≡ with_mesh sp c a m m₁
            → record { answer = Ok l; addresses = a; map = m₂; grg = b } ≡ laid_out t d g x y z (room_tests w (lengths_of t d g) x y z)
        whole {a} {m₁} {b} h ec q =
            (λ i. record {
              answer = (j ∙ judged-is ∙ ap (λ k. giving k (lengths_of t d g)) passed) i;
              addresses = (laid ∙ ap (λ xs. padded (address_list xs) x) (sym (table_is d g t))) i;
              map =
                  (q ∙ (λ i. with_mesh (es i) (ec i) (laid i) (count i) (written.map i)) ∙ mapped d g y (is_sparse t) x room.1
                  ∙ ap (λ l. padded l y) (sym (map_is d g t))) i;
              grg =
                  (written.grg ∙ points-laid g (is_sparse t) (size d) x z found (subst (λ k. k ≤ z) count room.2)
                  ∙ ap (λ xs. padded (point_list xs) z) (sym (table_is d g t))) i;
            })
            ∙ ap (laid_out t d g x y z) (sym passed)
          where
            written : WrittenTo (is_sparse t) g (size d) (if_sparse (is_sparse t) (8 * size d)) (blank x) (blank y) (blank z) a m₁ b
            written = subst₂ (λ c j. WrittenTo c g j (if_sparse c (8 * j)) (blank x) (blank y) (blank z) a m₁ b) es ek h

            laid : a ≡ padded (address_list (table g (is_sparse t) (size d))) x
            laid = written.addresses ∙ addresses-laid g (is_sparse t) (size d) x z found (subst (λ k. 3 * k ≤ x) count room.0)

      pub filled-is : {a m₁ b : List ℤ} (m₂ : List ℤ) {c : Vec ℕ} → WrittenTo sp g k (if_sparse sp (8 * k)) (blank x) (blank y) (blank z) a m₁ b → c ≡ doubled d
          → (r : Result Lengths Refusal) → r ≡ judged w (lengths_for sp k m) x y z → IfOk r (λ _. m₂ ≡ with_mesh sp c a m m₁)
          → IfOk r (λ l. record { answer = Ok l; addresses = a; map = m₂; grg = b } ≡ laid_out t d g x y z (room_tests w (lengths_of t d g) x y z))
      filled-is m₂ h ec (Ok l) j q = whole j h ec q
      filled-is m₂ h ec (Err r) j q = tt

-- ---- of a search, where each point has an image
module _ (t : GridType) (s : Search) (w : Option (List ℤ)) (x y z : ℕ) where
  abbrev tests : Bool → Tested
  tests f = require f SearchFailed (room_tests w (lengths_of t s.d (images_at s)) x y z)

  pub refused : {r : Refusal} → Err r ≡ (built t s w x y z).answer → unbuilt x y z r ≡ built t s w x y z
  unfolding built
  refused = unbuilt-is t s.d (images_at s) x y z (build_tests t s w x y z)

  module _ {sp : Bool} {k : ℕ} (es : sp ≡ is_sparse t) (ek : k ≡ size s.d) where
    told : {w : Option ℕ} → w ≡ walk_of sp (images_at s) k → w ≡ walk_of (is_sparse t) (images_at s) (size s.d)
    told e = e ∙ ap₂ (λ b j. walk_of b (images_at s) j) es ek

    pub failed : None ≡ walk_of sp (images_at s) k → Err SearchFailed ≡ (built t s w x y z).answer
    unfolding built build_tests
    failed e = sym (ap (λ f. giving (tests f) (lengths_of t s.d (images_at s))) (told-missing (all_found (images_at s) (size s.d)) _ (told e)))

    module _ {m : ℕ} (e : Some m ≡ walk_of sp (images_at s) k) where
      found-all : all_found (images_at s) (size s.d) ≡ true
      found-all = (told-images (all_found (images_at s) (size s.d)) _ (told e)).0

      images : m ≡ if_sparse sp k + before sp (images_at s) k
      images = (told-images (all_found (images_at s) k) _ e).1

      tested : build_tests t s w x y z ≡ room_tests w (lengths_of t s.d (images_at s)) x y z
      unfolding build_tests
      tested = ap tests found-all

      pub sized : Ok (lengths_for sp k m) ≡ sizes_of t s
      sized =
          ap Ok (lengths-are t s.d (images_at s) x y z es ek (holds found-all) images)
          ∙ ap (λ f. require f SearchFailed (Ok (lengths_of t s.d (images_at s)))) (sym found-all)

      pub answered : judged w (lengths_for sp k m) x y z ≡ (built t s w x y z).answer
      unfolding built
      answered = judged-is t s.d (images_at s) x y z es ek (holds found-all) images w ∙ ap (λ k. giving k (lengths_of t s.d (images_at s))) (sym tested)

      pub filled : {a m₁ b : List ℤ} (m₂ : List ℤ) {c : Vec ℕ}
          → (T (all_found (images_at s) k) → WrittenTo sp (images_at s) k (if_sparse sp (8 * k)) (blank x) (blank y) (blank z) a m₁ b)
          → c ≡ doubled s.d → (r : Result Lengths Refusal) → r ≡ judged w (lengths_for sp k m) x y z → IfOk r (λ _. m₂ ≡ with_mesh sp c a m m₁)
          → IfOk r (λ l. record { answer = Ok l; addresses = a; map = m₂; grg = b } ≡ built t s w x y z)
      unfolding built
      filled {a} {m₁} {b} m₂ h ec r j q =
          subst (λ k. IfOk r (λ l. record { answer = Ok l; addresses = a; map = m₂; grg = b } ≡ laid_out t s.d (images_at s) x y z k)) (sym tested)
          (filled-is t s.d (images_at s) x y z es ek (holds found-all) images w m₂
          (h (subst (λ j. T (all_found (images_at s) j)) (sym ek) (holds found-all))) ec r j q)
