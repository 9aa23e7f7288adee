-- What `distinct_group` answers and leaves, by its branches: the distinct rotations of s are counted, turned and joined over d.
use mathlib.Core.Path.{◌≡◌, refl, sym, ◌∙◌, ap, ap₂, subst}
use mathlib.Core.Bool.{Bool, true, false}
use mathlib.Core.List.{List, ◌++◌, map}
use Prim.Native.Nat.{ℕ, ◌≤◌}
use native.Mathlib.Nat.{le_of_eq}
use native.Mathlib.Omega.{arith}
use lib.Dec.{leb}
use lib.IntN.{ℤ}
use lib.ListN.{length, length-append, length-map}
use Rattle.std.specs.Prelude.{Result, Ok, Err}
use Rattle.common.specs.declared.Refusal.{Refusal}
use Rattle.common.specs.Matrix.{Mat, transpose, negate}
use Rattle.common.specs.Array.{matrices_from, matrices}
use Rattle.common.specs.Tested.{require, after, Accepted}
use Rattle.common.specs.declared.Refusal.TheVariants.{TooManyRotations}
use Rattle.common.proofs.Reading.{read-flat}
use Rattle.recip_rotations.specs.Unique.{unique}
use Rattle.recip_rotations.specs.Flat.{laid}
use Rattle.recip_rotations.specs.PointGroup.{transposed_if, joins, with_negatives, join_tests, room_tests, point_group}
use Rattle.recip_rotations.specs.Code.Steps.{few, Grouped}
use Rattle.recip_rotations.proofs.Answered.{was-accepted, was-refused}
use Rattle.recip_rotations.proofs.Blocks.{laid-over}
use Rattle.recip_rotations.proofs.Counting.{counted}
use Rattle.recip_rotations.proofs.Outcomes.{refused}

pub counted-from : {l : List (Mat ℤ)} {d e out : List ℤ} {r : Result ℕ Refusal} → d ≡ e → Grouped (few l) l d out r → Grouped (few l) l e out r
counted-from {l} {d} {e} {out} {r} p c = subst (λ d. Grouped (few l) l d out r) p c

pub turned-length : (t : Bool) (l : List (Mat ℤ)) → length (transposed_if t l) ≡ length l
turned-length true l = length-map l transpose
turned-length false l = refl

joined-longer : (time : Bool) (l : List (Mat ℤ)) → length l ≤ length (with_negatives time l)
joined-longer time l = go (joins time l)
  where
    go : (j : Bool) → length l ≤ length {A = Mat ℤ} (elim j [ true ↦ l ++ map negate l | false ↦ l ])
    go true = omega (arith, length-append l (map negate l))
    go false = le_of_eq refl

module _ (s : List ℤ) (time t : Bool) (d : List ℤ) where
  abbrev u : List (Mat ℤ)
  u = unique (matrices s)

  rooms : room_tests (matrices s) time t ≡ after (few u) (join_tests time (transposed_if t u))
  unfolding room_tests
  rooms = step (leb (length u) 48)
    where
      step : (b : Bool) → require b TooManyRotations (join_tests time (transposed_if t u)) ≡ after (require b TooManyRotations Accepted) (join_tests time (transposed_if t u))
      step true = refl
      step false = refl

  pub group-over : {out before left : List ℤ} {r : Refusal} → Grouped (few u) u d out (Err r) → Grouped (room_tests (matrices s) time t) (point_group (matrices s) time t) before left (Err r)
  group-over c = refused (rooms ∙ ap (λ q. after q (join_tests time (transposed_if t u))) (was-refused (few u) (length u) c.answer))

  module _ {out : List ℤ} {r : ℕ} (c : Grouped (few u) u d out (Ok r)) where
    counted-turned : length (transposed_if t u) ≡ r
    counted-turned = turned-length t u ∙ sym (counted c).0

    pub turned-laid : {turn : List ℤ} → turn ≡ laid (transposed_if t (matrices_from out 0 r)) out → turn ≡ laid (transposed_if t u) d
    turned-laid e =
        let k = counted c in
        e ∙ ap₂ (λ l o. laid (transposed_if t l) o) (ap₂ (λ o n. matrices_from o 0 n) k.2 k.0 ∙ read-flat u _) k.2
        ∙ laid-over (transposed_if t u) u d (le_of_eq (sym (turned-length t u)))

    pub group-joined : {turn left : List ℤ} {x : Result ℕ Refusal} → turn ≡ laid (transposed_if t u) d
        → Grouped (join_tests time (matrices_from turn 0 r)) (with_negatives time (matrices_from turn 0 r)) turn left x
        → Grouped (room_tests (matrices s) time t) (point_group (matrices s) time t) d left x
    unfolding point_group
    group-joined {turn} {left} {x} e g =
        let f : matrices_from turn 0 r ≡ transposed_if t u = ap₂ (λ o n. matrices_from o 0 n) e (sym counted-turned) ∙ read-flat (transposed_if t u) _ in
        let g = subst (λ l. Grouped (join_tests time l) (with_negatives time l) turn left x) f g in
        let room = rooms ∙ ap (λ q. after q (join_tests time (transposed_if t u))) (was-accepted (few u) (length u) r c.answer) in
        subst (λ q. Grouped q (with_negatives time (transposed_if t u)) d left x) (sym room) (record {
          answer = g.answer;
          held = λ a. g.held a ∙ ap (laid (with_negatives time (transposed_if t u))) e ∙ laid-over (with_negatives time (transposed_if t u)) (transposed_if t u) d (joined-longer time (transposed_if t u));
        })
