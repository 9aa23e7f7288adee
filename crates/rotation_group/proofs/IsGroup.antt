-- The test holds exactly if the list is a group in the sense of demand 3.
use mathlib.Core.Path.{sym, subst}
use mathlib.Core.Logic.{◌↔◌}
use mathlib.Core.Bool.{◌&&◌}
use mathlib.Core.List.{List}
use Prim.Native.Nat.{ℕ}
use lib.Dec.{T, eqb, eqb→eq}
use lib.IntN.{ℤ, nat_abs}
use Rattle.integer.proofs.Test.{and_l, and_r, and_in}
use Rattle.common.specs.Matrix.{Mat, ◌·◌, det, identity}
use Rattle.common.specs.Every.{every}
use Rattle.common.proofs.Every.{every_of, of-every}
use Rattle.grgrid.proofs.MatrixGroup.{MatrixGroup}
use Rattle.recip_rotations.specs.Unique.{among}
use Rattle.recip_rotations.proofs.Told.{among_in, in-among}
use Rattle.rotation_group.specs.Group.{no_repeats, is_unit, row_inside, is_group}
use Rattle.rotation_group.proofs.Repeats.{repeats-none, none-repeats}

module _ (l : List (Mat ℤ)) where
  pub group_of : T (is_group l) → MatrixGroup l
  unfolding is_group
  group_of t =
      let rest = and_r (among identity l) (no_repeats l && (every is_unit l && every (row_inside l) l)) t in
      let last = and_r (no_repeats l) (every is_unit l && every (row_inside l) l) rest in
      record {
        one = among_in identity l (and_l (among identity l) (no_repeats l && (every is_unit l && every (row_inside l) l)) t);
        distinct = repeats-none l (and_l (no_repeats l) (every is_unit l && every (row_inside l) l) rest);
        units = λ A k. record { unit = eqb→eq (nat_abs (det A)) 1 (every_of is_unit l (and_l (every is_unit l) (every (row_inside l) l) last) A k) };
        times = λ A B j k. among_in (A · B) l (every_of (λ n. among (A · n) l) l (every_of (row_inside l) l (and_r (every is_unit l) (every (row_inside l) l) last) A j) B k);
      }

  pub of-group : MatrixGroup l → T (is_group l)
  unfolding is_group
  of-group m =
      and_in (among identity l) (no_repeats l && (every is_unit l && every (row_inside l) l)) (in-among identity l m.one)
      (and_in (no_repeats l) (every is_unit l && every (row_inside l) l) (none-repeats l m.distinct)
      (and_in (every is_unit l) (every (row_inside l) l) (of-every is_unit l (λ A k. subst (λ (n : ℕ). T (eqb n 1)) (sym (m.units A k).unit) tt))
      (of-every (row_inside l) l (λ A j. of-every (λ n. among (A · n) l) l (λ B k. in-among (A · B) l (m.times A B j k))))))

  pub is-group : T (is_group l) ↔ MatrixGroup l
  is-group = (group_of, of-group)
