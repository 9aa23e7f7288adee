-- What the limits of a call say of each input.
use mathlib.Core.Bool.{◌&&◌}
use mathlib.Core.List.{List}
use lib.Dec.{T}
use lib.IntN.{ℤ, pos}
use Rattle.integer.proofs.Test.{and_l, and_r}
use Rattle.common.specs.Array.{sides_of, matrix_of}
use Rattle.common.specs.Limits.{all_within, matrix_within, diagonal_fits, shift_fits, point_fits}
use Rattle.common.proofs.Sized.{within-sized}
use Rattle.grgrid.specs.Grid.{size}
use Rattle.mark_candidates.specs.declared.table.Ranges.{Ranges}
use Rattle.mark_candidates.specs.MarkCandidates.{grid_fits, within_limits}
use Rattle.mark_candidates.specs.Code.Table.{RangesFit}

pub record Within (d : List ℤ) (q : List (List ℤ)) (ps lowest highest : List ℤ) (point : ℤ) : Type 0 where
  pub grid : T (diagonal_fits d)
  pub entries : T (matrix_within 1000 (matrix_of q))
  pub shift : T (shift_fits ps)
  pub lows : T (all_within 1000000 lowest)
  pub highs : T (all_within 1000000 highest)
  pub inside : T (point_fits point (pos (size (sides_of d))))

pub limits-within : (d : List ℤ) (q : List (List ℤ)) (ps lowest highest : List ℤ) (point : ℤ) → T (within_limits d q ps lowest highest point) → Within d q ps lowest highest point
limits-within d q ps lowest highest point t =
    let m = matrix_within 1000 (matrix_of q) in
    let l = all_within 1000000 lowest in
    let h = all_within 1000000 highest in
    let p = point_fits point (pos (size (sides_of d))) in
    let g = and_l (grid_fits d q ps) (l && (h && p)) t in
    let r = and_r (grid_fits d q ps) (l && (h && p)) t in
    record {
      grid = and_l (diagonal_fits d) (m && shift_fits ps) g;
      entries = and_l m (shift_fits ps) (and_r (diagonal_fits d) (m && shift_fits ps) g);
      shift = and_r m (shift_fits ps) (and_r (diagonal_fits d) (m && shift_fits ps) g);
      lows = and_l l (h && p) r;
      highs = and_l h p (and_r l (h && p) r);
      inside = and_r h p (and_r l (h && p) r);
    }

pub ranges-fit : (r : Ranges) → T (all_within 1000000 r.lowest) → T (all_within 1000000 r.highest) → RangesFit r
ranges-fit r s t = record { lowest = within-sized 1000000 r.lowest s; highest = within-sized 1000000 r.highest t }
