-- What an accepted call says, and what narrower ranges leave of it.
use mathlib.Core.Path.{◌≡◌, sym, ◌∙◌, ap}
use mathlib.Core.Bool.{Bool}
use mathlib.Core.List.{List, map}
use Prim.Native.Nat.{ℕ, ◌<◌}
use native.Mathlib.Omega.{arith}
use lib.Dec.{T, eqb, eqb→eq}
use lib.IntN.{ℤ, pos}
use lib.ListN.{length, length-map}
use Rattle.integer.proofs.Test.{holds}
use Rattle.common.specs.Matrix.{Vec, origin}
use Rattle.common.specs.Array.{matrix_of}
use Rattle.common.specs.Tested.{require, output_of, Accepted}
use Rattle.common.specs.declared.Refusal.{Refusal}
use Rattle.common.specs.declared.Refusal.TheVariants.{OutsideLimits, NotUnimodularQ, WrongLength, InvertedRange}
use Rattle.common.proofs.Tests.{passed}
use Rattle.bzsearch.specs.Search.{unimodular}
pub use Rattle.grgrid.proofs.Refusing.{refused, onward}
use Rattle.mark_candidates.specs.InnerProducts.{Ranges, ordered}
use Rattle.mark_candidates.specs.ScaledCoordinates.{candidates125}
use Rattle.mark_candidates.specs.MarkCandidates.{mark, ranges_of, within_limits, mark_tests, placed, marks, mark_candidates}
use Rattle.mark_candidates.specs.CertainMarks.{mark_at, candidate, MarksSay, CertainMarks}
use Rattle.mark_candidates.proofs.CornerTest.{never-longer, longer-test, is-shorter, shorter-test}
use Rattle.mark_candidates.proofs.Words.{nearest-or-beaten, mark-nearest, nearest-mark, mark-beaten, beaten-mark, mark-open, open-mark, narrower-1, narrower-2}
use Rattle.mark_candidates.proofs.Listed.{candidates-length, map-item}

four-passed : (a b c e : Bool) (r s t u : Refusal) → require a r (require b s (require c t (require e u Accepted))) ≡ Accepted → T a × T b × T c × T e
four-passed a b c e r s t u h =
    let f = passed a r (require b s (require c t (require e u Accepted))) h in
    let g = passed b s (require c t (require e u Accepted)) f.1 in
    let i = passed c t (require e u Accepted) g.1 in
    (holds f.0, holds g.0, holds i.0, holds (passed e u Accepted i.1).0)

-- what the tests of an accepted call found
pub record Passed (d : List ℤ) (q : List (List ℤ)) (ps lowest highest : List ℤ) (point : ℤ) (n : ℕ) : Type 0 where
  pub places : n ≡ 125
  pub limits : T (within_limits d q ps lowest highest point)
  pub ranges : T (ordered (ranges_of lowest highest))
  pub unit : T (unimodular (matrix_of q))

pub tests-passed : (d : List ℤ) (q : List (List ℤ)) (ps lowest highest : List ℤ) (point : ℤ) (n : ℕ) → mark_tests d q ps lowest highest point n ≡ Accepted
    → Passed d q ps lowest highest point n
unfolding mark_tests
tests-passed d q ps lowest highest point n h =
    let f = four-passed (eqb n 125) (within_limits d q ps lowest highest point) (ordered (ranges_of lowest highest)) (unimodular (matrix_of q)) WrongLength OutsideLimits InvertedRange NotUnimodularQ h in
    record { places = eqb→eq n 125 f.0; limits = f.1; ranges = f.2; unit = f.3 }

module _ (d : List ℤ) (q : List (List ℤ)) (ps lowest highest : List ℤ) (point : ℤ) (n : ℕ) (ok : (mark_candidates d q ps lowest highest point n).answer ≡ Accepted) where
  abbrev left : List ℤ
  left = (mark_candidates d q ps lowest highest point n).marks

  abbrev r : Ranges
  r = ranges_of lowest highest

  abbrev at : Vec ℤ → Vec ℤ
  at = placed d q ps point

  passes : Passed d q ps lowest highest point n
  unfolding mark_candidates
  passes = tests-passed d q ps lowest highest point n ok

  written : left ≡ marks d q ps lowest highest point
  unfolding mark_candidates
  written = ap (λ t. output_of t n (marks d q ps lowest highest point)) ok

  many : length (map (mark r at candidates125) candidates125) ≡ 125
  many = length-map candidates125 (mark r at candidates125) ∙ candidates-length

  mark-at : (i : ℕ) → i < 125 → mark_at left i ≡ mark r at candidates125 (candidate i)
  unfolding marks
  mark-at i h = ap (λ l. mark_at l i) written ∙ map-item (mark r at candidates125) candidates125 origin (pos 0) i (omega (arith, many))

  pub marks-say : MarksSay d q ps lowest highest point left
  unfolding marks
  marks-say = record {
    places = ap length written ∙ many;
    nearest = λ i h. (
      λ e. mark-nearest r at candidates125 (candidate i) passes.ranges (sym (mark-at i h) ∙ e),
      λ w. mark-at i h ∙ nearest-mark r at candidates125 (candidate i) passes.ranges w,
    );
    beaten = λ i h. (
      λ e. mark-beaten r at candidates125 (candidate i) passes.ranges (sym (mark-at i h) ∙ e),
      λ w. mark-at i h ∙ beaten-mark r at candidates125 (candidate i) passes.ranges w,
    );
    open-else = λ i h. (
      λ e. mark-open r at candidates125 (candidate i) passes.ranges (sym (mark-at i h) ∙ e),
      λ w. mark-at i h ∙ open-mark r at candidates125 (candidate i) passes.ranges w.0 w.1,
    );
  }

pub certain-marks : CertainMarks
certain-marks = record {
  corner-never-longer = λ r v w t. (never-longer r v w, longer-test r v w t);
  corner-shorter = λ r v w t. (is-shorter r v w, shorter-test r v w t);
  exclude = λ r at ms m t. nearest-or-beaten r at ms m t;
  stays = λ d q ps point lowest highest low high n u v h i l.
      let a = passes d q ps lowest highest point n u in
      let b = passes d q ps low high point n v in
      let e = mark-at d q ps lowest highest point n u i l in
      let f = mark-at d q ps low high point n v i l in (
        λ c. f ∙ narrower-1 h b.ranges a.ranges (placed d q ps point) candidates125 (candidate i) (sym e ∙ c),
        λ c. f ∙ narrower-2 h b.ranges a.ranges (placed d q ps point) candidates125 (candidate i) (sym e ∙ c),
      );
}
