use Rattle.std.proofs.Common.{ℕ, ℤ, List, ◌≡◌, length, sym, ap, subst, ◌∙◌}
use mir.Facts.{to_z-of_z}
use Rattle.common.specs.Tested.{output_of, Tested, Accepted}
use Rattle.mark_candidates.specs.MarkCandidates.{mark_tests, marks, marked, mark_candidates}
use Rattle.mark_candidates.specs.CertainMarks.{MarksSay}
use Rattle.mark_candidates.proofs.AcceptedCall.{marks-say}
use Rattle.mark_candidates.proofs.mark_candidates.Goals as goal

-- and what the call leaves
abbrev Told : List ℤ → List (List ℤ) → List ℤ → List ℤ → List ℤ → ℤ → ℕ → Tested → List ℤ → Type 0
Told d q ps lowest highest point n t l = (marked t l ≡ mark_candidates d q ps lowest highest point n) × (t ≡ Accepted → MarksSay d q ps lowest highest point l)

leaves : (d : List ℤ) (q : List (List ℤ)) (ps lowest highest : List ℤ) (point : ℤ) (n : ℕ) {t : Tested} {l : List ℤ} → t ≡ mark_tests d q ps lowest highest point n
    → l ≡ output_of t n (marks d q ps lowest highest point) → Told d q ps lowest highest point n t l
unfolding mark_candidates
leaves d q ps lowest highest point n {t} {l} e w = (same, says)
  where
    same : marked t l ≡ mark_candidates d q ps lowest highest point n
    same = ap (marked t) w ∙ ap (λ t. marked t (output_of t n (marks d q ps lowest highest point))) e

    says : t ≡ Accepted → MarksSay d q ps lowest highest point l
    says a = subst (MarksSay d q ps lowest highest point) (sym (ap (λ m. m.marks) same)) (marks-say d q ps lowest highest point n (sym (ap (λ m. m.answer) same) ∙ a))

pub returns-in-Ok : goal.returns-in-Ok
returns-in-Ok c =
    let a = c.args in
    let e = to_z-of_z c.ranges.point in
    let t = c.tests-tested.ensures ∙ ap (λ p. mark_tests a.d a.q a.ps a.r.lowest a.r.highest p (length a.marks.now)) e in
    let w = c.mark.ensures ∙ ap (marks a.d a.q a.ps a.r.lowest a.r.highest) e ∙ sym (ap (λ t. output_of t (length a.marks.now) (marks a.d a.q a.ps a.r.lowest a.r.highest a.point)) c.in-Ok.is) in
    let h = leaves a.d a.q a.ps a.r.lowest a.r.highest a.point (length a.marks.now) t w in
    record { marks_after = h.0; marks_say = h.1 }

pub returns-in-Err : goal.returns-in-Err
returns-in-Err c =
    let a = c.args in
    let t = c.tests-tested.ensures ∙ ap (λ p. mark_tests a.d a.q a.ps a.r.lowest a.r.highest p (length a.marks.now)) (to_z-of_z c.ranges.point) in
    let w = c.fill.ensures.after (λ y e. e) ∙ sym (ap (λ t. output_of t (length a.marks.now) (marks a.d a.q a.ps a.r.lowest a.r.highest a.point)) c.in-Err.is) in
    let h = leaves a.d a.q a.ps a.r.lowest a.r.highest a.point (length a.marks.now) t w in
    record { marks_after = h.0; marks_say = h.1 }
