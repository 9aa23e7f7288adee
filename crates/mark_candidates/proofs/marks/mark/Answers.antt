use Rattle.std.proofs.Common.{ℕ, ◌≡◌, ◌+◌, ◌<◌, ◌≤◌, List, [], ◌∷◌, length, get_or, drop, refl, sym, ap, ◌∙◌, rules}
use Rattle.std.specs.Prelude.{Bool, true, false, ◌&&◌, ◌||◌, map}
use native.Mathlib.Numerals.{add-one}
use Rattle.std.proofs.Math.Seq.{drop-cons}
use Rattle.std.proofs.Math.ListN.{drop_of_length-le}
use Rattle.common.specs.Every.{every, some}
use Rattle.mark_candidates.specs.declared.entry.Entry.{Entry}
use Rattle.mark_candidates.specs.Code.Table.{Compared, entry_view}
use Rattle.mark_candidates.specs.Code.Marks.{longer, never_longer}
use Rattle.mark_candidates.proofs.TableMarks.{is-longer, is-never-longer, is-open, marked_by}
use Rattle.mark_candidates.proofs.marks.mark.Goals as goal
use Rattle.mark_candidates.proofs.marks.mark.Goals.{in-NeverLonger, in-Open}

-- from entry j on
abbrev left : List Entry → ℕ → List Compared
left t j = map entry_view (drop j t)

here : (t : List Entry) (j : ℕ) (o : Entry) → j < length t → o ≡ get_or t j o → left t j ≡ entry_view o ∷ left t (j + 1)
here t j o h e = ap (map entry_view) (drop-cons t j o h) ∙ (λ i. entry_view (sym e i) ∷ left t (sym (add-one j) i))

gone : (t : List Entry) (j : ℕ) → length t ≤ j → left t j ≡ []
gone t j h = ap (map entry_view) (drop_of_length-le t h)

and-true : (b : Bool) → (b && true) ≡ b
and-true true = refl
and-true false = refl

and-false : (b : Bool) → (b && false) ≡ false
and-false true = refl
and-false false = refl

pub returns-in-Longer : goal.returns-in-Longer
returns-in-Longer c =
    let t = c.args.t.now in
    let l = c.loop-o in
    let a = entry_view c.args.a in
    let o = c.o-item.result in
    let e = here t l.o-index o c.loop-o-test.true (search rules) in
    marked_by (map entry_view t) a (sym l.invariant.beaten ∙ ap (some (longer a)) e ∙ ap (λ b. b || some (longer a) (left t (l.o-index + 1))) (is-longer a (entry_view o) (sym c.in-Longer.is ∙ c.compare.ensures))) refl

pub loop-o-preserved : goal.loop-o-preserved
loop-o-preserved c =
    let t = c.args.t.now in
    let l = c.loop-o in
    let a = entry_view c.args.a in
    let o = c.o-item.result in
    let e = here t l.o-index o c.loop-o-test.true (search rules) in
    let next = left t (l.o-index + 1) in
    let b = some (longer a) next in
    let n = every (never_longer a) next in
    elim c.match-compare.branch [
      | in-NeverLonger w ↦
          let v = is-never-longer a (entry_view o) (sym w.in-NeverLonger.is ∙ c.compare.ensures) in
          record {
            beaten = sym (ap (some (longer a)) e ∙ ap (λ x. x || b) v.0) ∙ l.invariant.beaten;
            near = ap (λ x. x && n) w.nearest-is ∙ sym (ap (λ x. l.nearest && every (never_longer a) x) e ∙ ap (λ x. l.nearest && (x && n)) v.1) ∙ l.invariant.near;
          }
      | in-Open w ↦
          let v = is-open a (entry_view o) (sym w.in-Open.is ∙ c.compare.ensures) in
          record {
            beaten = sym (ap (some (longer a)) e ∙ ap (λ x. x || b) v.0) ∙ l.invariant.beaten;
            near = ap (λ x. x && n) w.nearest-is ∙ sym (and-false l.nearest) ∙ sym (ap (λ x. l.nearest && every (never_longer a) x) e ∙ ap (λ x. l.nearest && (x && n)) v.1) ∙ l.invariant.near;
          }
    ]

pub returns-then-nearest : goal.returns-then-nearest
returns-then-nearest c =
    let t = c.args.t.now in
    let l = c.loop-o in
    let a = entry_view c.args.a in
    let e = gone t l.o-index c.loop-o-test.false in
    marked_by (map entry_view t) a (sym l.invariant.beaten ∙ ap (some (longer a)) e) (sym l.invariant.near ∙ ap (λ x. l.nearest && every (never_longer a) x) e ∙ and-true l.nearest ∙ c.if-nearest.true)

pub returns-else-nearest : goal.returns-else-nearest
returns-else-nearest c =
    let t = c.args.t.now in
    let l = c.loop-o in
    let a = entry_view c.args.a in
    let e = gone t l.o-index c.loop-o-test.false in
    marked_by (map entry_view t) a (sym l.invariant.beaten ∙ ap (some (longer a)) e) (sym l.invariant.near ∙ ap (λ x. l.nearest && every (never_longer a) x) e ∙ and-true l.nearest ∙ c.if-nearest.false)
