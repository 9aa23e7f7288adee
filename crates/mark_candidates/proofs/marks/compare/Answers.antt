use mathlib.Core.Path.{ap₂}
use Rattle.std.proofs.Common.{ℤ, pos, nat_abs, ◌+ℤ◌, ◌-ℤ◌, ◌≤◌, ◌≡◌, refl, sym, ap, ◌∙◌, rules}
use Rattle.std.specs.Prelude.{Bool, true, false}
use Rattle.std.specs.Int.Signed.{le_z, lt_z}
use Rattle.integer.proofs.Fits.{held}
use Rattle.integer.proofs.Plain.{plain, p_atom, plain-is}
use Rattle.mark_candidates.specs.declared.entry.Entry.{Entry}
use Rattle.mark_candidates.specs.Code.Table.{entry_view, rises}
use Rattle.mark_candidates.specs.Code.Marks.{verdict, against}
use Rattle.mark_candidates.proofs.marks.compare.Goals as goal

-- two differences less and more what rises
module _ (a b u : ℤ) (f : nat_abs a ≤ 1288490188800000000) (g : nat_abs b ≤ 1288490188800000000) (h : nat_abs u ≤ 5153960755200000000) where
  less : held (held (held a -ℤ held b) -ℤ held u) ≡ a -ℤ b -ℤ u
  less = plain-is (search (plain, p_atom) depth 14) tt

  more : held (held (held a -ℤ held b) +ℤ held u) ≡ a -ℤ b +ℤ u
  more = plain-is (search (plain, p_atom) depth 14) tt

module _ (a o : Entry) {u : ℤ} (h : nat_abs u ≤ 5153960755200000000) (e : u ≡ rises (entry_view a) (entry_view o)) where
  told : {l m : Bool} → lt_z (pos 0) (held (held (held a.highest -ℤ held o.highest) -ℤ held u)) ≡ l → le_z (held (held (held a.lowest -ℤ held o.lowest) +ℤ held u)) (pos 0) ≡ m
      → verdict l m ≡ against (entry_view a) (entry_view o)
  unfolding against
  told d k =
      ap₂ verdict (sym d ∙ ap (lt_z (pos 0)) (less a.highest o.highest u a.highest_small o.highest_small h ∙ ap (λ u. a.highest -ℤ o.highest -ℤ u) e))
      (sym k ∙ ap (λ z. le_z z (pos 0)) (more a.lowest o.lowest u a.lowest_small o.lowest_small h ∙ ap (λ u. a.lowest -ℤ o.lowest +ℤ u) e))

pub returns-then-least-gt0 : goal.returns-then-least-gt0
returns-then-least-gt0 c = told c.args.a c.args.o c.rises-up.ensures.small c.rises-up.ensures.value {l = true} (search rules) refl

pub returns-then-most-le0 : goal.returns-then-most-le0
returns-then-most-le0 c = told c.args.a c.args.o c.rises-up.ensures.small c.rises-up.ensures.value {l = false} (search rules) c.if-most-le0.true

pub returns : goal.returns
returns c = told c.args.a c.args.o c.rises-up.ensures.small c.rises-up.ensures.value {l = false} (search rules) c.if-most-le0.false
