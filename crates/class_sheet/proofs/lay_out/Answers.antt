use mathlib.Core.Path.{◌≡◌, sym, ◌∙◌, ap, ap₂}
use mathlib.Core.Bool.{false, ◌&&◌}
use Prim.Native.Nat.{◌*◌, ◌-◌}
use native.Mathlib.Omega.{arith}
use lib.Dec.{eqb}
use lib.ListN.{length}
use borrow.Author.Tests.{eqb-true}
use Rattle.class_sheet.specs.Sheet.{place_count}
use Rattle.class_sheet.specs.ClassSheet.{class_count}
use Rattle.class_sheet.proofs.Calling.{wrong-length, lengths-known, ready}
use Rattle.class_sheet.proofs.lay_out.Goals as goal
use Rattle.class_sheet.proofs.lay_out.Goals.{After-is_thrice, After-places_fit, then-not-is_thrice-via-then-not-is_thrice, then-not-is_thrice-via-else-not-is_thrice+then-not-places_fit}

thrice-told : (c : After-is_thrice) → c.is_thrice.result ≡ eqb (length c.args.triplets.now) (class_count c.args.class_map.now * 3)
thrice-told c = c.is_thrice.ensures ∙ ap (λ k. eqb (length c.args.triplets.now) (k * 3)) c.own_places-k.ensures.value

places-told : (c : After-places_fit) → c.places_fit.result ≡ eqb (length c.args.sheet.now) (place_count (class_count c.args.class_map.now))
places-told c = c.places_fit.ensures ∙ ap (λ k. eqb (length c.args.sheet.now) (place_count k)) c.own_places-k.ensures.value

pub returns-then-not-is_thrice : goal.returns-then-not-is_thrice
returns-then-not-is_thrice c =
    let a = c.args in
    let t = thrice-told (goal.at.returns-then-not-is_thrice c).After-is_thrice in
    let lengths : eqb (length a.triplets.now) (class_count a.class_map.now * 3) && eqb (length a.sheet.now) (place_count (class_count a.class_map.now)) ≡ false =
    elim c.then-not-is_thrice.branch [
      | then-not-is_thrice-via-then-not-is_thrice w ↦ ap (λ b. b && eqb (length a.sheet.now) (place_count (class_count a.class_map.now))) (sym t ∙ w.if-not-is_thrice.true)
      | then-not-is_thrice-via-else-not-is_thrice+then-not-places_fit w ↦
          ap₂ ◌&&◌ (sym t ∙ w.if-not-is_thrice.false) (sym (w.places_fit.ensures ∙ ap (λ k. eqb (length a.sheet.now) (place_count k)) c.own_places-k.ensures.value) ∙ w.if-not-places_fit.true)
    ] in
    wrong-length a.class_map.now a.triplets.now (length a.sheet.now) lengths a.sheet.now

pub put_sheet-requires-clause-ready : goal.put_sheet-requires-clause-ready
put_sheet-requires-clause-ready c =
    let a = c.args in
    let n = length a.sheet.now in
    let k = c.own_places-k.result in
    let thrice = eqb-true _ _ (sym (thrice-told (goal.at.put_sheet-requires-clause-ready c).After-is_thrice) ∙ c.if-not-is_thrice.false) in
    let places = eqb-true _ _ (sym (places-told (goal.at.put_sheet-requires-clause-ready c).After-places_fit) ∙ c.if-not-places_fit.false) in
    ready a.class_map.now a.triplets.now thrice a.sheet.now places (n - 2 * k) (n - (n - 2 * k)) (omega (arith, places, c.own_places-k.ensures.value)) (omega arith) c.weigh.ensures

pub returns : goal.returns
returns c =
    let a = c.args in
    let t = sym (thrice-told (goal.at.returns c).After-is_thrice) ∙ c.if-not-is_thrice.false in
    let p = sym (places-told (goal.at.returns c).After-places_fit) ∙ c.if-not-places_fit.false in
    lengths-known a.class_map.now a.triplets.now (length a.sheet.now) t p c.put_sheet.ensures
