use Rattle.std.proofs.Common.{◌≡◌, List, [], ℤ, length, refl, sym, ap, ◌∙◌, rules}
use Rattle.std.specs.Prelude.{Result, Ok, Err}
use lib.Dec.{T}
use Rattle.integer.proofs.Test.{holds}
use Rattle.common.specs.Limits.{diagonal_fits}
use Rattle.common.specs.declared.Refusal.{Refusal}
use Rattle.grgrid.specs.Sides.{sides}
use Rattle.bzgrid.specs.declared.TableRecord.{TableRecord}
use Rattle.bzgrid.specs.declared.Built.{Built}
use Rattle.bzgrid.specs.BzGridAddresses.{BzGridAddresses, recorded}
use Rattle.bzgrid.proofs.Outcome.{mesh-fits}
use Rattle.bzconvert.specs.Layout.{Table}
use Rattle.bzconvert.specs.Convert.{with_type, layout_tests, convert_bz_grid}
use Rattle.bzconvert.proofs.ListsRead.{lists-read}
use Rattle.bzconvert.proofs.Conversion.{told, made, layout-fits, no_layout, unread, unstanding, standing}
use Rattle.bzconvert.proofs.converted.Goals as goal
use Rattle.bzconvert.proofs.converted.Goals.{In_ok-t, After-other-to}

abbrev table : (addresses map grg : List ℤ) → Table
table addresses map grg = record { addresses = addresses; map = map; grg = grg }

-- its type is in the record alone
same-layout : (r : TableRecord) (addresses map grg : List ℤ) → layout_tests r (table addresses [] []) ≡ layout_tests r (table addresses map grg)
unfolding layout_tests
same-layout r addresses map grg = refl

known : (c : In_ok-t) → let a = c.args in layout_tests a.table (table a.addresses.now a.map.now a.grg.now) ≡ Ok c.in_ok-t.t
known c = let a = c.args in sym (c.in_ok-t.ensures ∙ same-layout a.table a.addresses.now a.map.now a.grg.now)

abbrev answer : BzGridAddresses Built → Result Built Refusal
answer o = o.answer

pub returns-in_err-t-clause-value : goal.returns-in_err-t-clause-value
returns-in_err-t-clause-value c =
    let a = c.args in
    let e : c.from_residual.result ≡ Err c.in_err-t.field-0.0 = search rules in
    e ∙ ap answer
    (no_layout a.table (table a.addresses.now a.map.now a.grg.now) (length a.out_addresses.now) (length a.out_map.now) (length a.out_grg.now)
    (sym (c.in_err-t.ensures ∙ same-layout a.table a.addresses.now a.map.now a.grg.now)))

fits : (c : In_ok-t) → T (diagonal_fits c.args.table.d)
fits c = let a = c.args in layout-fits a.table (table a.addresses.now a.map.now a.grg.now) (known c)

pub grid_of-requires : goal.grid_of-requires
grid_of-requires c = fits (goal.at.grid_of-requires c).In_ok-t

pub invariant_of-held : goal.invariant_of-held
invariant_of-held c = record { fits = mesh-fits c.args.table.d (fits (goal.at.invariant_of-held c).In_ok-t) c.grid_of.ensures }

pub returns-in_err-m-clause-value : goal.returns-in_err-m-clause-value
returns-in_err-m-clause-value c =
    let a = c.args in
    let e : c.from_residual-in_err-m.result ≡ Err c.in_err-m.field-0.0 = search rules in
    e ∙ ap answer
    (unread a.table (table a.addresses.now a.map.now a.grg.now) (length a.out_addresses.now) (length a.out_map.now) (length a.out_grg.now)
    (known (goal.at.returns-in_err-m-clause-value c).In_ok-t) c.grid_of.ensures (sym c.in_err-m.ensures.value))

pub returns-then-not-could_stand-clause-value : goal.returns-then-not-could_stand-clause-value
returns-then-not-could_stand-clause-value c =
    let a = c.args in
    ap answer
    (unstanding a.table (table a.addresses.now a.map.now a.grg.now) (length a.out_addresses.now) (length a.out_map.now) (length a.out_grg.now)
    (known (goal.at.returns-then-not-could_stand-clause-value c).In_ok-t) c.grid_of.ensures (sym c.in_ok-m.ensures.value)
    (sym c.could_stand.ensures ∙ c.if-not-could_stand.true))

pub lay_out-requires : goal.lay_out-requires
lay_out-requires c = lists-read _ c.args.grg.now (sym c.in_ok-m.ensures.value) (holds (sym c.could_stand.ensures ∙ c.if-not-could_stand.false))

-- what is laid out is the call's
laid : (c : After-other-to) → let a = c.args in
    let x = table a.addresses.now a.map.now a.grg.now in
    let k = length a.out_addresses.now in
    let l = length a.out_map.now in
    let m = length a.out_grg.now in
    layout_tests a.table x ≡ Ok c.in_ok-t.t → made a.table x k l m c.in_ok-t.t (sides c.grid_of.result) c.other-to.result ≡ convert_bz_grid a.table x k l m
laid c e =
    let a = c.args in
    standing a.table (table a.addresses.now a.map.now a.grg.now) (length a.out_addresses.now) (length a.out_map.now) (length a.out_grg.now)
    e c.grid_of.ensures (sym c.in_ok-m.ensures.value) (sym c.could_stand.ensures ∙ c.if-not-could_stand.false) c.other-to.ensures

pub returns-in_err-lengths-clause-value : goal.returns-in_err-lengths-clause-value
returns-in_err-lengths-clause-value c =
    let e : c.from_residual-in_err-lengths.result ≡ Err c.in_err-lengths.field-0.0 = search rules in
    e ∙ ap (told (with_type c.other-to.result c.args.table)) c.in_err-lengths.ensures.value
    ∙ (let p = goal.at.returns-in_err-lengths-clause-value c in ap answer (laid p.After-other-to (known p.In_ok-t)))

pub returns-clause-value : goal.returns-clause-value
returns-clause-value c =
    (λ i. Ok (record { lengths = c.in_ok-lengths.lengths; table = c.with_type.ensures i }))
    ∙ ap (told (with_type c.other-to.result c.args.table)) c.in_ok-lengths.ensures.value
    ∙ (let p = goal.at.returns-clause-value c in ap answer (laid p.After-other-to (known p.In_ok-t)))

pub returns-clause-filled : goal.returns-clause-filled
returns-clause-filled c =
    let n = c.lay_out.new in
    (λ i. record {
      answer = Ok (record { lengths = c.in_ok-lengths.lengths; table = c.with_type.ensures i });
      addresses = n.addresses;
      map = n.map;
      grg = n.grg;
    })
    ∙ ap (recorded (with_type c.other-to.result c.args.table)) c.in_ok-lengths.ensures.filled
    ∙ (let p = goal.at.returns-clause-filled c in laid p.After-other-to (known p.In_ok-t))
