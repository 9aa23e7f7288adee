use Rattle.std.proofs.Common.{rules, arith, ◌≡◌, refl, sym, ap, ◌∙◌, ℤ}
use Rattle.std.specs.Prelude.{Result, Ok, Err, IsOk}
use Rattle.common.specs.Matrix.{Vec}
use Rattle.common.specs.Tested.{◌then◌}
use Rattle.common.specs.declared.Refusal.{Refusal}
use Rattle.common.specs.declared.bounded.Bounded.{Bounded}
use Rattle.common.proofs.Tests.{refused-not-ok}
use Rattle.bzgrid.specs.Table.{listed}
use Rattle.bzgrid.specs.Code.Writing.{Tables, tables}
use Rattle.bztable.specs.Access.{place_in}
use Rattle.bztable.specs.Reading.{got, vector_read, address_at, read_each}
use Rattle.bztable.specs.Code.PlacesView.{places_listed}
use Rattle.bzconvert.specs.Code.Lists.{list_held}
use Rattle.bzconvert.proofs.StoredLists.{each-is, more, ended}
use Rattle.bzconvert.proofs.writing.write_list.Goals as goal
use Rattle.bzconvert.proofs.writing.write_list.Goals.{After-unwrap-r, After-place_in}

-- the places of the point, each of which can be read
read : (c : After-unwrap-r) → let a = c.args in
    let r = c.unwrap-r.result in
    read_each (address_at a.table.now.addresses.now) (listed (place_in r.first.at r.others) r.count) ≡ got (list_held a.table.now a.p)
read c =
    let f = read_each (address_at c.args.table.now.addresses.now) in
    ap (λ y. places_listed y then f) (sym c.unwrap-r.ensures) ∙ ap (λ y. y then f) c.places_at.ensures ∙ c.requires.lists.reads c.args.p c.requires.point

was-read : (r : Result (Bounded 10000000000000) Refusal) {a : Vec ℤ} → vector_read r ≡ got a → IsOk r
was-read (Ok b) e = refl
was-read (Err x) e = absurd (refused-not-ok e)

-- in their order
next : (c : After-place_in) → let r = c.unwrap-r.result in c.place_in.result.at ≡ place_in r.first.at r.others c.loop-k.k
next c = search rules

pub unwrap-a-requires : goal.unwrap-a-requires
unwrap-a-requires c =
    let r = c.unwrap-r.result in
    let f = address_at c.args.table.now.addresses.now in
    let p = goal.at.unwrap-a-requires c in
    was-read c.address_at.result
    (c.address_at.ensures ∙ ap f (next p.After-place_in) ∙ (each-is f (place_in r.first.at r.others) (read p.After-unwrap-r) c.loop-k-test.true).1)

pub loop-k-preserved : goal.loop-k-preserved
loop-k-preserved c =
    let a = c.args in
    let r = c.unwrap-r.result in
    let f = address_at a.table.now.addresses.now in
    let more_one = ap (λ (t : Tables). t.next) c.store-t.ensures in
    record {
      low = omega (arith, more_one);
      high = omega (arith, more_one);
      stored = more f (place_in r.first.at r.others) a.p (tables a.addresses.now a.grg.now a.c.at a.c.next) c.loop-k.k c.loop-k.invariant.stored
          (ap f (sym (next (goal.at.loop-k-preserved c).After-place_in)) ∙ sym c.address_at.ensures ∙ ap vector_read c.unwrap-a.ensures) c.store-t.ensures;
    }

pub returns-clause-next_after : goal.returns-clause-next_after
returns-clause-next_after c =
    let a = c.args in
    let r = c.unwrap-r.result in
    let f = address_at a.table.now.addresses.now in
    let all : c.loop-k.k ≡ r.count = omega arith in
    ended f (place_in r.first.at r.others) a.p (tables a.addresses.now a.grg.now a.c.at a.c.next) c.loop-k.k c.loop-k.invariant.stored
    (ap (λ n. read_each f (listed (place_in r.first.at r.others) n)) all ∙ read (goal.at.returns-clause-next_after c).After-unwrap-r)
