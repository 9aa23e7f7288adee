use Rattle.std.proofs.Common.{length, sym, ap, ◌∙◌, rules, ◌≡◌}
use Rattle.std.specs.Prelude.{Err}
use Rattle.bzsearch.specs.SearchView.{search_view}
use Rattle.bzgrid.specs.Code.Walked.{blank}
use Rattle.bzgrid.proofs.Outcome.{refused}
use Rattle.bzgrid.proofs.build.Goals as goal

pub returns-in-Err : goal.returns-in-Err
returns-in-Err c =
    let a = c.args in
    let f = c.fill_tables in
    let x : length f.new.addresses ≡ length a.addresses.now = search rules in
    let y : length f.new.map ≡ length a.map.now = search rules in
    let z : length f.new.grg ≡ length a.grg.now = search rules in
    let w = c.wipe.ensures in
    (λ i. record { answer = Err c.in-Err.r; addresses = (w.addresses_after ∙ ap blank x) i; map = (w.map_after ∙ ap blank y) i; grg = (w.grg_after ∙ ap blank z) i })
    ∙ refused a.t (search_view a.s) a.told (length a.addresses.now) (length a.map.now) (length a.grg.now) (sym c.in-Err.is ∙ f.ensures.value)
