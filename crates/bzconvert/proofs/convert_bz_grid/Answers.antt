use Rattle.std.proofs.Common.{◌≡◌, length, ap, ◌∙◌, rules}
use Rattle.std.specs.Prelude.{Err}
use Rattle.bzgrid.specs.Code.Walked.{blank}
use Rattle.bzconvert.proofs.Conversion.{unbuilt-whole}
use Rattle.bzconvert.proofs.convert_bz_grid.Goals as goal

pub returns-in-Err : goal.returns-in-Err
returns-in-Err c =
    let a = c.args in
    let n = c.converted.new in
    let x : length n.out_addresses ≡ length a.out_addresses.now = search rules in
    let y : length n.out_map ≡ length a.out_map.now = search rules in
    let z : length n.out_grg ≡ length a.out_grg.now = search rules in
    let w = c.wipe.ensures in
    (λ i. record {
      answer = Err c.in-Err.r;
      addresses = (w.addresses_after ∙ ap blank x) i;
      map = (w.map_after ∙ ap blank y) i;
      grg = (w.grg_after ∙ ap blank z) i;
    })
    ∙ unbuilt-whole a.table (record { addresses = a.addresses.now; map = a.map.now; grg = a.grg.now })
    (length a.out_addresses.now) (length a.out_map.now) (length a.out_grg.now) c.in-Err.ensures.value
