use mir.Syntax.{w64}
use mir.Val.{to_z, of_z}
use Rattle.std.proofs.Common.{◌≡◌, ◌*◌, refl, ◌∙◌, rules}
use Rattle.bz_triplets.proofs.ByClass.{places-stored}
use Rattle.bz_triplets.proofs.classes.store_places.Goals as goal

pub returns : goal.returns
returns c =
    let x : to_z w64 (of_z w64 c.place_of.result) ≡ c.place_of.result = search rules in
    let y : to_z w64 (of_z w64 c.place_of-2.result) ≡ c.place_of-2.result = search rules in
    let z : to_z w64 (of_z w64 c.place_of-3.result) ≡ c.place_of-3.result = search rules in
    places-stored c.args.t (c.args.at * 3) c.args.out.now c.requires (x ∙ c.place_of.ensures) (y ∙ c.place_of-2.ensures) (z ∙ c.place_of-3.ensures) _ refl
