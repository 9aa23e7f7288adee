use lib.Ieee.{binary64, of_int}
use Rattle.std.proofs.Common.{◌∙◌, [], ◌∷◌}
use Rattle.common.specs.Matrix.{apply_over}
use Rattle.common.specs.FloatMatrix.{floats, float_vector}
use Rattle.common.proofs.Bounds.{entry-held}
use Rattle.bzsearch.specs.SearchView.{float_nine}
use Rattle.bzsearch.specs.Search.{length_squared}
use Rattle.bz_triplets.specs.BzTriplets.{squared_distance}
use Rattle.bz_triplets.proofs.choices.squared_distance.Goals as goal

pub returns : goal.returns
unfolding squared_distance
returns c =
    let x = entry-held c.args.g.sized 0 tt in
    let y = entry-held c.args.g.sized 1 tt in
    let z = entry-held c.args.g.sized 2 tt in
    c.length_squared.ensures ∙ (λ i. length_squared (apply_over floats (float_nine c.args.lqd) (float_vector (of_int binary64 (x i) ∷ of_int binary64 (y i) ∷ of_int binary64 (z i) ∷ []))))
