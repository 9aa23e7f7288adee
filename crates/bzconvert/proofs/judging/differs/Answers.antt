use Rattle.std.proofs.Common.{refl, sym, ◌∙◌, ap, rules}
use mathlib.Core.Bool.{not}
use Rattle.common.specs.Array.{vector_of}
use Rattle.common.specs.Matrix.{same_vector}
use Rattle.bztable.proofs.Finding.{same-rows}
use Rattle.bzconvert.specs.Code.ByPlaces.{if_read}
use Rattle.bzconvert.proofs.judging.differs.Goals as goal

pub returns-in-Ok : goal.returns-in-Ok
returns-in-Ok c =
    let a = c.args.a.v in
    let b = c.in-Ok.b.v in
    c.ne.ensures ∙ ap not (sym (same-rows a b (search rules) (search rules) refl refl)) ∙ ap (if_read (λ b. not (same_vector (vector_of a) b))) c.in-Ok.ensures
