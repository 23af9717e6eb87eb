use Rattle.std.proofs.Common.{◌∙◌, arith, sym}
use Rattle.std.specs.Prelude.{◌*ℤ◌, unsigned_abs}
use Rattle.std.specs.Int.{w128}
use Rattle.std.proofs.lemmas.Int.{ints, to_z-of_z}
use Rattle.fixed_num.specs.Number.{rounded}
use Rattle.scale_kit.proofs.BandLemmas.{width_of_some}
use Rattle.scale_kit.proofs.bands.Bands.width.Goals as goal

pub returns-then-steps-gt0 : goal.returns-then-steps-gt0
returns-then-steps-gt0 c =
    let body = to_z-of_z w128 _ (record { sfits = c.body.type_inv }) ∙ c.body.ensures.value in
    let steps = to_z-of_z w128 _ (record { sfits = c.steps-steps.type_inv }) ∙ c.steps-steps.ensures.value in
    c.way.ensures.value ∙ (λ i. rounded (c.rising.ensures.value i *ℤ body i) (unsigned_abs (steps i)))
    ∙ sym (width_of_some c.args.self.now (grind arith) (grind (arith, ints)))
