use Rattle.std.proofs.Common.{arith, ◌≡◌, ◌∙◌, pos, to_z, of_z}
use Rattle.std.specs.Prelude.{◌+ℤ◌, ◌*ℤ◌}
use Rattle.std.specs.Int.{w128}
use Rattle.std.proofs.lemmas.Int.{ints}
use Rattle.scale_kit.specs.Bands.{along_bands, band_beginning, band_end, band_steps}
use Rattle.scale_kit.proofs.bands.Bands.centre.Goals as goal

pub returns-clause-value : goal.returns-clause-value
returns-clause-value c =
    let b = c.args.self.now in
    let part : to_z w128 (of_z w128 (to_z w128 (of_z w128 c.beginning-beginning.result) +ℤ to_z w128 (of_z w128 c.end-end.result)))
    ≡ band_beginning b c.args.index +ℤ band_end b c.args.index = omega (arith, ints) in
    let whole : to_z w128 (of_z w128 (pos 2 *ℤ to_z w128 (of_z w128 c.steps-steps.result))) ≡ pos 2 *ℤ band_steps b = omega (arith, ints) in
    c.along.ensures.value ∙ λ i. along_bands b (part i) (whole i)
