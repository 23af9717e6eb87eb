use Rattle.vega_meaning.proofs.Meant.{specifications_mean, drawn_scales_are_sound}
use Rattle.vega_meaning.proofs.laws.laws_of_drawings.Goals as goal

pub returns : goal.returns
returns c = record { mean = specifications_mean; sound = drawn_scales_are_sound }
