use Rattle.std.proofs.Common.{◌∙◌, ap}
use Rattle.std.specs.Option.{option_map_or}
use Rattle.vega_scales.specs.Scales.{domain_size}
use Rattle.vega_drawing.specs.Scales.{ScaleHere}
use Rattle.vega_drawing.proofs.frames.length_of.Goals as goal

pub returns-in-Some : goal.returns-in-Some
returns-in-Some c = c.domain_size.ensures ∙ ap (λ o. option_map_or (λ (s : ScaleHere). domain_size s.domain) o 0) c.in-Some.ensures

pub returns-in-None : goal.returns-in-None
returns-in-None c = ap (λ o. option_map_or (λ (s : ScaleHere). domain_size s.domain) o 0) c.in-None.ensures
