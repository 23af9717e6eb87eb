use Rattle.vega_scales.proofs.FitsLemmas.{domain_fits, scale_is}
use Rattle.vega_scales.proofs.laws.laws_of_domains.Goals as goal

pub returns : goal.returns
returns c = record { fit = domain_fits; sound = λ s width height domain built kept w h fits. scale_is s width height built kept w h domain fits }
