-- The size of symbols.
use Rattle.std.proofs.Common.{◌≡◌, pos, refl}
use Rattle.fixed_num.specs.Number.{rounded, floor_quotient, root_of}
use Rattle.guide_kit.specs.Measures.{half}
use Rattle.guide_kit.specs.Signs.{radius_of, rise_of, plain_rise}

pub rise_is : pos 2371707 ≡ plain_rise
unfolding root_of radius_of half rise_of rounded floor_quotient
rise_is = refl
