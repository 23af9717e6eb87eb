use Rattle.std.proofs.Common.{rules, ap, sym, ◌∙◌}
use Rattle.scale_kit.specs.Places.{place_in_band_of}
use Rattle.scale_index.specs.declared.known.Known.{Known}
use Rattle.scale_index.proofs.BandLemmas.{half_is, without_bands}
use Rattle.scale_index.proofs.bands.known_in_band.Goals as goal

pub returns-then-is_half : goal.returns-then-is_half
returns-then-is_half c =
    ap (λ (known : Known). known.centre) c.requires.known
    ∙ ap (place_in_band_of c.args.s.now c.args.v.now) (sym (half_is c.args.share (search rules)))

pub place_aside-requires : goal.place_aside-requires
place_aside-requires c = record {
  scale = c.requires.scale;
  bands = search rules;
  place = ap (λ (known : Known). known.place) c.requires.known;
  aside = search rules;
}

pub returns-else-has_bands : goal.returns-else-has_bands
returns-else-has_bands c =
    ap (λ (known : Known). known.place) c.requires.known
    ∙ without_bands c.args.s.now c.args.v.now c.args.share (λ has. search rules)
