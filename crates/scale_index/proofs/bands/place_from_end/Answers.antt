use Rattle.std.proofs.Common.{◌≡◌, Some, Ok, ap, sym, ◌∙◌}
use Rattle.scale_kit.specs.Places.{place_of}
use Rattle.scale_index.proofs.BandLemmas.{answered, from_place}
use Rattle.scale_index.proofs.bands.place_from_end.Goals as goal

pub returns-in-Some : goal.returns-in-Some
returns-in-Some c =
    let end : Ok (Some c.in-Some.end) ≡ place_of c.args.s.now c.args.v.now = ap Ok (sym c.in-Some.is) ∙ c.requires.end in
    c.placed.ensures ∙ ap answered c.place_after.ensures
    ∙ from_place c.args.s.now c.args.v.now c.in-Some.end c.band_width.result c.args.share c.requires.bands end c.band_width.ensures
    c.requires.aside
