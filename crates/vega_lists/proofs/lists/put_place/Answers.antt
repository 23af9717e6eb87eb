use Rattle.std.proofs.Common.{◌∙◌}
use Rattle.std.specs.String.{string_bytes}
use Rattle.vega_lists.proofs.PlaceLemmas.{put_is}
use Rattle.vega_lists.proofs.lists.put_place.Goals as goal

pub returns : goal.returns
returns c =
    put_is (string_bytes c.into_string.result) c.args.name.now c.args.places.now c.insert.new.self c.args.place (c.into_string.ensures ∙ c.in_ok-copy.ensures)
    c.in_ok-insert.ensures.updates
