use Rattle.std.proofs.Common.{◌∙◌}
use Rattle.std.specs.String.{string_bytes}
use Rattle.vega_signals.proofs.PlaceLemmas.{number_put}
use Rattle.vega_signals.proofs.placed.put_number.Goals as goal

pub returns : goal.returns
returns c =
    number_put (string_bytes c.into_string.result) c.args.name.now c.args.numbers.now c.insert.new.self c.args.number (c.into_string.ensures ∙ c.in_ok-copy.ensures)
    c.in_ok-insert.ensures.updates
