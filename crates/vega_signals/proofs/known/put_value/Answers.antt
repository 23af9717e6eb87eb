use Rattle.std.proofs.Common.{◌∙◌}
use Rattle.std.specs.String.{string_bytes}
use Rattle.vega_signals.proofs.KnownLemmas.{value_put}
use Rattle.vega_signals.proofs.known.put_value.Goals as goal

pub returns : goal.returns
returns c =
    value_put (string_bytes c.into_string.result) c.args.name.now c.args.own.now c.insert.new.self c.args.value.now c.in_ok-copied.field-0
    (c.into_string.ensures ∙ c.in_ok-copy.ensures) c.in_ok-copied.ensures
    c.in_ok-insert.ensures.updates
