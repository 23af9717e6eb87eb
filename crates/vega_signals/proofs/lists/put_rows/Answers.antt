use Rattle.std.proofs.Common.{◌∙◌}
use Rattle.std.specs.String.{string_bytes}
use Rattle.vega_signals.proofs.RowLemmas.{put_is}
use Rattle.vega_signals.proofs.lists.put_rows.Goals as goal

pub returns : goal.returns
returns c =
    put_is (string_bytes c.into_string.result) c.args.name.now c.args.lists.now c.insert.new.self c.args.rows (c.into_string.ensures ∙ c.in_ok-copy.ensures)
    c.in_ok-insert.ensures.updates
