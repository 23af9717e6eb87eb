use Rattle.vega_signals.proofs.ExtentLemmas.{extent_read}
use Rattle.vega_signals.proofs.extents.ends_of.Goals as goal

pub returns : goal.returns
returns c =
    extent_read c.args.field.now c.as_str.result.now c.args.rows.now c.as_slice.result.now
    c.extent_of.result c.as_str.ensures c.as_slice.ensures c.extent_of.ensures
