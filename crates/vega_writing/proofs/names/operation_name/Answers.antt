use Rattle.std.proofs.Common.{◌∙◌}
use Rattle.vega_writing.proofs.TableNames.{name_at_place}
use Rattle.vega_writing.proofs.names.operation_name.Goals as goal

pub returns : goal.returns
returns c = c.name_in.ensures ∙ search name_at_place
