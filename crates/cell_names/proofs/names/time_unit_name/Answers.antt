use Rattle.std.proofs.Common.{◌∙◌}
use Rattle.cell_names.proofs.TableNames.{name_at_place}
use Rattle.cell_names.proofs.names.time_unit_name.Goals as goal

pub returns : goal.returns
returns c = c.name_at.ensures ∙ search name_at_place
