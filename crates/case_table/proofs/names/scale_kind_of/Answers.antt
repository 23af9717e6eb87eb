use Rattle.std.proofs.Common.{◌∙◌}
use Rattle.case_table.proofs.TableLemmas.{code_of_index}
use Rattle.case_table.proofs.names.scale_kind_of.Goals as goal

pub returns : goal.returns
returns c = c.find.ensures ∙ search code_of_index
