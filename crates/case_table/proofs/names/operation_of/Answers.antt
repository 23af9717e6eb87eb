use Rattle.std.proofs.Common.{◌∙◌}
use Rattle.case_table.proofs.TableLemmas.{code_of_index}
use Rattle.case_table.proofs.names.operation_of.Goals as goal

pub returns : goal.returns
returns c = c.find.ensures ∙ search code_of_index
