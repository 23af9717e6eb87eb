use Rattle.std.proofs.Common.{◌∙◌, refl}
use Rattle.case_table.specs.declared.arguments.TheConstants.{ARGUMENTS}
use Rattle.case_table.specs.Arguments.{admitted_numbers}
use Rattle.case_table.proofs.ArgumentLemmas.{passes_as_pairs}
use Rattle.case_table.proofs.arguments.admits.Goals as goal

pub returns : goal.returns
returns c = c.admits_in.ensures ∙ rw c.from.ensures (passes_as_pairs c.args.count c.args.code ARGUMENTS admitted_numbers refl)
