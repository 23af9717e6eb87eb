use Rattle.std.proofs.Common.{map, subst}
use Rattle.cell_value.specs.Datum.{datum_of}
use Rattle.plain_rows.specs.Answers.{GivesRows}
use Rattle.plain_stacks.specs.Stacks.{data_stacked}
use Rattle.vega_lists.proofs.transforms.stacked.Goals as goal

-- src/transforms.rt:92:1
pub returns-clause-read : goal.returns-clause-read
returns-clause-read c =
    subst (λ how. GivesRows c.stack.result (data_stacked how (map datum_of c.args.rows.now))) c.in_ok-how.ensures c.stack.ensures.read
