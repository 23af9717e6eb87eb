use Rattle.chart_opening.proofs.JsonLemmas.{tree_is, no_tree}
use Rattle.chart_opening.proofs.files.tree_in.Goals as goal

pub returns-in-Ok-clause-reads : goal.returns-in-Ok-clause-reads
returns-in-Ok-clause-reads c = c.in-Ok.ensures.sound

pub returns-in-Ok-clause-value : goal.returns-in-Ok-clause-value
returns-in-Ok-clause-value c = tree_is c.args.name.now c.args.bytes.now c.in-Ok.tree c.in-Ok.ensures.sound

pub returns-in_ok-of-in-Err-Fault-clause-value : goal.returns-in_ok-of-in-Err-Fault-clause-value
returns-in_ok-of-in-Err-Fault-clause-value c =
    no_tree c.args.name.now c.in_ok-of-in-Err-Fault.field-0 c.args.bytes.now c.in-Err-Fault.at c.in-Err-Fault.field-0 c.in-Err-Fault.field-0-is
    c.in_ok-of-in-Err-Fault.ensures c.in-Err-Fault.ensures.fault c.in-Err-Fault.ensures.place
