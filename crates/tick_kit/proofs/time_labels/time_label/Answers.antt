use Rattle.tick_kit.proofs.TimeLabelLemmas.{labelled, no_fault}
use Rattle.tick_kit.proofs.time_labels.time_label.Goals as goal

pub returns-in-Ok : goal.returns-in-Ok
returns-in-Ok c = labelled c.args.at c.default_pattern.result.now c.in-Ok.text c.default_pattern.ensures c.in-Ok.ensures

pub unreachable-requires : goal.unreachable-requires
unreachable-requires c = no_fault c.args.at c.default_pattern.result.now _ c.requires
    c.default_pattern.ensures (rw c.in-Err-Pattern.field-0-is at c.in-Err-Pattern.ensures)

pub unreachable-requires-in-Err-Instant : goal.unreachable-requires-in-Err-Instant
unreachable-requires-in-Err-Instant c = no_fault c.args.at c.default_pattern.result.now _ c.requires
    c.default_pattern.ensures (rw c.in-Err-Instant.field-0-is at c.in-Err-Instant.ensures)
