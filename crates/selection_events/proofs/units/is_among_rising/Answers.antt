use Rattle.selection_events.proofs.UnitLemmas.{not_found}
use Rattle.selection_events.proofs.units.is_among_rising.Goals as goal

pub returns-in-Err : goal.returns-in-Err
returns-in-Err c = not_found c.args.numbers.now c.args.unit c.requires c.in-Err.field-0 c.in-Err.ensures.position
