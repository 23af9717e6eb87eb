use Rattle.plain_rows.proofs.UnitLemmas.{answer_are_rows}
use Rattle.plain_rows.proofs.time_units.time_unit.Goals as goal

pub returns-clause-rows : goal.returns-clause-rows
returns-clause-rows c =
    let put = rw c.as_slice.ensures at c.in_time_units.ensures in
    answer_are_rows c.args.t.now c.args.rows.now c.requires c.in_time_units.result put
