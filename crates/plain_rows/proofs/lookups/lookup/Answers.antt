use Rattle.plain_rows.proofs.LookupLemmas.{looked_up_are_rows}
use Rattle.plain_rows.proofs.lookups.lookup.Goals as goal

pub returns-clause-rows : goal.returns-clause-rows
returns-clause-rows c =
    looked_up_are_rows c.args.how.now c.args.other.now c.args.rows.now c.requires.rows c.looked_up.result
    (rw (c.as_slice.ensures, c.as_slice-2.ensures) at c.looked_up.ensures)
