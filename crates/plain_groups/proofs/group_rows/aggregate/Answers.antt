use Rattle.plain_rows.proofs.Readings.{reads_so}
use Rattle.plain_groups.proofs.ReadLemmas.{aggregated_reads}
use Rattle.plain_groups.proofs.KeyLemmas.{aggregated_are_rows}
use Rattle.plain_groups.proofs.group_rows.aggregate.Goals as goal

pub returns-clause-read : goal.returns-clause-read
returns-clause-read c = let made = rw c.as_slice.ensures at c.aggregated.ensures in
    reads_so c.aggregated.result _ _ (aggregated_reads c.args.g.now c.args.rows.now) made

pub returns-clause-rows : goal.returns-clause-rows
returns-clause-rows c = let made = rw c.as_slice.ensures at c.aggregated.ensures in
    aggregated_are_rows c.args.g.now c.args.rows.now c.requires c.aggregated.result made
