use Rattle.plain_rows.proofs.Readings.{reads_so}
use Rattle.plain_groups.proofs.ReadLemmas.{join_reads}
use Rattle.plain_groups.proofs.KeyLemmas.{joined_are_rows}
use Rattle.plain_groups.proofs.joins.join_aggregate.Goals as goal

pub returns-clause-read : goal.returns-clause-read
returns-clause-read c = let made = rw c.as_slice.ensures at c.joined.ensures in reads_so c.joined.result _ _ (join_reads c.args.g.now c.args.rows.now) made

pub returns-clause-rows : goal.returns-clause-rows
returns-clause-rows c = let made = rw c.as_slice.ensures at c.joined.ensures in joined_are_rows c.args.g.now c.args.rows.now c.requires c.joined.result made
