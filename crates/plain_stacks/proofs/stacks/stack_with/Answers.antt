use Rattle.plain_rows.proofs.Readings.{reads_so}
use Rattle.plain_stacks.proofs.StackLemmas.{stack_reads, stacked_are_rows}
use Rattle.plain_stacks.proofs.stacks.stack_with.Goals as goal

pub returns-clause-read : goal.returns-clause-read
returns-clause-read c = let made = rw c.as_slice.ensures at c.stacked_with.ensures in
    reads_so c.stacked_with.result _ _ (stack_reads c.args.s.now c.args.greatest c.args.rows.now) made

pub returns-clause-rows : goal.returns-clause-rows
returns-clause-rows c = let made = rw c.as_slice.ensures at c.stacked_with.ensures in
    stacked_are_rows c.args.s.now c.args.greatest c.args.rows.now c.requires c.stacked_with.result made
