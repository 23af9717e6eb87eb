use Rattle.std.proofs.Common.{map}
use Rattle.cell_value.specs.Datum.{datum_of}
use Rattle.plain_rows.proofs.Readings.{reads_so}
use Rattle.plain_stacks.specs.Stacks.{greatest_whole}
use Rattle.plain_stacks.proofs.StackLemmas.{stack_reads, stacked_are_rows}
use Rattle.plain_stacks.proofs.stacks.stack.Goals as goal

pub returns-clause-read : goal.returns-clause-read
returns-clause-read c = let made = rw c.as_slice.ensures at c.stacked.ensures in
    reads_so c.stacked.result _ _ (stack_reads c.args.s.now (greatest_whole c.args.s.now (map datum_of c.args.rows.now)) c.args.rows.now) made

pub returns-clause-rows : goal.returns-clause-rows
returns-clause-rows c = let made = rw c.as_slice.ensures at c.stacked.ensures in
    stacked_are_rows c.args.s.now (greatest_whole c.args.s.now (map datum_of c.args.rows.now)) c.args.rows.now c.requires c.stacked.result made
