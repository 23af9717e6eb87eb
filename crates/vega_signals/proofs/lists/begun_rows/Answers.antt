use Rattle.std.proofs.Common.{rules}
use Rattle.vega_signals.proofs.RowLemmas.{begun_are_rows}
use Rattle.vega_signals.proofs.lists.begun_rows.Goals as goal

pub returns-in-Some-clause-rows : goal.returns-in-Some-clause-rows
returns-in-Some-clause-rows g c =
    begun_are_rows c.args.sources.now c.requires.sources (g.O.ListReader.named c.args.outer.now) c.args.lists.now c.args.set.now c.requires.lists
    c.copy_named.result (search rules)

pub returns-in-None-clause-rows : goal.returns-in-None-clause-rows
returns-in-None-clause-rows g c =
    begun_are_rows c.args.sources.now c.requires.sources (g.O.ListReader.named c.args.outer.now) c.args.lists.now c.args.set.now c.requires.lists
    c.copy_source.result (search rules)
