use Rattle.vega_lists.proofs.ListLemmas.{no_rows_are, no_rows_fold, gives_outermost, are_outermost}
use Rattle.vega_lists.proofs.lists.lists_of.Goals as goal

pub lists_inside-requires-clause-outer : goal.lists_inside-requires-clause-outer
lists_inside-requires-clause-outer g c = no_rows_are

pub lists_inside-requires-clause-folds : goal.lists_inside-requires-clause-folds
lists_inside-requires-clause-folds g c = no_rows_fold c.args.sets.now c.requires.folds

pub returns-clause-read : goal.returns-clause-read
returns-clause-read g c = gives_outermost c.args.sources.now c.lists_inside.result _ c.lists_inside.ensures.read

pub returns-clause-lists : goal.returns-clause-lists
returns-clause-lists g c = are_outermost c.args.sources.now c.lists_inside.result c.lists_inside.ensures.lists
