use Rattle.chart_table.proofs.drawn.Goals as goal

pub drawing_of-requires-clause-kept : goal.drawing_of-requires-clause-kept
drawing_of-requires-clause-kept c = c.requires.rules
