use Rattle.std.proofs.Common.{◌∙◌}
use Rattle.vega_rules.proofs.FoldLemmas.{source_found}
use Rattle.vega_rules.proofs.folds.source_of.Goals as goal

pub returns : goal.returns
returns c = c.use_at.ensures ∙ source_found c.args.parts.now c.args.sources.now c.args.set.now c.requires
