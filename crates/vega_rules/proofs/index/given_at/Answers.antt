use Rattle.std.proofs.Common.{◌∙◌}
use Rattle.vega_rules.proofs.IndexLemmas.{found}
use Rattle.vega_rules.proofs.index.given_at.Goals as goal

pub returns : goal.returns
returns c = c.name_at.ensures ∙ found c.args.key.now c.args.index.now c.args.parts.now c.requires.finds
