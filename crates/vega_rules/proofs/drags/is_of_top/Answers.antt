use Rattle.std.proofs.Common.{not, ap, ◌∙◌}
use Rattle.vega_rules.proofs.DragLemmas.{elsewhere_found}
use Rattle.vega_rules.proofs.drags.is_of_top.Goals as goal

pub returns : goal.returns
returns c = ap not (c.in_ok-has.ensures ∙ elsewhere_found c.args.elsewhere.now c.args.parts.now c.args.scale.now c.requires)
