use Rattle.mark_encode.specs.Rules.{rule_for}
use Rattle.mark_encode.proofs.shapes.of_rule.Goals as goal

pub returns : goal.returns
returns c = λ i. rule_for (c.in_ok-rule.ensures i)
