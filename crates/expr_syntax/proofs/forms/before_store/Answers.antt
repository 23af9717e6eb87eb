-- A text either ends in `_store` or does not, and `strip_suffix` tells which.
use Rattle.std.proofs.Common.{◌∙◌}
use Rattle.expr_syntax.proofs.Grounds.{no_store}
use Rattle.expr_syntax.proofs.forms.before_store.Goals as goal

pub returns-in-None : goal.returns-in-None
returns-in-None c = no_store c.args.text.now (λ front e. c.in-None.ensures.cases front (c.as_str.ensures ∙ e))
