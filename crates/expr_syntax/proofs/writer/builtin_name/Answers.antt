use Rattle.std.proofs.Common.{◌∙◌}
use Rattle.expr_syntax.proofs.Named.{name_at_place}
use Rattle.expr_syntax.proofs.writer.builtin_name.Goals as goal

pub returns : goal.returns
returns c = c.name_in.ensures ∙ search name_at_place
