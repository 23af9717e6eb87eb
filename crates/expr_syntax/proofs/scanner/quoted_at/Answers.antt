use Rattle.expr_syntax.proofs.Texts.{cut_behind_first}
use Rattle.expr_syntax.proofs.scanner.quoted_at.Goals as goal

pub range_from-requires : goal.range_from-requires
range_from-requires c = λ some. cut_behind_first c.args.quote c.args.text.now c.utf8.text c.requires.quote c.requires.first
