use Rattle.std.proofs.Common.{ap, sym, subst, ◌∙◌}
use Rattle.std.specs.List.{prefix_len}
use Rattle.std.specs.Str.{IsCharBoundary}
use Rattle.expr_syntax.specs.Tokens.{is_blank}
use Rattle.expr_syntax.proofs.Cuts.{cut_behind_blanks}
use Rattle.expr_syntax.proofs.scanner.skip_blanks.Goals as goal

pub range_from-requires : goal.range_from-requires
range_from-requires c = λ some.
    subst (IsCharBoundary c.args.text.now) (sym (c.blanks_len.ensures ∙ ap (prefix_len is_blank) c.as_bytes.ensures.value))
    (cut_behind_blanks c.args.text.now c.utf8.text)
