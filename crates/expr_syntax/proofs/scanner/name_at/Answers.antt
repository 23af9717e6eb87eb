use Rattle.std.proofs.Common.{ap, sym, subst, ◌∙◌}
use Rattle.std.specs.List.{prefix_len}
use Rattle.std.specs.Str.{IsCharBoundary}
use Rattle.expr_syntax.specs.Tokens.{is_name_byte}
use Rattle.expr_syntax.proofs.Cuts.{cut_behind_name}
use Rattle.expr_syntax.proofs.scanner.name_at.Goals as goal

pub split_at-requires : goal.split_at-requires
split_at-requires c =
    subst (IsCharBoundary c.args.text.now) (sym (c.name_len.ensures ∙ ap (prefix_len is_name_byte) c.as_bytes.ensures.value))
    (cut_behind_name c.args.text.now c.utf8.text)
