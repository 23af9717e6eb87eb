use Rattle.std.proofs.Common.{ap, sym, ◌∙◌, ◌++◌, List}
use Rattle.std.proofs.lemmas.Result.{IfOk-equal}
use Rattle.std.proofs.lemmas.List.{append_assoc}
use Rattle.expr_syntax.specs.declared.token.Token.{Token}
use Rattle.expr_syntax.specs.Writing.{Written, written}
use Rattle.expr_syntax.proofs.Folded.{call_written}
use Rattle.expr_syntax.proofs.writer.+writer.Goals as goal

pub push_tree-returns-in_ok-push_arguments-in-Call : goal.push_tree-returns-in_ok-push_arguments-in-Call
push_tree-returns-in_ok-push_arguments-in-Call t c =
    IfOk-equal _ _ _ _ c.push_mark-in-Call-2.ensures
    (simp (
      c.in_ok-push_arguments-in-Call.ensures,
      c.in_ok-push_mark-in-Call.ensures,
      c.in_ok-push_word-in-Call.ensures,
      c.builtin_name.ensures,
      c.as_slice.ensures,
      append_assoc,
    )
    (ap (λ (tokens : List Token). c.args.out.now ++ tokens)
    (sym (ap (λ (w : Written). w.tokens) (ap written c.in-Call.is ∙ call_written c.in-Call.code c.in-Call.arguments)))))
