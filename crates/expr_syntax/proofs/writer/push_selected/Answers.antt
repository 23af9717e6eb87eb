use Rattle.std.proofs.lemmas.Result.{IfOk-equal}
use Rattle.std.proofs.lemmas.List.{append_assoc}
use Rattle.expr_syntax.proofs.writer.push_selected.Goals as goal

pub returns : goal.returns
returns c = IfOk-equal _ _ _ _ c.push_datum.ensures (simp (c.in_ok-push_store.ensures, c.in_ok-push_call.ensures, append_assoc))
