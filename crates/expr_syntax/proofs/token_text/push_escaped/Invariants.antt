use Rattle.std.proofs.Common.{◌≡◌, ◌++◌}
use Rattle.std.specs.Prelude.{encode_utf8_all, flat_map}
use Rattle.expr_syntax.specs.TokenText.{escape_in_text}
use Rattle.expr_syntax.proofs.token_text.push_escaped.Given as goal

abbrev pub invariant-loop-c : goal.invariant-loop-c
invariant-loop-c l = l.out ≡ l.initial.out ++ flat_map escape_in_text (encode_utf8_all l.yielded)
