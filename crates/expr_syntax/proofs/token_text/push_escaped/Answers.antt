use Rattle.std.proofs.Common.{ap, sym, ◌∙◌, ◌++◌, rules}
use Rattle.std.specs.Prelude.{encode_utf8, encode_utf8_all, flat_map}
use Rattle.std.proofs.lemmas.Iterator.{YieldsList-from_chars}
use Rattle.std.proofs.lemmas.Iterator.Consumers.{YieldsList-end}
use Rattle.std.proofs.lemmas.List.{map-id}
use Rattle.std.proofs.lemmas.Str.{encodes-chars}
use Rattle.expr_syntax.specs.TokenText.{escape_in_text}
use Rattle.expr_syntax.proofs.Escaped.{escaped_more}
use Rattle.expr_syntax.proofs.token_text.push_escaped.Goals as goal

pub loop-c-preserved : goal.loop-c-preserved
loop-c-preserved c =
    c.in_ok-push_char.ensures ∙ ap (λ text. text ++ flat_map escape_in_text (encode_utf8 c.in-Some.c)) c.loop-c.invariant
    ∙ escaped_more c.args.out.now c.loop-c.yielded c.in-Some.c

pub returns : goal.returns
returns c =
    let ended =
    YieldsList-end (YieldsList-from_chars c.args.text.now c.utf8.text (search rules)) c.loop-c.yielded _ c.loop-c.yielded_by _ _
    c.in-None.is c.next.ensures.steps in
    c.loop-c.invariant ∙ ap (λ cs. c.args.out.now ++ flat_map escape_in_text (encode_utf8_all cs)) (sym (map-id c.loop-c.yielded) ∙ ended.0)
    ∙ ap (λ t. c.args.out.now ++ flat_map escape_in_text t) (encodes-chars c.args.text.now c.utf8.text)
