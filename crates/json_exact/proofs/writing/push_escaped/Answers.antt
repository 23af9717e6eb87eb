use Rattle.std.proofs.Common.{ap, sym, ◌∙◌, ◌++◌, rules, subst}
use Rattle.std.specs.Prelude.{encode_utf8, encode_utf8_all}
use Rattle.std.specs.Str.{IsUtf8}
use Rattle.std.proofs.lemmas.Iterator.{YieldsList-from_chars}
use Rattle.std.proofs.lemmas.Iterator.Consumers.{YieldsList-end}
use Rattle.std.proofs.lemmas.List.{map-id}
use Rattle.std.proofs.lemmas.Str.{encodes-chars}
use Rattle.json_exact.specs.Writing.{escaped}
use Rattle.json_exact.proofs.Written.{escaped_more}
use Rattle.json_exact.proofs.writing.push_escaped.Goals as goal

pub loop-c-preserved : goal.loop-c-preserved
loop-c-preserved c = c.in_ok-push_char.ensures ∙ ap (λ text. text ++ escaped (encode_utf8 c.in-Some.c)) c.loop-c.invariant
    ∙ escaped_more c.args.out.now c.loop-c.yielded c.in-Some.c

pub returns : goal.returns
returns c =
    let text : IsUtf8 c.args.text.now = subst IsUtf8 c.as_str.ensures c.as_str.utf8 in
    let ended = YieldsList-end (YieldsList-from_chars c.args.text.now text (search rules)) c.loop-c.yielded _ c.loop-c.yielded_by _ _
    c.in-None.is c.next.ensures.steps in
    c.loop-c.invariant ∙ ap (λ cs. c.args.out.now ++ escaped (encode_utf8_all cs)) (sym (map-id c.loop-c.yielded) ∙ ended.0)
    ∙ ap (λ t. c.args.out.now ++ escaped t) (encodes-chars c.args.text.now text)
