use Rattle.std.proofs.Common.{ap, sym, ◌∙◌, ◌++◌, rules}
use Rattle.std.specs.Prelude.{flat_map, encode_utf8, encode_utf8_all}
use Rattle.std.proofs.lemmas.Iterator.{YieldsList-from_chars}
use Rattle.std.proofs.lemmas.Iterator.Consumers.{YieldsList-end}
use Rattle.std.proofs.lemmas.List.{map-id}
use Rattle.std.proofs.lemmas.Str.{encodes-chars}
use Rattle.spec_schema.specs.Faults.{path_byte}
use Rattle.spec_schema.proofs.PathTexts.{word_more}
use Rattle.spec_schema.proofs.fault.push_escaped.Goals as goal

pub loop-c-preserved : goal.loop-c-preserved
loop-c-preserved c = c.in_ok-push_char.ensures ∙ ap (λ text. text ++ flat_map path_byte (encode_utf8 c.in-Some.c)) c.loop-c.invariant
    ∙ word_more c.args.out.now c.loop-c.yielded c.in-Some.c

pub returns : goal.returns
returns c =
    let ended = YieldsList-end (YieldsList-from_chars c.args.name.now c.utf8.name (search rules)) c.loop-c.yielded _ c.loop-c.yielded_by _ _
    c.in-None.is c.next.ensures.steps in
    c.loop-c.invariant ∙ ap (λ cs. c.args.out.now ++ flat_map path_byte (encode_utf8_all cs)) (sym (map-id c.loop-c.yielded) ∙ ended.0)
    ∙ ap (λ t. c.args.out.now ++ flat_map path_byte t) (encodes-chars c.args.name.now c.utf8.name)
