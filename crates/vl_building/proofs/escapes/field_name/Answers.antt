use Rattle.std.proofs.Common.{refl, ap, sym, ◌∙◌, rules}
use Rattle.std.specs.Prelude.{encode_utf8_all}
use Rattle.std.proofs.lemmas.Iterator.{YieldsList-from_chars}
use Rattle.std.proofs.lemmas.Iterator.Consumers.{YieldsList-end}
use Rattle.std.proofs.lemmas.List.{map-id}
use Rattle.std.proofs.lemmas.Str.{encodes-chars}
use Rattle.vl_building.proofs.EscapeLemmas.{next_walked, all_characters}
use Rattle.vl_building.proofs.escapes.field_name.Goals as goal

pub loop-c-preserved : goal.loop-c-preserved
loop-c-preserved c = next_walked _ _ c.loop-c.yielded _ _ c.in-Some.c c.in_ok-push_behind.ensures refl c.loop-c.invariant

pub returns : goal.returns
returns c =
    let ended = YieldsList-end (YieldsList-from_chars c.args.text.now c.utf8.text (search rules)) c.loop-c.yielded _ c.loop-c.yielded_by _ _
    c.in-None.is c.next.ensures.steps in
    c.in_ok-push_waiting.ensures
    ∙ all_characters _ c.loop-c.yielded c.args.text.now _ c.loop-c.invariant
    (ap encode_utf8_all (sym (map-id c.loop-c.yielded) ∙ ended.0) ∙ encodes-chars c.args.text.now c.utf8.text)
