use Rattle.std.proofs.Common.{length, sym, ap, ◌∙◌, rules, subst}
use Rattle.std.specs.List.{flat_map}
use Rattle.std.specs.Str.{IsUtf8, chars}
use Rattle.std.proofs.lemmas.Iterator.{YieldsList-from_chars}
use Rattle.std.proofs.lemmas.Iterator.Consumers.{YieldsList-end, YieldsList-so_far, YieldsList-turn}
use Rattle.std.proofs.lemmas.List.{map-id}
use Rattle.svg_text.specs.SceneText.{xml_char}
use Rattle.svg_text.proofs.Steps.{prints_nothing, prints_same, prints_then, prints_to_item, one_more}
use Rattle.svg_text.proofs.pieces.put_escapes.Goals as goal

pub loop-c-init : goal.loop-c-init
loop-c-init g c = prints_nothing c.args.out.now c.args.page.now _

pub returns-in_err-put_escape : goal.returns-in_err-put_escape
returns-in_err-put_escape g c =
    let text : IsUtf8 c.args.text.now = subst IsUtf8 c.as_str.ensures c.as_str.utf8 in
    let all = YieldsList-from_chars c.args.text.now text (search rules) in
    let turn = YieldsList-turn all c.loop-c.yielded _ c.loop-c.yielded_by _ _ _ c.in-Some.is c.next.ensures.steps in
    let front = sym (map-id c.loop-c.yielded) ∙ YieldsList-so_far all c.loop-c.yielded _ c.loop-c.yielded_by in
    prints_to_item xml_char (chars c.args.text.now) (length c.loop-c.yielded) c.in-Some.c turn.0 turn.1 c.from_residual.ensures.0
    (prints_same (ap (flat_map xml_char) front) c.loop-c.invariant) c.in_err-put_escape.ensures

pub loop-c-preserved : goal.loop-c-preserved
loop-c-preserved g c = prints_same (one_more xml_char c.loop-c.yielded c.in-Some.c)
    (prints_then c.loop-c.invariant c.in_ok-put_escape.ensures)

pub returns : goal.returns
returns g c =
    let text : IsUtf8 c.args.text.now = subst IsUtf8 c.as_str.ensures c.as_str.utf8 in
    let ended = YieldsList-end (YieldsList-from_chars c.args.text.now text (search rules)) c.loop-c.yielded _ c.loop-c.yielded_by _ _
    c.in-None.is c.next.ensures.steps in
    prints_same (ap (flat_map xml_char) (sym (map-id c.loop-c.yielded) ∙ ended.0)) c.loop-c.invariant
