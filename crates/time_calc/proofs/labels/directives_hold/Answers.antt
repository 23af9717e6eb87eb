use Rattle.std.proofs.Common.{◌∙◌, sym, rules, refl}
use Rattle.std.specs.Str.{chars}
use Rattle.std.proofs.lemmas.Iterator.{YieldsList-from_chars}
use Rattle.std.proofs.lemmas.Iterator.Consumers.{YieldsList-end, YieldsList-so_far, YieldsList-turn}
use Rattle.std.proofs.lemmas.List.{map-id}
use Rattle.time_calc.proofs.LabelLemmas.{holds_longer, holds_not, holds_whole}
use Rattle.time_calc.proofs.labels.directives_hold.Goals as goal

pub loop-c-init : goal.loop-c-init
loop-c-init c = λ rest. refl

pub loop-c-preserved : goal.loop-c-preserved
loop-c-preserved c = holds_longer c.loop-c.yielded c.loop-c.after_percent c.in-Some-after.next c.in-Some.c c.loop-c.invariant c.in-Some-after.ensures

pub returns-in-None-after : goal.returns-in-None-after
returns-in-None-after c =
    let all = YieldsList-from_chars c.args.text.now c.utf8.text (search rules) in
    let turn = YieldsList-turn all c.loop-c.yielded _ c.loop-c.yielded_by _ _ _ c.in-Some.is c.next.ensures.steps in
    let front = sym (map-id c.loop-c.yielded) ∙ YieldsList-so_far all c.loop-c.yielded _ c.loop-c.yielded_by in
    sym (holds_not c.loop-c.yielded (chars c.args.text.now) c.loop-c.after_percent c.in-Some.c front turn.0 turn.1 c.loop-c.invariant c.in-None-after.ensures)

pub returns : goal.returns
returns c =
    let ended = YieldsList-end (YieldsList-from_chars c.args.text.now c.utf8.text (search rules))
    c.loop-c.yielded _ c.loop-c.yielded_by _ _ c.in-None.is c.next.ensures.steps in
    sym (holds_whole c.loop-c.yielded (chars c.args.text.now) c.loop-c.after_percent (sym (map-id c.loop-c.yielded) ∙ ended.0) c.loop-c.invariant)
