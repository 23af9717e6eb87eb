use Rattle.std.proofs.Common.{◌∙◌, sym, subst, rules, ℤ, Err, false, FitsSigned, to_z-of_z}
use Rattle.std.specs.Int.{w64}
use Rattle.std.specs.Str.{chars}
use Rattle.std.proofs.lemmas.Iterator.{YieldsList-from_chars}
use Rattle.std.proofs.lemmas.Iterator.Consumers.{YieldsList-end, YieldsList-so_far, YieldsList-turn}
use Rattle.std.proofs.lemmas.List.{map-id}
use Rattle.time_calc.specs.inner.Labels.{Labels, text_of}
use Rattle.time_calc.proofs.LabelLemmas.{none_so_far, one_char_more, ends_open, ends_whole, fails_there}
use Rattle.time_calc.proofs.labels.labelled.Goals as goal

pub loop-c-init : goal.loop-c-init
loop-c-init c = λ rest. rw c.new-out.ensures (none_so_far _)

pub loop-c-preserved : goal.loop-c-preserved
loop-c-preserved c = one_char_more _ c.loop-c.yielded c.loop-c.out c.push_piece.new.out
    c.loop-c.after_percent c.in-Ok.next c.in-Some.c c.loop-c.invariant c.in-Ok.ensures

pub returns-in-Err : goal.returns-in-Err
returns-in-Err c =
    let instant : FitsSigned w64 c.args.instant = c.ranges.instant in
    let all = YieldsList-from_chars c.args.pattern.now c.utf8.pattern (search rules) in
    let turn = YieldsList-turn all c.loop-c.yielded _ c.loop-c.yielded_by _ _ _ c.in-Some.is c.next.ensures.steps in
    let front = sym (map-id c.loop-c.yielded) ∙ YieldsList-so_far all c.loop-c.yielded _ c.loop-c.yielded_by in
    let P : ℤ → Type 0 = λ i. Labels (text_of i false (chars c.args.pattern.now)) (Err c.in-Err.error) in
    subst P (to_z-of_z instant)
    (fails_there _ c.loop-c.yielded c.loop-c.out c.push_piece.new.out (chars c.args.pattern.now) c.loop-c.after_percent c.in-Some.c c.in-Err.error
    front turn.0 turn.1 c.loop-c.invariant c.in-Err.ensures)

pub returns-then-after_percent : goal.returns-then-after_percent
returns-then-after_percent c =
    let instant : FitsSigned w64 c.args.instant = c.ranges.instant in
    let ended = YieldsList-end (YieldsList-from_chars c.args.pattern.now c.utf8.pattern (search rules))
    c.loop-c.yielded _ c.loop-c.yielded_by _ _ c.in-None.is c.next.ensures.steps in
    let so_far = simp to_z-of_z at c.loop-c.invariant in
    ends_open c.args.instant c.loop-c.yielded c.loop-c.out (chars c.args.pattern.now) c.loop-c.after_percent
    (sym (map-id c.loop-c.yielded) ∙ ended.0) c.if-after_percent.true so_far

pub returns : goal.returns
returns c =
    let instant : FitsSigned w64 c.args.instant = c.ranges.instant in
    let ended = YieldsList-end (YieldsList-from_chars c.args.pattern.now c.utf8.pattern (search rules))
    c.loop-c.yielded _ c.loop-c.yielded_by _ _ c.in-None.is c.next.ensures.steps in
    let so_far = simp to_z-of_z at c.loop-c.invariant in
    ends_whole c.args.instant c.loop-c.yielded c.loop-c.out (chars c.args.pattern.now) c.loop-c.after_percent
    (sym (map-id c.loop-c.yielded) ∙ ended.0) c.if-after_percent.false so_far
