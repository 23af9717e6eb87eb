use Rattle.std.proofs.Common.{ap, sym, ◌∙◌, arith}
use Rattle.std.specs.Option.{option_and_then}
use Rattle.json_exact.specs.Path.{led_by}
use Rattle.json_exact.specs.inner.Along.{words_after}
use Rattle.json_exact.proofs.Paths.{led_ends, led_step}
use Rattle.json_exact.proofs.path.led_by.Goals as goal

pub returns-in_err-here : goal.returns-in_err-here
returns-in_err-here c =
    let step = led_step c.loop-rest.rest.now c.first_word.result.0.now c.first_word.result.1.now c.loop-rest.here.now (omega arith)
    c.first_word.ensures.words in
    rw c.from_residual.ensures (ap (option_and_then (led_by (words_after c.first_word.result.1.now))) c.in_err-here.ensures) ∙ sym step
    ∙ c.loop-rest.invariant

pub loop-rest-preserved : goal.loop-rest-preserved
loop-rest-preserved c =
    let step = led_step c.loop-rest.rest.now c.first_word.result.0.now c.first_word.result.1.now c.loop-rest.here.now (omega arith)
    c.first_word.ensures.words in
    ap (option_and_then (led_by (words_after c.first_word.result.1.now))) c.in_ok-here.ensures ∙ sym step ∙ c.loop-rest.invariant

pub returns : goal.returns
returns c = sym (led_ends c.loop-rest.rest.now c.loop-rest.here.now (omega arith)) ∙ c.loop-rest.invariant
