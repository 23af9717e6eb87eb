use Rattle.std.proofs.Common.{◌≡◌, length, ap, sym, ◌∙◌, arith}
use Rattle.json_exact.specs.Path.{led_by}
use Rattle.json_exact.specs.inner.Along.{words_after}
use Rattle.fixed_num.specs.Front.{first}
use Rattle.json_exact.proofs.Paths.{path_empty, path_led, path_none, empty_by_length}
use Rattle.json_exact.proofs.path.at_path.Goals as goal

pub returns-then-is_empty : goal.returns-then-is_empty
returns-then-is_empty c = path_empty c.args.tree.now c.args.path.now (sym c.as_bytes-path.ensures.value
    ∙ empty_by_length c.as_bytes-path.result.now (grind arith))

pub returns-then-first_of-ne47 : goal.returns-then-first_of-ne47
returns-then-first_of-ne47 c =
    path_none c.args.tree.now c.args.path.now
    (λ e. let none : length c.as_bytes-path.result.now ≡ 0 = ap length (c.as_bytes-path.ensures.value ∙ e) in grind arith)
    (λ e. c.if-first_of-ne47.true (c.first_of.ensures ∙ ap first c.as_bytes-path.ensures.value ∙ e))

pub returns : goal.returns
returns c =
    let led = path_led c.args.tree.now c.args.path.now
    (λ e. let none : length c.as_bytes-path.result.now ≡ 0 = ap length (c.as_bytes-path.ensures.value ∙ e) in grind arith)
    (ap first (sym c.as_bytes-path.ensures.value) ∙ sym c.first_of.ensures ∙ c.if-first_of-ne47.false) in
    c.led_by.ensures ∙ ap (λ p. led_by (words_after p) c.args.tree.now) c.as_bytes-path.ensures.value ∙ led
