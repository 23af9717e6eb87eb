use Rattle.std.proofs.Common.{ap, ◌∙◌}
use Rattle.std.specs.Prelude.{Err}
use Rattle.expr_eval.specs.Numbers.{number_in_text}
use Rattle.expr_eval.proofs.NumberTexts.{spelled, unread}
use Rattle.expr_eval.proofs.numbers.number_in_text.Goals as goal

pub returns-in-Ok : goal.returns-in-Ok
returns-in-Ok c =
    spelled c.as_bytes.result.now _ c.in-Ok.ensures.number (λ out. cc (c.in-Ok.ensures.range.1 out))
    ∙ ap number_in_text c.as_bytes.ensures.value

pub returns-in-Err : goal.returns-in-Err
returns-in-Err c =
    unread c.as_bytes.result.now c.in-Err.field-0 (λ e. c.in-Err.ensures.shape.0 (ap Err e)) (λ e. c.in-Err.ensures.range.0 (ap Err e))
    ∙ ap number_in_text c.as_bytes.ensures.value
