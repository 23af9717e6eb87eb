use Rattle.expr_syntax.proofs.Called.{all_sound, all_complete}
use Rattle.expr_syntax.proofs.calls.text_call.Goals as goal

pub returns-in-Ok-clause-sound : goal.returns-in-Ok-clause-sound
returns-in-Ok-clause-sound c =
    all_sound c.args.text.now c.in-Ok.tokens c.in-Ok.ensures.ok c.as_slice.result.now c.as_slice.ensures c.call_in.result
    c.call_in.ensures

pub returns-in-Ok-clause-complete : goal.returns-in-Ok-clause-complete
returns-in-Ok-clause-complete c =
    all_complete c.args.text.now c.in-Ok.tokens c.in-Ok.ensures.ok c.as_slice.result.now c.as_slice.ensures c.call_in.result
    c.call_in.ensures
