use Rattle.std.proofs.Common.{◌≡◌, Some, subst}
use Rattle.std.specs.Prelude.{IfOk}
use Rattle.cell_value.specs.State.{State, state_of}
use Rattle.param_flow.specs.Machine.{reply_to_chart, state_if}
use Rattle.vega_meaning.specs.Charts.{vega_picture_of}
use Rattle.plain_engine.proofs.events.do_event.Goals as goal

pub put_stores-requires-clause-stores : goal.put_stores-requires-clause-stores
put_stores-requires-clause-stores c = c.in_ok-after.ensures.stores

pub returns-clause-reply : goal.returns-clause-reply
returns-clause-reply c =
    subst (λ (now : State). IfOk c.put_stores.result (λ reply. reply ≡ reply_to_chart (vega_picture_of c.args.g.now now))) c.in_ok-after.ensures.state
    c.put_stores.ensures.reply

pub returns-clause-done : goal.returns-clause-done
returns-clause-done c =
    subst (λ (now : State). IfOk c.put_stores.result (λ reply. state_of c.put_stores.new.st ≡ state_if reply (state_of c.args.st.now) (Some now)))
    c.in_ok-after.ensures.state c.put_stores.ensures.done
