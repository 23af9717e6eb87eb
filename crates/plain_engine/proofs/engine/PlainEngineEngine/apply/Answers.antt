use Rattle.std.proofs.Common.{◌≡◌, refl, subst, IfOk}
use Rattle.cell_value.specs.State.{State, state_of}
use Rattle.vega_meaning.specs.Semantics.{vega_semantics}
use Rattle.play_script.specs.Meaning.{Meaning}
use Rattle.plain_engine.proofs.Replies.{asked, done, asked_set, done_set, asked_event, done_event}
use Rattle.plain_engine.proofs.engine.PlainEngineEngine.apply.Goals as goal

pub returns-in-Change-clause-reply : goal.returns-in-Change-clause-reply
returns-in-Change-clause-reply g c =
    subst (λ wanted. IfOk c.change.result (λ reply. reply ≡ wanted))
    (asked (vega_semantics c.args.self.now.spec) (state_of c.args.self.now.state) c.args.c.now c.in-Change.source c.in-Change.change _
    c.in-Change.is c.as_str.ensures) c.change.ensures.reply

pub returns-in-Change-clause-done : goal.returns-in-Change-clause-done
returns-in-Change-clause-done g c =
    let meant : State → Meaning = λ st. record { spec = c.args.self.now.spec; state = st } in
    done (vega_semantics c.args.self.now.spec) (state_of c.args.self.now.state) c.args.c.now c.in-Change.source c.in-Change.change _
    c.in-Change.is c.as_str.ensures
    meant _ c.change.result c.change.ensures.reply c.change.ensures.done

pub returns-in-Set-clause-reply : goal.returns-in-Set-clause-reply
returns-in-Set-clause-reply g c =
    subst (λ wanted. IfOk c.set.result (λ reply. reply ≡ wanted))
    (asked_set (vega_semantics c.args.self.now.spec) (state_of c.args.self.now.state) c.args.c.now c.in-Set.name c.in-Set.value _
    c.in-Set.is c.as_str-in-Set.ensures) c.set.ensures.reply

pub returns-in-Set-clause-done : goal.returns-in-Set-clause-done
returns-in-Set-clause-done g c =
    let meant : State → Meaning = λ st. record { spec = c.args.self.now.spec; state = st } in
    done_set (vega_semantics c.args.self.now.spec) (state_of c.args.self.now.state) c.args.c.now c.in-Set.name c.in-Set.value _
    c.in-Set.is c.as_str-in-Set.ensures
    meant _ c.set.result c.set.ensures.reply c.set.ensures.done

pub returns-in-Event-clause-reply : goal.returns-in-Event-clause-reply
returns-in-Event-clause-reply g c =
    subst (λ wanted. IfOk c.event.result (λ reply. reply ≡ wanted))
    (asked_event (vega_semantics c.args.self.now.spec) (state_of c.args.self.now.state) c.args.c.now c.in-Event.event c.in-Event.event
    c.in-Event.is refl) c.event.ensures.reply

pub returns-in-Event-clause-done : goal.returns-in-Event-clause-done
returns-in-Event-clause-done g c =
    let meant : State → Meaning = λ st. record { spec = c.args.self.now.spec; state = st } in
    done_event (vega_semantics c.args.self.now.spec) (state_of c.args.self.now.state) c.args.c.now c.in-Event.event c.in-Event.event
    c.in-Event.is refl
    meant _ c.event.result c.event.ensures.reply c.event.ensures.done
