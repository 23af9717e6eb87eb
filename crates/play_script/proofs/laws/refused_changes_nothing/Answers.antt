use Rattle.std.proofs.Common.{◌≡◌, Option, Some, refl}
use Rattle.cell_value.specs.State.{State}
use Rattle.param_flow.specs.declared.command.Command.{Command}
use Rattle.param_flow.specs.declared.command.Command.TheVariants.{Change, Set, Event, Print}
use Rattle.param_flow.specs.declared.reply.Cause.{Cause}
use Rattle.param_flow.specs.declared.reply.Reply.{Reply}
use Rattle.param_flow.specs.declared.reply.Reply.TheVariants.{Done, Refused}
use Rattle.param_flow.specs.Machine.{reply_of, reply_to_change, reply_to_set, reply_to_event, state_after, state_by, state_changed, state_if, state_set}
use Rattle.param_flow.specs.Semantics.{Semantics}
use Rattle.play_script.proofs.laws.refused_changes_nothing.Goals as goal

-- where the reply is a refusal, the state stays
stays : (r : Reply) (st : State) (new : Option State) (cause : Cause) → r ≡ Refused cause → state_if r st new ≡ st
stays Done st new cause is = absurd cc
stays (Refused why) st new cause is = refl

unchanged : (meaning : Semantics) (st : State) (command : Command) (cause : Cause) → reply_of meaning st command ≡ Refused cause
    → state_after meaning st command ≡ st
unchanged meaning st (Change name change) cause is =
    stays (reply_to_change meaning st name change) st (state_changed (meaning.values st) st name change) cause is
unchanged meaning st (Set name value) cause is = stays (reply_to_set meaning st name value) st (Some (state_set st name value)) cause is
unchanged meaning st (Event event) cause is = stays (reply_to_event meaning st event) st (Some (state_by meaning st event)) cause is
unchanged meaning st Print cause is = refl

pub returns : goal.returns
returns c = unchanged
