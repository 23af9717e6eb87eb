-- Why two meanings that agree on states are one to the machine.
use Rattle.std.proofs.Common.{◌≡◌, ℕ, suc, Bool, true, false, not, ◌&&◌, Option, Some, None, List, refl, sym, ap, subst, ◌∙◌}
use Rattle.std.specs.Prelude.{if◌then◌else◌}
use Rattle.std.specs.List.{list_any, list_all}
use Rattle.std.specs.Str.{bytes_eq}
use Rattle.cell_value.specs.declared.cell.Cell.{Cell}
use Rattle.cell_value.specs.State.{State}
use Rattle.data_rows.specs.JsonRows.{first_bad}
use Rattle.scene_tree.specs.Outcome.{outcome_map}
use Rattle.param_flow.specs.declared.command.ChangeOf.{ChangeOf}
use Rattle.param_flow.specs.declared.command.Command.{Command}
use Rattle.param_flow.specs.declared.command.Command.TheVariants.{Change, Set, Event as OfMouse, Print}
use Rattle.param_flow.specs.declared.event.Event.{Event}
use Rattle.param_flow.specs.declared.reply.Reply.{Reply}
use Rattle.param_flow.specs.declared.reply.Reply.TheVariants.{Refused}
use Rattle.param_flow.specs.declared.reply.Cause.TheVariants as cause
use Rattle.param_flow.specs.Change.{names_of_change}
use Rattle.param_flow.specs.Semantics.{Semantics, ParamOf, is_settable, text_of, has_settable}
use Rattle.param_flow.specs.Machine.{reply_to_chart, reply_to_rows, reply_to_state, has_names, is_past_limit, state_changed, state_set, state_if}
use Rattle.param_flow.specs.Machine.{reply_to_change, reply_to_set, reply_to_event, reply_of, state_after, state_on, state_by}
use Rattle.param_flow.specs.States.{IsStateFor, IsMeaning}
use Rattle.param_flow.specs.Playing.{IsReply, without_notes, reply_text, refused, printed, told}
use Rattle.param_flow.specs.Script.{IsLine, IsOutput, IsOutputOf, lines_of, silent, too_long, replied, no_line, one_line}
use Rattle.param_flow.specs.Laws.{GiveTheSame, AgreeOnStates, MachinesAgree, OutputsAgree}
use Rattle.param_flow.proofs.KeptStates.{states_are_kept, change_kept, set_kept, event_kept}

module _ (a b : Semantics) (agree : AgreeOnStates a b) where
  -- they draw the same of a state of the second
  same_drawn : (st : State) → IsStateFor b st → reply_to_chart (a.draw st) ≡ reply_to_chart (b.draw st)
  same_drawn st of = ap reply_to_chart (agree.states st of).draw

  same_names : (name : List ℕ) (change : ChangeOf) → has_names a name change ≡ has_names b name change
  same_names name change = λ i.
      list_any (λ source. bytes_eq source name) (agree.sources i)
      && list_all (λ other. list_any (λ (param : ParamOf). bytes_eq param.name other) (agree.params i)) (names_of_change change)

  same_settable : (name : List ℕ) → has_settable a name ≡ has_settable b name
  same_settable name = λ i. list_any (λ (param : ParamOf). bytes_eq param.name name && is_settable param.kind) (agree.params i)

  -- what is replied to a change whose parts are known
  replied_by : (known past : Bool) (bad : Option (ℕ × List ℕ)) (o : Option State)
      → (known ≡ true → past ≡ false → (new : State) → o ≡ Some new → IsStateFor b new)
      → (if not known then Refused cause.Name else reply_to_rows bad (if past then Refused cause.Limit else reply_to_state a o))
      ≡ (if not known then Refused cause.Name else reply_to_rows bad (if past then Refused cause.Limit else reply_to_state b o))
  replied_by false past bad o kept = refl
  replied_by true past (Some row) o kept = refl
  replied_by true true None o kept = refl
  replied_by true false None None kept = refl
  replied_by true false None (Some new) kept = same_drawn new (kept refl refl new refl)

  set_by : (known : Bool) (new : State) → IsStateFor b new
      → (if known then reply_to_chart (a.draw new) else Refused cause.Name) ≡ (if known then reply_to_chart (b.draw new) else Refused cause.Name)
  set_by true new of = same_drawn new of
  set_by false new of = refl

  module _ (h : IsMeaning b) (st : State) (of : IsStateFor b st) where
    same : GiveTheSame a b st
    same = agree.states st of

    change_replied : (name : List ℕ) (change : ChangeOf) → reply_to_change a st name change ≡ reply_to_change b st name change
    change_replied name change =
        (λ i. if not (same_names name change i) then Refused cause.Name
        else reply_to_rows (first_bad 0 change.insert)
        (if is_past_limit (same.values i) st name change then Refused cause.Limit
        else reply_to_state a (state_changed (same.values i) st name change)))
        ∙ replied_by (has_names b name change) (is_past_limit (b.values st) st name change) (first_bad 0 change.insert)
        (state_changed (b.values st) st name change)
        (λ known free new is. change_kept b st h of name change new known free is)

    set_replied : (name : List ℕ) (value : Cell) → reply_to_set a st name value ≡ reply_to_set b st name value
    set_replied name value =
        ap (λ known. if known then reply_to_chart (a.draw (state_set st name value)) else Refused cause.Name) (same_settable name)
        ∙ set_by (has_settable b name) (state_set st name value) (set_kept b st name value of)

    same_state : (event : Event) → state_by a st event ≡ state_by b st event
    same_state event = λ i. state_on (agree.plots i) (agree.selections i) (same.rows i) st event (same.draw i)

    event_replied : (event : Event) → reply_to_event a st event ≡ reply_to_event b st event
    event_replied event = ap (λ new. reply_to_chart (a.draw new)) (same_state event) ∙ same_drawn (state_by b st event) (event_kept b st event h of)

    pub one_machine : (c : Command) → (reply_of a st c ≡ reply_of b st c) × (state_after a st c ≡ state_after b st c)
    one_machine (Change name change) =
        (change_replied name change, λ i. state_if (change_replied name change i) st (state_changed (same.values i) st name change))
    one_machine (Set name value) = (set_replied name value, λ i. state_if (set_replied name value i) st (Some (state_set st name value)))
    one_machine (OfMouse event) = (event_replied event, λ i. state_if (event_replied event i) st (Some (same_state event i)))
    one_machine Print = (refl, refl)

  module _ (h : IsMeaning b) (Noted : State → ℕ → Command → Reply → List ℕ → Type 0) where
    -- a reply over the second is one over the first, and leaves a state
    reply_agrees : (st now : State) (n : ℕ) (line reply note : List ℕ) → IsStateFor b st → IsReply b Noted st n line reply note now
        → IsReply a Noted st n line reply note now × IsStateFor b now
    reply_agrees st now n line reply note of (refused s m l none) = (refused s m l none, of)
    reply_agrees st now n line reply note of (printed s m l text is drawn) =
        (printed s m l text is (ap (outcome_map text_of) (agree.states s of).draw ∙ drawn), of)
    reply_agrees st now n line reply note of (told s m l made c is other noted) =
        let one = one_machine h s of c in
        let here : IsReply a Noted s m l (reply_text (reply_of a s c)) made (state_after a s c) =
        told s m l made c is other (subst (λ r. Noted s m c r made) (sym one.0) noted) in
        let both : (reply_of a s c, state_after a s c) ≡ (reply_of b s c, state_after b s c) = λ i. (one.0 i, one.1 i) in
        (subst (λ (p : Reply × State). IsReply a Noted s m l (reply_text p.0) made p.1) both here, states_are_kept b s c h of)

    line_agrees : (st now : State) (n : ℕ) (line reply note : List ℕ) → IsStateFor b st → IsLine (IsReply b Noted) st n line reply note now
        → IsLine (IsReply a Noted) st n line reply note now × IsStateFor b now
    line_agrees st now n line reply note of (silent s m l is) = (silent s m l is, of)
    line_agrees st now n line reply note of (too_long s m l loud long) = (too_long s m l loud long, of)
    line_agrees st now n line reply note of (replied s later m l r made loud short is) =
        let here = reply_agrees s later m l r made of is in (replied s later m l r made loud short here.0, here.1)

    lines_agree : (st now : State) (n : ℕ) (lines : List (List ℕ)) (out notes : List ℕ) → IsStateFor b st
        → IsOutput (IsReply b Noted) st n lines out notes now → IsOutput (IsReply a Noted) st n lines out notes now
    lines_agree st now n lines out notes of (no_line s m) = no_line s m
    lines_agree st now n lines out notes of (one_line s mid later m line reply note rest more others is after) =
        let here = line_agrees s mid m line reply note of is in
        one_line s mid later m line reply note rest more others here.0 (lines_agree mid later (suc m) others rest more here.1 after)

pub machines_agree : MachinesAgree
machines_agree a b st c agree h of = one_machine a b agree h st of c

-- whatever notes are made
pub outputs_agree_with : (a b : Semantics) (Noted : State → ℕ → Command → Reply → List ℕ → Type 0) (st now : State) (script out notes : List ℕ)
    → AgreeOnStates a b → IsMeaning b → IsStateFor b st → IsOutputOf (IsReply b Noted) st script out notes now
    → IsOutputOf (IsReply a Noted) st script out notes now
outputs_agree_with a b Noted st now script out notes agree h of is = lines_agree a b agree h Noted st now 1 (lines_of script) out notes of is

pub outputs_agree : OutputsAgree
outputs_agree a b st now script out notes agree h of is = outputs_agree_with a b without_notes st now script out notes agree h of is
