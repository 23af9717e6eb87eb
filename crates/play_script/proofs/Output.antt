-- From a state whose chart is drawn each line has a reply, and so lines have an output; the chart of the state after them is drawn.
use Rattle.std.proofs.Common.{◌≡◌, ◌≢◌, ℕ, suc, nat_lt, not, Bool, true, false, List, [], ◌∷◌, ◌++◌, length, Option, Some, None, Result, Ok}
use Rattle.std.proofs.Common.{Err, if◌then◌else◌, refl, sym, ap, ◌∙◌, ltb-true, ltb-false}
use Rattle.cell_value.specs.State.{State}
use Rattle.scene_tree.specs.Outcome.{Outcome, Drawn, Overflow, Panels, outcome_map}
use Rattle.json_exact.proofs.Sound.{text_sound}
use Rattle.json_exact.proofs.Whole.{is_fault}
use Rattle.json_exact.specs.declared.json.Json.{Json}
use Rattle.json_exact.specs.inner.Reader.{text_at}
use Rattle.json_exact.specs.Reading.{Reads}
use Rattle.param_flow.specs.declared.command.Command.{Command}
use Rattle.param_flow.specs.declared.command.Command.TheVariants.{Change, Set, Event, Print}
use Rattle.param_flow.specs.declared.reply.Reply.{Reply}
use Rattle.param_flow.specs.declared.reply.Reply.TheVariants.{Done, Refused}
use Rattle.param_flow.specs.declared.reply.Cause.TheVariants as cause
use Rattle.param_flow.specs.Commands.{IsCommand, command_of}
use Rattle.param_flow.specs.Semantics.{Semantics, Picture, text_of, chart_of, has_settable}
use Rattle.param_flow.specs.Machine.{reply_to_chart, reply_to_rows, reply_to_state, reply_to_change, reply_to_set, reply_to_event, reply_of, has_names}
use Rattle.param_flow.specs.Machine.{state_if, state_after, state_by, state_changed, state_set, is_past_limit}
use Rattle.data_rows.specs.JsonRows.{first_bad}
use Rattle.param_flow.specs.Playing.{IsReply, reply_text, refused, printed, told, without_notes}
use Rattle.param_flow.specs.Script.{IsLine, IsOutput, is_silent, most_line_bytes, refused_line, silent, too_long, replied, no_line}
use Rattle.param_flow.specs.Script.{one_line}
use Rattle.play_script.specs.inner.Once.{read_command, is_command}
use Rattle.play_script.specs.inner.Reading.{script_expression}

-- where a command is done, the new chart is drawn
chart_drawn : {X : Type 0} (o : Outcome X) → reply_to_chart o ≡ Done → (picture : X) × (o ≡ Drawn picture)
chart_drawn (Drawn picture) e = (picture, refl)
chart_drawn Overflow e = absurd cc
chart_drawn (Panels n) e = absurd cc

module _ (meaning : Semantics) where
  -- the chart of the state is drawn
  abbrev pub HasPicture : State → Type 0
  HasPicture st = (picture : List ℕ) × (chart_of meaning st ≡ Drawn picture)

  -- where there is a state, its chart is drawn
  abbrev HaveDrawn : Option State → Type 0
  HaveDrawn None = Unit {0}
  HaveDrawn (Some new) = HasPicture new

  picture_drawn : (new : State) → (picture : Picture) × (meaning.draw new ≡ Drawn picture) → HasPicture new
  picture_drawn new (picture, e) = (text_of picture, ap (outcome_map text_of) e)

  new_drawn : (o : Option State) → reply_to_state meaning o ≡ Done → HaveDrawn o
  new_drawn None e = tt
  new_drawn (Some new) e = picture_drawn new (chart_drawn (meaning.draw new) e)

  change_drawn : (known past : Bool) (bad : Option (ℕ × List ℕ)) (o : Option State)
      → (if not known then Refused cause.Name
      else reply_to_rows bad (if past then Refused cause.Limit else reply_to_state meaning o)) ≡ Done
      → HaveDrawn o
  change_drawn false past bad o e = absurd cc
  change_drawn true past (Some b) o e = absurd cc
  change_drawn true true None o e = absurd cc
  change_drawn true false None o e = new_drawn o e

  set_drawn : (known : Bool) (new : State) → (if known then reply_to_chart (meaning.draw new) else Refused cause.Name) ≡ Done
      → HasPicture new
  set_drawn false new e = absurd cc
  set_drawn true new e = picture_drawn new (chart_drawn (meaning.draw new) e)

  state_drawn : (r : Reply) (st : State) (o : Option State) → HasPicture st → (r ≡ Done → HaveDrawn o) → HasPicture (state_if r st o)
  state_drawn Done st (Some new) old done = done refl
  state_drawn Done st None old done = old
  state_drawn (Refused why) st o old done = old

  -- the chart of the state after a command is drawn
  pub after_drawn : (st : State) (c : Command) → HasPicture st → HasPicture (state_after meaning st c)
  after_drawn st (Change name change) old =
      let new = state_changed (meaning.values st) st name change in
      state_drawn (reply_to_change meaning st name change) st new old
      (change_drawn (has_names meaning name change) (is_past_limit (meaning.values st) st name change) (first_bad 0 change.insert) new)
  after_drawn st (Set name value) old =
      let new = state_set st name value in
      state_drawn (reply_to_set meaning st name value) st (Some new) old (set_drawn (has_settable meaning name) new)
  after_drawn st (Event event) old =
      let new = state_by meaning st event in
      state_drawn (reply_to_event meaning st event) st (Some new) old (λ e. picture_drawn new (chart_drawn (meaning.draw new) e))
  after_drawn st Print old = old

  -- of a relation that says what is replied and what the state is then: it holds, and the chart of that state is drawn
  pub record HasReply (Is : List ℕ → List ℕ → State → Type 0) : Type 0 where
    pub reply : List ℕ
    pub note : List ℕ
    pub now : State
    pub is : Is reply note now
    pub drawn : HasPicture now

  module _ (st : State) (n : ℕ) (line : List ℕ) (drawn : HasPicture st) where
    told_line : (c : Command) → IsCommand line c → c ≢ Print → HasReply (IsReply meaning without_notes st n line)
    told_line c is other = record {
      reply = reply_text (reply_of meaning st c);
      note = [];
      now = state_after meaning st c;
      is = told st n line [] c is other refl;
      drawn = after_drawn st c drawn;
    }

    command_line : (c : Command) → IsCommand line c → HasReply (IsReply meaning without_notes st n line)
    command_line (Change name change) is = told_line (Change name change) is (λ e. absurd cc)
    command_line (Set name value) is = told_line (Set name value) is (λ e. absurd cc)
    command_line (Event event) is = told_line (Event event) is (λ e. absurd cc)
    command_line Print is = record { reply = drawn.0; note = []; now = st; is = printed st n line drawn.0 is drawn.1; drawn = drawn }

    refused_one : ((c : Command) → IsCommand line c → ⊥) → HasReply (IsReply meaning without_notes st n line)
    refused_one none = record { reply = refused_line; note = []; now = st; is = refused st n line none; drawn = drawn }

    -- a line that reads as a tree is a command or none
    by_command : (tree : Json) → Reads line tree → (o : Option Command) → command_of script_expression tree ≡ o
        → HasReply (IsReply meaning without_notes st n line)
    by_command tree reads (Some c) e = command_line c (is_command line tree reads c e)
    by_command tree reads None e = refused_one (λ c is.
        let both : Some c ≡ None = sym (read_command line tree reads c is) ∙ e in
        absurd cc)

    by_tree : (r : Result Json ℕ) → text_at line ≡ r → HasReply (IsReply meaning without_notes st n line)
    by_tree (Ok tree) e = by_command tree (text_sound line tree e) (command_of script_expression tree) refl
    by_tree (Err k) e = refused_one (λ c is. is_fault line k e is.tree is.reads)

    by_length : is_silent line ≡ false → (b : Bool) → nat_lt most_line_bytes (length line) ≡ b
        → HasReply (IsLine (IsReply meaning without_notes) st n line)
    by_length loud true e =
        record {
          reply = refused_line;
          note = [];
          now = st;
          is = too_long st n line loud (ltb-true most_line_bytes (length line) e);
          drawn = drawn;
        }
    by_length loud false e =
        let r = by_tree (text_at line) refl in
        record {
          reply = r.reply;
          note = r.note;
          now = r.now;
          is = replied st r.now n line r.reply r.note loud (ltb-false most_line_bytes (length line) e) r.is;
          drawn = r.drawn;
        }

    a_line : (b : Bool) → is_silent line ≡ b → HasReply (IsLine (IsReply meaning without_notes) st n line)
    a_line true e = record { reply = []; note = []; now = st; is = silent st n line e; drawn = drawn }
    a_line false e = by_length e (nat_lt most_line_bytes (length line)) refl

  -- lines have an output
  pub has_output : (st : State) (n : ℕ) (lines : List (List ℕ)) → HasPicture st → HasReply (IsOutput (IsReply meaning without_notes) st n lines)
  has_output st n [] drawn = record { reply = []; note = []; now = st; is = no_line st n; drawn = drawn }
  has_output st n (line ∷ lines) drawn =
      let r = a_line st n line drawn (is_silent line) refl in
      let o = has_output r.now (suc n) lines r.drawn in
      record {
        reply = r.reply ++ o.reply;
        note = r.note ++ o.note;
        now = o.now;
        is = one_line st r.now o.now n line r.reply r.note o.reply o.note lines r.is o.is;
        drawn = o.drawn;
      }
