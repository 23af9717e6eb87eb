-- What comes of a line that is a command of an engine, or none.
use Rattle.std.proofs.Common.{◌≡◌, ◌≢◌, inr, ℕ, List, [], Option, Result, Ok, Err, OnOk, IfErr, refl, sym, subst}
use Rattle.chart_io.specs.Outside.{Appended, AppendedPrefix}
use Rattle.scene_tree.specs.Outcome.{Outcome, Drawn, IsDrawn}
use Rattle.param_flow.specs.declared.command.Command.{Command}
use Rattle.param_flow.specs.declared.command.Command.TheVariants.{Print}
use Rattle.param_flow.specs.Commands.{IsCommand}
use Rattle.param_flow.specs.Playing.{reply_text, refused, printed, told}
use Rattle.param_flow.specs.Script.{refused_line}
use Rattle.play_script.specs.declared.errors.PlayError.{PlayError}
use Rattle.play_script.specs.Meaning.{Meaning, chart_in, reply_in, meaning_after, IsReplyIn}
use Rattle.play_script.specs.Played.{sinks, IsLineDone}
use Rattle.play_script.specs.inner.Progress.{IsStop, AreSent}
use Rattle.play_script.proofs.Done.{sent}

module _ {X : Type 0} (meaning now : Meaning) (n : ℕ) (line : List ℕ) (held held_now noted : Option (List ℕ)) (faults : ℕ)
    (result : Result X PlayError) (stop : IfErr result IsStop) where
  -- a reply was written
  written : (result : Result X PlayError)
      → AreSent (λ reply note. IsReplyIn meaning n line reply note now) (sinks held noted faults) (sinks held_now noted faults) result
      → IsLineDone IsReplyIn n line meaning now (sinks held noted faults) (sinks held_now noted faults) result
  written (Ok x) h = h
  written (Err cause) h = (h.0, inr h.1)

  replied : (reply : List ℕ) → IsReplyIn meaning n line reply [] now → OnOk result (Appended held held_now reply)
      → AppendedPrefix held held_now reply
      → IsLineDone IsReplyIn n line meaning now (sinks held noted faults) (sinks held_now noted faults) result
  replied reply is ok prefix = written result (sent (λ reply note. IsReplyIn meaning n line reply note now) held held_now noted faults
      result reply is stop ok prefix)

  -- a command that is no print
  pub told_done : (c : Command) → IsCommand line c → c ≢ Print → now ≡ meaning_after meaning c
      → OnOk result (Appended held held_now (reply_text (reply_in meaning c)))
      → AppendedPrefix held held_now (reply_text (reply_in meaning c))
      → IsLineDone IsReplyIn n line meaning now (sinks held noted faults) (sinks held_now noted faults) result
  told_done c is other after =
      let at : Meaning → Type 0 = λ m. IsReplyIn meaning n line (reply_text (reply_in meaning c)) [] m in
      replied (reply_text (reply_in meaning c)) (subst at (sym after) (refl, told meaning.state n line [] c is other refl))

  -- a line that is no command
  pub refused_done : ((c : Command) → IsCommand line c → ⊥) → now ≡ meaning → OnOk result (Appended held held_now refused_line)
      → AppendedPrefix held held_now refused_line
      → IsLineDone IsReplyIn n line meaning now (sinks held noted faults) (sinks held_now noted faults) result
  refused_done none same =
      let at : Meaning → Type 0 = λ m. IsReplyIn meaning n line refused_line [] m in
      replied refused_line (subst at (sym same) (refl, refused meaning.state n line none))

  -- a print
  pub printed_done : (text : List ℕ) → chart_in meaning ≡ Drawn text → IsCommand line Print → now ≡ meaning
      → OnOk result (IsDrawn (chart_in meaning) (Appended held held_now))
      → IsDrawn (chart_in meaning) (AppendedPrefix held held_now)
      → IsLineDone IsReplyIn n line meaning now (sinks held noted faults) (sinks held_now noted faults) result
  printed_done text drawn is same ok prefix =
      let at : Meaning → Type 0 = λ m. IsReplyIn meaning n line text [] m in
      let whole : Outcome (List ℕ) → Type 0 = λ o. OnOk result (IsDrawn o (Appended held held_now)) in
      let begun : Outcome (List ℕ) → Type 0 = λ o. IsDrawn o (AppendedPrefix held held_now) in
      replied text (subst at (sym same) (refl, printed meaning.state n line text is drawn)) (subst whole drawn ok)
      (subst begun drawn prefix)
