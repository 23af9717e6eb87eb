-- What was appended where a script was cut off: the replies to the lines that ended.
use Rattle.std.proofs.Common.{◌≡◌, ℕ, Bool, true, false, Option, Some, None, List, [], ◌++◌, take, Result, Ok, Err, IfSome, refl, sym, ap}
use Rattle.std.proofs.Common.{subst, append-nil}
use Rattle.std.proofs.lemmas.List.{take_all}
use Rattle.chart_io.specs.Outside.{Files, Appended}
use Rattle.cell_value.specs.State.{state_of}
use Rattle.param_flow.specs.Script.{IsOutput, no_line, ended_lines, most_script_bytes}
use Rattle.vega_meaning.specs.Semantics.{IsVegaReply}
use Rattle.play_script.specs.Meaning.{Meaning, IsReplyIn}
use Rattle.play_script.specs.Played.{output_alone, AreDone, HasTaken, IsPlayed}
use Rattle.play_script.specs.declared.errors.PlayError.{PlayError}
use Rattle.play_script.specs.declared.errors.PlayError.TheVariants as error
use Rattle.play_script.proofs.Vega.{as_vega}
use Rattle.chart_opening.specs.declared.opened.Opened.{Opened}
use Rattle.chart_opening.specs.Charts.{drawn_by}
use Rattle.chart_opening.specs.inner.Reading.{the_reading}
use Rattle.chart_run.specs.Words.{Ask, Play, reads_script}
use Rattle.chart_run.specs.Wanted.{AreRepliesFrom, IsRepliedTo}
use Rattle.chart_run.specs.inner.Stops.{handed, meant, IsCutOff}
use Rattle.chart_run.specs.inner.Runs.{IsRepliedSo}
use Rattle.chart_run.specs.declared.stop.RunStop.{RunStop}
use Rattle.chart_run.proofs.OpenedLemmas.{opened_is}
use Rattle.chart_run.proofs.Texts.{Opens}

-- nothing was appended
nothing_more : (held : Option (List ℕ)) → Appended held held []
nothing_more None = tt
nothing_more (Some bytes) = ap Some (sym (append-nil bytes))

module _ (name : List ℕ) (files : Files) (opened : Opened) (given : drawn_by the_reading files name ≡ Ok opened) (meaning now : Meaning)
    (opens : meant opened ≡ meaning) (bytes taken rest : List ℕ) (split : bytes ≡ taken ++ rest) (old held : Option (List ℕ)) where
  -- the lines that are done are those that ended, and their whole output was appended
  ended_replied : (lines : List (List ℕ)) → lines ≡ ended_lines (take most_script_bytes taken)
      → AreDone IsReplyIn 1 lines meaning now (output_alone old) (output_alone held)
      → IsRepliedTo the_reading (Play name) files bytes (Some rest) old held
  ended_replied lines same h =
      let is = as_vega meaning now 1 lines h.out h.notes h.is in
      let at : Meaning → Type 0 = λ m. IsOutput (IsVegaReply m.spec) m.state 1 lines h.out h.notes now.state in
      let from : AreRepliesFrom opened lines h.out = (h.notes, now.state, subst at (sym opens) is.1) in
      let of : List (List ℕ) → Type 0 = λ ls. AreRepliesFrom opened ls h.out in
      (opened, given, taken, split, h.out, subst of same from, h.appended)

  -- where playing was cut off, they are those that ended
  cut_replied : (r : Result (Unit {0}) PlayError) → IsPlayed IsReplyIn bytes taken meaning now (output_alone old) (output_alone held) r
      → IsCutOff (handed r) → IsRepliedTo the_reading (Play name) files bytes (Some rest) old held
  cut_replied (Ok done) played cut = absurd cut
  cut_replied (Err error.Read) (few, h) cut =
      ended_replied (ended_lines taken) (ap ended_lines (sym (take_all most_script_bytes taken few))) h
  cut_replied (Err error.Size) (many, h) cut = ended_replied (ended_lines (take most_script_bytes taken)) refl h
  cut_replied (Err error.Write) played cut = absurd cut
  cut_replied (Err error.Memory) played cut = absurd cut

-- playing over what was opened
pub opened_replied : (told : Option Files) (name : List ℕ) (script left : Option (List ℕ)) (taken : List ℕ) (old held : Option (List ℕ))
    (meaning now : Meaning) (r : Result (Unit {0}) PlayError)
    → Opens told name meaning → HasTaken script left taken
    → IfSome script (λ bytes. IsPlayed IsReplyIn bytes taken meaning now (output_alone old) (output_alone held) r)
    → IfSome told (λ files. IfSome script (λ bytes. IsRepliedSo (Play name) files bytes left (handed r) old held))
opened_replied None name script left taken old held meaning now r opens split played = tt
opened_replied (Some files) name None left taken old held meaning now r opens split played = tt
opened_replied (Some files) name (Some bytes) None taken old held meaning now r opens split played = absurd split
opened_replied (Some files) name (Some bytes) (Some rest) taken old held meaning now r opens split played =
    let (opened, given, is) = opened_is (drawn_by the_reading files name) meaning opens in
    λ accepted reads cut. cut_replied name files opened given meaning now is bytes taken rest split old held r played cut

-- Where opening a file stops a run, no byte was taken, and no line has ended.
pub unopened_replied : (told : Option Files) (name : List ℕ) (cause : RunStop) (script old : Option (List ℕ))
    → IfSome told (λ files. IfSome script (λ bytes. IsRepliedSo (Play name) files bytes script (Err cause) old old))
unopened_replied None name cause script old = tt
unopened_replied (Some files) name cause None old = tt
unopened_replied (Some files) name cause (Some bytes) old = λ accepted reads cut.
    (accepted.0, accepted.1, [], refl, [], ([], state_of accepted.0.state, no_line (state_of accepted.0.state) 1), nothing_more old)

-- where no script is read there is nothing to say
pub unread_replied : (told : Option Files) (ask : Ask) (bytes : List ℕ) (left : Option (List ℕ)) (r : Result (Unit {0}) RunStop)
    (old now : Option (List ℕ)) → reads_script ask ≡ false → IfSome told (λ files. IsRepliedSo ask files bytes left r old now)
unread_replied None ask bytes left r old now none = tt
unread_replied (Some files) ask bytes left r old now none = λ accepted reads cut. absurd (no_script (reads_script ask) none reads)
  where
    no_script : (b : Bool) → b ≡ false → b ≡ true → ⊥
    no_script false is reads = absurd cc
    no_script true is reads = absurd cc
