-- The text that is wanted over accepted files, and what printing, playing and compiling over them append.
use Rattle.std.proofs.Common.{◌≡◌, ◌+◌, ℕ, Option, Some, None, List, [], ◌∷◌, ◌++◌, length, length-append, Result, Ok, Err, IfSome, OnOk}
use Rattle.std.proofs.Common.{refl, sym, subst, ap, ◌∙◌, arith}
use Rattle.chart_io.specs.Outside.{Files, Kept, Appended, AppendedPrefix}
use Rattle.cell_value.specs.State.{state_of}
use Rattle.scene_tree.specs.Outcome.{Outcome, Drawn, IsDrawn}
use Rattle.vega_meaning.specs.Charts.{vega_chart_of}
use Rattle.vega_meaning.specs.Semantics.{vega_semantics, IsVegaOutput}
use Rattle.param_flow.specs.Script.{lines_of}
use Rattle.play_script.specs.Meaning.{Meaning, chart_in, IsReplyIn}
use Rattle.play_script.specs.Played.{output_alone, HasTaken, IsPlayed}
use Rattle.play_script.specs.declared.errors.PlayError.{PlayError}
use Rattle.play_script.proofs.Output.{has_output}
use Rattle.play_script.proofs.Vega.{played_begins, as_vega}
use Rattle.chart_opening.specs.declared.opened.Opened.{Opened}
use Rattle.chart_opening.specs.Charts.{drawn_by}
use Rattle.chart_opening.specs.Compiled.{compiled_by}
use Rattle.chart_opening.specs.inner.Reading.{the_reading}
use Rattle.chart_run.specs.Words.{Render, Play, Compile}
use Rattle.chart_run.specs.Wanted.{IsAccepted, IsOutputFrom, IsWanted, vega_text}
use Rattle.chart_run.specs.Ends.{IsReadWhole}
use Rattle.chart_run.specs.inner.Stops.{handed, meant, meant_of}
use Rattle.chart_run.specs.inner.Runs.{IsTexted}
use Rattle.chart_run.specs.declared.stop.RunStop.{RunStop}
use Rattle.chart_run.proofs.OpenedLemmas.{opened_is, drawn_is}
use Rattle.chart_run.proofs.Pictures.{picture_is}
use Rattle.chart_run.proofs.Prefixes.{appended_is_prefix, kept_is_prefix}
use Rattle.first_form.proofs.FormLemmas.{forms_are_drawable}
use Rattle.first_form.proofs.SameChart.{vega_chart_is}
use Rattle.chart_opening.proofs.FormOpenings.{form_opens}

module _ (files : Files) (name : List ℕ) (opened : Opened) where
  -- the picture of what is drawn
  drawn_picture : drawn_by the_reading files name ≡ Ok opened
      → (text : List ℕ) × (vega_chart_of opened.spec (state_of opened.state) ≡ Drawn text) × IsWanted the_reading (Render name) files [] text
  drawn_picture e =
      let (is, (text, drawn)) = drawn_is the_reading files name opened e in
      let (tree, read, same) = picture_is forms_are_drawable vega_chart_is form_opens the_reading files name opened is in
      (text, drawn, (opened, e, (tree, read, same ∙ drawn)))

  -- the output of a script over what is drawn
  drawn_output : (script : List ℕ) → drawn_by the_reading files name ≡ Ok opened
      → (text : List ℕ) × IsOutputFrom opened script text
  drawn_output script e =
      let (is, (text, drawn)) = drawn_is the_reading files name opened e in
      let o = has_output (vega_semantics opened.spec) (state_of opened.state) 1 (lines_of script) (text, drawn) in
      (o.reply, (o.note, o.now, o.is))

pub wanted_picture : (name : List ℕ) (files : Files) → IsAccepted the_reading (Render name) files
    → (text : List ℕ) × IsWanted the_reading (Render name) files [] text
wanted_picture name files (opened, e) = let (text, drawn, wanted) = drawn_picture files name opened e in (text, wanted)

pub wanted_output : (name : List ℕ) (files : Files) (script : List ℕ) → IsAccepted the_reading (Play name) files
    → (text : List ℕ) × IsWanted the_reading (Play name) files script text
wanted_output name files script (opened, e) = let (text, is) = drawn_output files name opened script e in (text, (opened, e, is))

pub wanted_text : (name : List ℕ) (files : Files) → IsAccepted the_reading (Compile name) files
    → (text : List ℕ) × IsWanted the_reading (Compile name) files [] text
wanted_text name files (opened, e) = (vega_text opened, (opened, e, refl))

-- a chart that is drawn is drawn as this text
drawn_as : (o : Outcome (List ℕ)) (P : List ℕ → Type 0) (text : List ℕ) → o ≡ Drawn text → IsDrawn o P → P text
drawn_as o P text e is = subst (λ (x : Outcome (List ℕ)). IsDrawn x P) e is

module _ (name : List ℕ) (files : Files) (opened : Opened) (given : drawn_by the_reading files name ≡ Ok opened) (meaning : Meaning)
    (opens : meant opened ≡ meaning) where
  -- what a print of the engine appends is the picture
  pub printed_text : (r : Result (Unit {0}) RunStop) (old now : Option (List ℕ)) → OnOk r (IsDrawn (chart_in meaning) (Appended old now))
      → IsDrawn (chart_in meaning) (AppendedPrefix old now)
      → IsTexted (Render name) files [] r old now
  printed_text r old now whole begun =
      let (text, drawn, wanted) = drawn_picture files name opened given in
      let chart : chart_in meaning ≡ Drawn text = ap chart_in (sym opens) ∙ drawn in
      record {
        text = text;
        wanted = wanted;
        begun = drawn_as (chart_in meaning) (AppendedPrefix old now) text chart begun;
        whole = on_ok r text chart whole;
      }
    where
      on_ok : (r : Result (Unit {0}) RunStop) (text : List ℕ) → chart_in meaning ≡ Drawn text
          → OnOk r (IsDrawn (chart_in meaning) (Appended old now)) → OnOk r (Appended old now text)
      on_ok (Ok done) text chart whole = drawn_as (chart_in meaning) (Appended old now) text chart whole
      on_ok (Err cause) text chart whole = tt

  module _ (now : Meaning) (bytes taken rest : List ℕ) (split : bytes ≡ taken ++ rest) (old held : Option (List ℕ)) where
    -- what playing appends begins the output of the script, and with Ok it is the output
    pub played_text : (r : Result (Unit {0}) PlayError) → IsPlayed IsReplyIn bytes taken meaning now (output_alone old) (output_alone held) r
        → IsTexted (Play name) files bytes (handed r) old held
    played_text (Ok done) (whole, few, h) =
        let is = as_vega meaning now 1 (lines_of bytes) h.out h.notes h.is in
        let at : Meaning → Type 0 = λ m. IsVegaOutput m.spec m.state bytes h.out h.notes now.state in
        record {
          text = h.out;
          wanted = (opened, given, (h.notes, now.state, subst at (sym opens) is.1));
          begun = appended_is_prefix old held h.out h.appended;
          whole = h.appended;
        }
    played_text (Err error) played =
        let (text, (notes, later, is)) = drawn_output files name opened bytes given in
        let own : Meaning → Type 0 = λ m. IsVegaOutput m.spec m.state bytes text notes later in
        let vega = subst own opens is in
        record {
          text = text;
          wanted = (opened, given, (notes, later, is));
          begun = played_begins meaning now bytes text notes later (output_alone old) (output_alone held) vega {X = Unit {0}} taken rest
              (Err error) split played;
          whole = tt;
        }

-- what was told is told still, so nothing was appended
kept_itself : (old : Option (List ℕ)) → Kept old old
kept_itself None = tt
kept_itself (Some held) = refl

-- where opening a file stops a run, nothing was appended, which begins the text that is wanted
module _ (name : List ℕ) (cause : RunStop) where
  pub unopened_picture : (told : Option Files) (old : Option (List ℕ))
      → IfSome told (λ files. IsAccepted the_reading (Render name) files → IsTexted (Render name) files [] (Err cause) old old)
  unopened_picture None old = tt
  unopened_picture (Some files) old = λ accepted.
      let (text, wanted) = wanted_picture name files accepted in
      record { text = text; wanted = wanted; begun = kept_is_prefix old old text (kept_itself old); whole = tt }

  pub unopened_text : (told : Option Files) (old : Option (List ℕ))
      → IfSome told (λ files. IsAccepted the_reading (Compile name) files → IsTexted (Compile name) files [] (Err cause) old old)
  unopened_text None old = tt
  unopened_text (Some files) old = λ accepted.
      let (text, wanted) = wanted_text name files accepted in
      record { text = text; wanted = wanted; begun = kept_is_prefix old old text (kept_itself old); whole = tt }

  pub unopened_output : (told : Option Files) (script old : Option (List ℕ))
      → IfSome told (λ files. IfSome script (λ bytes. IsAccepted the_reading (Play name) files → IsTexted (Play name) files bytes (Err cause) old old))
  unopened_output None script old = tt
  unopened_output (Some files) None old = tt
  unopened_output (Some files) (Some bytes) old = λ accepted.
      let (text, wanted) = wanted_output name files bytes accepted in
      record { text = text; wanted = wanted; begun = kept_is_prefix old old text (kept_itself old); whole = tt }

-- what is opened of files that are told is what an engine means
abbrev pub Opens : Option Files → List ℕ → Meaning → Type 0
Opens told name meaning = IfSome told (λ files. meant_of (drawn_by the_reading files name) ≡ Ok meaning)

-- they are accepted then
pub render_accepted : (told : Option Files) (name : List ℕ) (meaning : Meaning) → Opens told name meaning → IfSome told (IsAccepted the_reading (Render name))
render_accepted None name meaning opens = tt
render_accepted (Some files) name meaning opens = let (opened, given, is) = opened_is (drawn_by the_reading files name) meaning opens in (opened, given)

pub play_accepted : (told : Option Files) (name : List ℕ) (meaning : Meaning) → Opens told name meaning → IfSome told (IsAccepted the_reading (Play name))
play_accepted None name meaning opens = tt
play_accepted (Some files) name meaning opens = let (opened, given, is) = opened_is (drawn_by the_reading files name) meaning opens in (opened, given)

pub opened_picture : (told : Option Files) (name : List ℕ) (meaning : Meaning) (r : Result (Unit {0}) RunStop) (old now : Option (List ℕ))
    → Opens told name meaning
    → OnOk r (IsDrawn (chart_in meaning) (Appended old now)) → IsDrawn (chart_in meaning) (AppendedPrefix old now)
    → IfSome told (λ files. IsAccepted the_reading (Render name) files → IsTexted (Render name) files [] r old now)
opened_picture None name meaning r old now opens whole begun = tt
opened_picture (Some files) name meaning r old now opens whole begun =
    let (opened, given, is) = opened_is (drawn_by the_reading files name) meaning opens in
    λ accepted. printed_text name files opened given meaning is r old now whole begun

pub opened_output : (told : Option Files) (name : List ℕ) (script left : Option (List ℕ)) (taken : List ℕ) (old held : Option (List ℕ))
    (meaning now : Meaning) (r : Result (Unit {0}) PlayError)
    → Opens told name meaning → HasTaken script left taken
    → IfSome script (λ bytes. IsPlayed IsReplyIn bytes taken meaning now (output_alone old) (output_alone held) r)
    → IfSome told (λ files. IfSome script (λ bytes. IsAccepted the_reading (Play name) files → IsTexted (Play name) files bytes (handed r) old held))
opened_output None name script left taken old held meaning now r opens split played = tt
opened_output (Some files) name None left taken old held meaning now r opens split played = tt
opened_output (Some files) name (Some bytes) None taken old held meaning now r opens split played = absurd split
opened_output (Some files) name (Some bytes) (Some rest) taken old held meaning now r opens split played =
    let (opened, given, is) = opened_is (drawn_by the_reading files name) meaning opens in
    λ accepted. played_text name files opened given meaning is now bytes taken rest split old held r played

-- what a compiled text appends, where the files are told
pub compiled_text : (told : Option Files) (name : List ℕ) (opened : Opened) (r : Result (Unit {0}) RunStop) (old now : Option (List ℕ))
    → IfSome told (λ files. compiled_by the_reading files name ≡ Ok opened)
    → OnOk r (Appended old now (vega_text opened)) → AppendedPrefix old now (vega_text opened)
    → IfSome told (λ files. IsAccepted the_reading (Compile name) files → IsTexted (Compile name) files [] r old now)
compiled_text None name opened r old now given whole begun = tt
compiled_text (Some files) name opened r old now given whole begun =
    λ accepted. record { text = vega_text opened; wanted = (opened, given, refl); begun = begun; whole = whole }

pub compile_accepted : (told : Option Files) (name : List ℕ) (opened : Opened) → IfSome told (λ files. compiled_by the_reading files name ≡ Ok opened)
    → IfSome told (IsAccepted the_reading (Compile name))
compile_accepted None name opened given = tt
compile_accepted (Some files) name opened given = (opened, given)

-- after Ok the script was read to its end
pub read_whole : (script left : Option (List ℕ)) (taken : List ℕ) (old held : Option (List ℕ)) (meaning now : Meaning)
    (r : Result (Unit {0}) PlayError) (done : Unit {0}) → r ≡ Ok done → HasTaken script left taken
    → IfSome script (λ bytes. IsPlayed IsReplyIn bytes taken meaning now (output_alone old) (output_alone held) r) → IsReadWhole script left
read_whole script left taken old held meaning now (Err cause) done is split played = absurd cc
read_whole None left taken old held meaning now (Ok x) done is split played = tt
read_whole (Some bytes) None taken old held meaning now (Ok x) done is split played = absurd split
read_whole (Some bytes) (Some rest) taken old held meaning now (Ok x) done is split (whole, few, h) =
    let len : length bytes ≡ length taken + length rest = ap length split ∙ length-append taken rest in
    let same = ap length whole in
    let none : rest ≡ [] = nothing rest (omega arith) in
    (omega arith, ap Some none)
  where
    nothing : (xs : List ℕ) → length xs ≡ 0 → xs ≡ []
    nothing [] e = refl
    nothing (x ∷ xs) e = absurd (omega arith)
