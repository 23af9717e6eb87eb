-- What an engine that is opened means, of what files give.
use Rattle.std.proofs.Common.{◌≡◌, ℕ, Option, Some, None, List, Result, Ok, Err, IfSome, refl, sym, ap, subst, ◌∙◌}
use Rattle.fixed_num.specs.Steps.{◌>>=◌}
use Rattle.chart_io.specs.Outside.{Files}
use Rattle.scene_tree.specs.Outcome.{Outcome, Drawn, Overflow, Panels, outcome_map}
use Rattle.vega_meaning.specs.declared.open.OpenError.{OpenError}
use Rattle.vega_meaning.specs.Answers.{Draws}
use Rattle.play_script.specs.Meaning.{Meaning}
use Rattle.plain_engine.specs.declared.engine.PlainEngine.{PlainEngine}
use Rattle.plain_engine.specs.Engine.{meaning_of}
use Rattle.chart_opening.specs.declared.opened.Opened.{Opened}
use Rattle.chart_opening.specs.declared.refusal.Refusal.{Refusal}
use Rattle.chart_opening.specs.declared.refusal.Refusal.TheVariants as refusal
use Rattle.chart_opening.specs.declared.refusal.OpenStop.{OpenStop}
use Rattle.chart_opening.specs.declared.refusal.OpenStop.TheVariants as opening
use Rattle.chart_opening.specs.Answers.{Opens}
use Rattle.chart_opening.specs.Charts.{if_chart, drawn_of, drawn_by}
use Rattle.chart_opening.specs.Compiled.{compiled_by}
use Rattle.chart_opening.specs.Specs.{opened_by}
use Rattle.chart_opening.specs.Texts.{Reading, ReadsJson}
use Rattle.chart_opening.specs.inner.Reading.{the_reading}
use Rattle.chart_opening.proofs.JsonLemmas.{right}
use Rattle.chart_run.specs.declared.stop.RunStop.{RunStop}
use Rattle.chart_run.specs.declared.stop.RunStop.TheVariants as stop
use Rattle.chart_run.proofs.OpenedLemmas.{refused_is}
use Rattle.chart_run.specs.inner.Stops.{Meets, meant, meant_of, stop_at}

-- an engine was opened: its meaning is that of what is opened
module _ (opened : Opened) where
  pub engine_opened : (outcome : Outcome (List ℕ)) (m : Meaning) → outcome_map (λ text. meant opened) outcome ≡ Drawn m
      → meant_of (if_chart opened outcome) ≡ Ok m
  engine_opened (Drawn text) m e = one e
    where
      one : outcome_map (λ text. meant opened) (Drawn text) ≡ Drawn m → meant_of (if_chart opened (Drawn text)) ≡ Ok m
      one e = let same : meant opened ≡ m = cc in ap Ok same
  engine_opened Overflow m e = absurd cc
  engine_opened (Panels n) m e = absurd cc

  pub engine_overflows : (outcome : Outcome (List ℕ)) → outcome_map (λ text. meant opened) outcome ≡ Overflow
      → meant_of (if_chart opened outcome) ≡ Err refusal.Overflow
  engine_overflows (Drawn text) e = absurd cc
  engine_overflows Overflow e = refl
  engine_overflows (Panels n) e = absurd cc

  pub engine_panels : (outcome : Outcome (List ℕ)) (count : ℕ) → outcome_map (λ text. meant opened) outcome ≡ Panels count
      → meant_of (if_chart opened outcome) ≡ Err (refusal.Panels count)
  engine_panels (Drawn text) count e = absurd cc
  engine_panels Overflow count e = absurd cc
  engine_panels (Panels n) count e = let same : n ≡ count = cc in ap (λ (k : ℕ). Err (refusal.Panels k)) same

  -- the same error
  pub engine_stopped : (outcome : Outcome (List ℕ)) (e other : OpenError) → e ≡ other
      → Draws {X = Meaning} (outcome_map (λ text. meant opened) outcome) (Err e) → Draws {X = Meaning} (outcome_map (λ text. meant opened) outcome) (Err other)
  engine_stopped outcome e other same draws =
      let at : OpenError → Type 0 = λ x. Draws {X = Meaning} (outcome_map (λ text. meant opened) outcome) (Err x) in
      subst at same draws

module _ (name : List ℕ) where
  -- what is drawn of what was opened is what is drawn of the file
  pub drawn_told : (told : Option Files) (opened : Opened) (r : Result PlainEngine RunStop)
      → IfSome told (λ files. (reading : Reading) → ReadsJson reading → Opens (Ok opened) (opened_by reading files name))
      → Meets meaning_of r (meant_of (drawn_of opened))
      → IfSome told (λ files. Meets meaning_of r (meant_of (drawn_by the_reading files name)))
  drawn_told None opened r given meets = tt
  drawn_told (Some files) opened r given meets =
      let at : Result Opened Refusal → Type 0 = λ o. Meets meaning_of r (meant_of (o >>= drawn_of)) in
      subst at (sym (given the_reading right)) meets

  -- why nothing was opened is why nothing is drawn
  pub stopped_told : (told : Option Files) (cause : OpenStop)
      → IfSome told (λ files. (reading : Reading) → ReadsJson reading → Opens (Err cause) (opened_by reading files name))
      → IfSome told (λ files. Meets {X = PlainEngine} meaning_of (Err (stop_at cause)) (meant_of (drawn_by the_reading files name)))
  stopped_told None cause given = tt
  stopped_told (Some files) (opening.Refused why) given =
      let at : Result Opened Refusal → Type 0 = λ o. meant_of (o >>= drawn_of) ≡ Err why in
      subst at (sym (given the_reading right)) refl
  stopped_told (Some files) opening.Read given = tt
  stopped_told (Some files) opening.Memory given = tt

  -- what was compiled is what is compiled of the file
  pub compiled_told : (told : Option Files) (opened : Opened)
      → IfSome told (λ files. (reading : Reading) → ReadsJson reading → Opens (Ok opened) (compiled_by reading files name))
      → IfSome told (λ files. compiled_by the_reading files name ≡ Ok opened)
  compiled_told None opened given = tt
  compiled_told (Some files) opened given = given the_reading right

  -- why nothing was compiled
  pub compile_refused : (told : Option Files) (cause : OpenStop) (why : Refusal) → stop_at cause ≡ stop.Refused why
      → IfSome told (λ files. (reading : Reading) → ReadsJson reading → Opens {X = Opened} (Err cause) (compiled_by reading files name))
      → IfSome told (λ files. compiled_by the_reading files name ≡ Err why)
  compile_refused None cause why is given = tt
  compile_refused (Some files) (opening.Refused other) why is given =
      let same : other ≡ why = cc in given the_reading right ∙ ap Err same
  compile_refused (Some files) opening.Read why is given = absurd cc
  compile_refused (Some files) opening.Memory why is given = absurd cc

  -- why nothing is drawn, where a cause refuses the files
  pub draw_refused : (told : Option Files) (cause : RunStop) (why : Refusal) → cause ≡ stop.Refused why
      → IfSome told (λ files. Meets {X = PlainEngine} meaning_of (Err cause) (meant_of (drawn_by the_reading files name)))
      → IfSome told (λ files. drawn_by the_reading files name ≡ Err why)
  draw_refused None cause why is given = tt
  draw_refused (Some files) stop.Words why is given = absurd cc
  draw_refused (Some files) (stop.Refused other) why is given =
      let same : other ≡ why = cc in refused_is (drawn_by the_reading files name) other given ∙ ap Err same
  draw_refused (Some files) stop.Read why is given = absurd cc
  draw_refused (Some files) stop.Write why is given = absurd cc
  draw_refused (Some files) stop.Memory why is given = absurd cc
  draw_refused (Some files) stop.ScriptSize why is given = absurd cc
