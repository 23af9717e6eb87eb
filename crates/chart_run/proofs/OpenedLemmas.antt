-- What is opened and drawn, taken apart.
use Rattle.std.proofs.Common.{◌≡◌, ℕ, List, Result, Ok, Err, refl, sym, ap, ◌∙◌}
use Rattle.fixed_num.proofs.Steps.{bind_ok}
use Rattle.chart_io.specs.Outside.{Files}
use Rattle.cell_value.specs.State.{state_of}
use Rattle.scene_tree.specs.Outcome.{Outcome, Drawn, Overflow, Panels}
use Rattle.vega_meaning.specs.Charts.{vega_chart_of}
use Rattle.play_script.specs.Meaning.{Meaning}
use Rattle.chart_opening.specs.declared.opened.Opened.{Opened}
use Rattle.chart_opening.specs.declared.refusal.Refusal.{Refusal}
use Rattle.chart_opening.specs.Charts.{if_chart, drawn_of, drawn_by}
use Rattle.chart_opening.specs.Specs.{opened_by}
use Rattle.chart_opening.specs.Texts.{Reading}
use Rattle.chart_run.specs.inner.Stops.{meant, meant_of}

-- an answer that is given is one that was opened
pub opened_is : (given : Result Opened Refusal) (m : Meaning) → meant_of given ≡ Ok m → (opened : Opened) × (given ≡ Ok opened) × (meant opened ≡ m)
opened_is (Ok opened) m e = (opened, refl, one e)
  where
    one : meant_of (Ok opened) ≡ Ok m → meant opened ≡ m
    one e = cc
opened_is (Err why) m e = absurd cc

-- a refusal that is given
pub refused_is : (given : Result Opened Refusal) (why : Refusal) → meant_of given ≡ Err why → given ≡ Err why
refused_is (Ok opened) why e = absurd cc
refused_is (Err other) why e = one e
  where
    one : meant_of (Err other) ≡ Err why → ◌≡◌ {A = Result Opened Refusal} (Err other) (Err why)
    one e = cc

-- what is drawn has a chart, and is what was opened
if_chart_is : (o : Opened) (outcome : Outcome (List ℕ)) (opened : Opened) → if_chart o outcome ≡ Ok opened
    → (o ≡ opened) × ((text : List ℕ) × (outcome ≡ Drawn text))
if_chart_is o (Drawn text) opened e = (same e, (text, refl))
  where
    same : if_chart o (Drawn text) ≡ Ok opened → o ≡ opened
    same e = cc
if_chart_is o Overflow opened e = absurd cc
if_chart_is o (Panels n) opened e = absurd cc

-- what is drawn of a file was opened of it, and has a chart
pub drawn_is : (reading : Reading) (files : Files) (name : List ℕ) (opened : Opened) → drawn_by reading files name ≡ Ok opened
    → (opened_by reading files name ≡ Ok opened) × ((text : List ℕ) × (vega_chart_of opened.spec (state_of opened.state) ≡ Drawn text))
drawn_is reading files name opened e =
    let (o, is, after) = bind_ok (opened_by reading files name) drawn_of opened e in
    let (same, (text, drawn)) = if_chart_is o (vega_chart_of o.spec (state_of o.state)) opened after in
    (is ∙ ap Ok same, (text, ap (λ (x : Opened). vega_chart_of x.spec (state_of x.state)) (sym same) ∙ drawn))
