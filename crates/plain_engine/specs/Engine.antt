-- What a plain engine means, and what opening one answers.
use Rattle.std.specs.Prelude.{Result}
use Rattle.std.specs.Result.{result_map_both}
use Rattle.cell_value.specs.State.{state_of}
use Rattle.scene_tree.specs.Outcome.{outcome_map}
use Rattle.vega_meaning.specs.declared.open.OpenError.{OpenError}
use Rattle.vega_meaning.specs.Answers.{Draws}
use Rattle.play_script.specs.Meaning.{Meaning, chart_in}
use Rattle.plain_engine.specs.declared.engine.PlainEngine.{PlainEngine}

-- its specification, and its state as it is read
abbrev pub meaning_of : PlainEngine → Meaning
meaning_of engine = record { spec = engine.spec; state = state_of engine.state }

-- an engine of this meaning was opened where its chart is drawn; else the answer is what the chart is, unless memory was refused
abbrev pub Opens : Meaning → Result PlainEngine OpenError → Type 0
Opens meaning result = Draws (outcome_map (λ text. meaning) (chart_in meaning)) (result_map_both meaning_of (λ error. error) result)
