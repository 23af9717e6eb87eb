use Rattle.param_flow.specs.Script.{lines_of}
use Rattle.vega_meaning.specs.Semantics.{vega_semantics}
use Rattle.play_script.proofs.Output.{has_output}
use Rattle.play_script.proofs.laws.an_output.Goals as goal

pub returns : goal.returns
returns c = λ g st picture script drawn. let o = has_output (vega_semantics g) st 1 (lines_of script) (picture, drawn) in
    (o.reply, o.note, o.now, o.is, o.drawn)
