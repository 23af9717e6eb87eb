use Rattle.param_flow.specs.Script.{lines_of}
use Rattle.vega_meaning.specs.Semantics.{vega_semantics, IsVegaReply}
use Rattle.play_script.specs.inner.Once.{one_reply}
use Rattle.play_script.proofs.Once.{one_output}
use Rattle.play_script.proofs.laws.one_output.Goals as goal

pub returns : goal.returns
returns c = λ g st now later script out other notes others. one_output (IsVegaReply g) (one_reply (vega_semantics g)) st now later 1
    (lines_of script) out other notes others
