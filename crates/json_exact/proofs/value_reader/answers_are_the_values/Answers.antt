use Rattle.json_exact.proofs.Answered.{answers_right}
use Rattle.json_exact.proofs.value_reader.answers_are_the_values.Goals as goal

pub returns : goal.returns
returns c = answers_right
