use Rattle.chart_opening.specs.inner.Reading.{the_reading}
use Rattle.chart_opening.proofs.JsonLemmas.{right}
use Rattle.chart_opening.proofs.laws.json_is_read.Goals as goal

pub returns : goal.returns
returns c = (the_reading, right)
