-- What holds by the program's reading of JSON holds by every right one.
use Rattle.std.proofs.Common.{subst}
use Rattle.chart_opening.specs.Texts.{Reading, ReadsJson}
use Rattle.chart_opening.specs.inner.Reading.{the_reading}
use Rattle.chart_opening.proofs.JsonLemmas.{right, agree}

pub at_every : (P : Reading → Type 0) → P the_reading → (reading : Reading) → ReadsJson reading → P reading
at_every P holds reading is = subst P (agree the_reading reading right is) holds
