use Rattle.std.proofs.Common.{◌≡◌, take}
use Rattle.chart_opening.specs.Sources.{kinds_in}
use Rattle.chart_opening.proofs.rows.kinds_in.Given as goal

abbrev pub invariant-loop-field : goal.invariant-loop-field
invariant-loop-field l = l.kinds ≡ kinds_in (take l.field-index l.parse)
