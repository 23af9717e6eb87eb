use Rattle.std.proofs.Common.{ap, ◌∙◌}
use Rattle.std.specs.Ordering.{nat_cmp}
use Rattle.std.specs.Cmp.Lexicographic.{slice_cmp}
use Rattle.std.specs.FinMap.{from_sorted}
use Rattle.cell_value.proofs.Place.{none_seen}
use Rattle.cell_value.proofs.row.Row.new.Goals as goal

pub returns : goal.returns
returns c = c.in_ok-row.ensures.row ∙ ap from_sorted c.new.ensures.items ∙ none_seen (slice_cmp nat_cmp)
