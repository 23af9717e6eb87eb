use Rattle.std.proofs.Common.{refl}
use Rattle.view_layout.specs.Layout.{cell_of, standing_in}
use Rattle.view_layout.proofs.layout.law_of_titles.Goals as goal

pub returns : goal.returns
returns c t = record { width = refl; height = refl; standing = standing_in (cell_of t); places = refl; plots = refl }
