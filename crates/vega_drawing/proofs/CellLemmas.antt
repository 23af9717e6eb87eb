-- The cells of the facets round a copy, and its own.
use Rattle.std.proofs.Common.{◌≡◌, ℕ, List, [], ◌++◌, Option, Some, None, refl, ap}
use Rattle.std.specs.Prelude.{unwrap_or}
use Rattle.std.proofs.lemmas.List.{append-nil}
use Rattle.cell_value.specs.declared.cell.Cell.{Cell}
use Rattle.vega_drawing.specs.Frames.{more_cells}

pub behind_outer : (outer : List (List ℕ × Cell)) (own : Option (List (List ℕ × Cell))) → Some (outer ++ unwrap_or own []) ≡ more_cells (Some outer) own
behind_outer outer None = ap Some (append-nil outer)
behind_outer outer (Some own) = refl

pub behind_none : (own : Option (List (List ℕ × Cell))) → own ≡ more_cells None own
behind_none None = refl
behind_none (Some own) = refl
