-- Fields of which nothing is parsed.
use Rattle.std.proofs.Common.{◌≡◌, refl, ℕ, List, [], ◌∷◌, ap}
use Rattle.cell_value.specs.declared.cell.Cell.{Cell}
use Rattle.data_rows.specs.JsonRows.{parsed_fields}

-- without a kind of any field all stay
pub nothing_is_parsed : (fields : List (List ℕ × Cell)) → parsed_fields [] fields ≡ fields
nothing_is_parsed [] = refl
nothing_is_parsed ((name, c) ∷ fields) = ap (λ rest. (name, c) ∷ rest) (nothing_is_parsed fields)
