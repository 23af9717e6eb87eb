-- How deep the tree of bars is.
use Rattle.std.proofs.Common.{◌≡◌, ℕ, ℤ, ◌≤◌, List, [], ◌∷◌, map, refl, arith}
use Rattle.json_exact.specs.declared.json.Json.{Json}
use Rattle.json_exact.specs.declared.json.Json.TheBlock.{hidden-the_row-Json-0, hidden-the_row-Member-1}
use Rattle.json_exact.specs.Reading.{depth}
use Rattle.json_exact.proofs.Depth.{deepest, depth-List}
use Rattle.compiled_bars.specs.Rows.{row_object, values_over}
use Rattle.compiled_bars.proofs.Tree.{tree}

-- three more than its values at most, and all else is less deep than 128
pub tree_low : (name x y expression : List ℕ) (values : Json) → depth values ≤ 125 → depth (tree name x y values expression) ≤ 128
unfolding hidden-the_row-Json-0 hidden-the_row-Member-1 denote.Hole.Carrier.hidden
tree_low name x y expression values low = omega arith

row_low : (x y : List ℕ) (row : List ℕ × ℤ) → depth (row_object x y row) ≡ 1
unfolding hidden-the_row-Json-0 hidden-the_row-Member-1 denote.Hole.Carrier.hidden
row_low x y row = refl

rows_low : (x y : List ℕ) (rows : List (List ℕ × ℤ)) → deepest (map (row_object x y) rows) ≤ 1
rows_low x y [] = omega arith
rows_low x y (row ∷ rows) = omega (arith, row_low x y row, rows_low x y rows)

-- the values stand two deep
pub values_low : (x y : List ℕ) (rows : List (List ℕ × ℤ)) → depth (values_over x y rows) ≤ 125
values_low x y rows = omega (arith, depth-List (map (row_object x y) rows), rows_low x y rows)
