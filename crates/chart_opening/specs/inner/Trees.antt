-- Trees of files.
use Rattle.std.specs.Prelude.{ℕ, List, ◌≤◌, length}
use Rattle.json_exact.specs.declared.json.Json.{Json}
use Rattle.json_exact.specs.Reading.{Reads}
use Rattle.chart_opening.specs.Files.{most_bytes}

-- a tree that some bytes spell, which a file may have
pub record IsFileTree (tree : Json) : Type 0 where
  pub bytes : List ℕ
  pub reads : Reads bytes tree
  pub few : length bytes ≤ most_bytes
