-- Rows whose ids count from 1.
use Rattle.std.specs.Prelude.{◌≡◌, ℕ, ◌+◌, ◌≤◌, ◌<◌, ◌^◌, List, length, get_or, All}
use Rattle.cell_value.specs.declared.state.Key.{Key}
use Rattle.cell_value.specs.declared.state.Keyed.{Keyed}
use Rattle.cell_value.specs.declared.state.Named.{Named}
use Rattle.plain_rows.specs.Rows.{keys_of}

-- the key of each row has the number of its place as id, from 1 on, and there are not too many
pub record AreCounted (rows : List Keyed) : Type 0 where
  pub few : length rows ≤ 2 ^ 16
  pub keys : (i : ℕ) (d : Key) → i < length rows → get_or (keys_of rows) i d ≡ record { id = i + 1; branch = 0 }

-- so are the rows of each source
abbrev pub AreAllCounted : List Named → Type 0
AreAllCounted sources = All (λ (source : Named). AreCounted source.rows) sources
