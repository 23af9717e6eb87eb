-- Values under keys, as rows have them.
use Rattle.std.specs.Prelude.{ℕ, List}
use Rattle.cell_value.specs.declared.state.Keyed.{Keyed}
use Rattle.cell_value.specs.Datum.{cell_at}
use Rattle.domain_kit.specs.declared.keyed.Entry.{Entry}
use Rattle.domain_kit.specs.Orders.{entry}

-- the cell of a row under one name, as a key, and that under another, as its value
abbrev pub entry_at : List ℕ → List ℕ → Keyed → Entry
entry_at key value row = entry (cell_at row key) (cell_at row value)
