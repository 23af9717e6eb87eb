-- The reading of JSON that the program has. No public clause cites this.
use Rattle.std.specs.Prelude.{◌-◌, ℕ, length, Result, Ok, Err}
use Rattle.json_exact.specs.declared.json.Json.{Json}
use Rattle.json_exact.specs.inner.Reader.{text_at}
use Rattle.chart_opening.specs.Texts.{Reading}

-- a fault is told by how many bytes are left at it
abbrev pub read_as : ℕ → Result Json ℕ → Result Json ℕ
read_as count (Ok tree) = Ok tree
read_as count (Err left) = Err (count - left)

abbrev pub the_reading : Reading
the_reading bytes = read_as (length bytes) (text_at bytes)
