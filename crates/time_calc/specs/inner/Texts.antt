-- Names as the code looks them up. No public clause cites this.
use Rattle.std.specs.Prelude.{ℕ, List, Option}
use Rattle.case_table.specs.Names.{index_of}

-- the place of a name among names
unfoldable pub place_among : List (List ℕ) → List ℕ → Option ℕ
place_among names name = index_of names name
