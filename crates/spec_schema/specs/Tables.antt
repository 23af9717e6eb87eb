-- The rows of tables of members.
use Rattle.std.specs.Prelude.{ℕ, List, true, false}
use Rattle.spec_schema.specs.declared.layout.Rule.{Rule}

-- a member that has to be there
abbrev pub must : List ℕ → ℕ → Rule
must name shape = record { name = name; shape = shape; required = true }

-- a member that may be there
abbrev pub may : List ℕ → ℕ → Rule
may name shape = record { name = name; shape = shape; required = false }
