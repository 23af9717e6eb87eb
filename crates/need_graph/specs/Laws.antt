-- What holds of needs, whatever the graph.
use Rattle.std.specs.Prelude.{ℕ, List, IsTrue, ◌↔◌}
use Rattle.need_graph.specs.Needs.{Needs, needs_itself}

-- the test says which nodes need themselves
abbrev pub NeedsItselfSaysWhere : Type 0
NeedsItselfSaysWhere = (needs : List (List ℕ)) (v : ℕ) → IsTrue (needs_itself needs v) ↔ Needs needs v v
