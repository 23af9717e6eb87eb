-- Needs as a graph.
use Rattle.std.specs.Prelude.{ℕ, ◌==◌, if◌then◌else◌, Option, Some, None, List, filter_map, flat_map, map}
use Rattle.std.specs.List.{enumerate_from}
use Rattle.vega_parts.specs.declared.part.Part.{Part}
use Rattle.vega_rules.specs.Nodes.{node_at}
use Rattle.vega_rules.specs.Edges.{needs_by}

-- the needs that all parts show
abbrev pub all_needs : List Part → List (ℕ × ℕ)
all_needs parts = flat_map (needs_by (node_at parts) parts) parts

-- what is needed, where it is the part of this number that needs it
abbrev pub end_from : ℕ → ℕ × ℕ → Option ℕ
end_from number edge = if edge.0 == number then Some edge.1 else None

-- what a part needs
abbrev pub ends_from : List (ℕ × ℕ) → ℕ → List ℕ
ends_from edges number = filter_map (end_from number) edges

-- for each part, what it needs
abbrev pub graph : List Part → List (List ℕ)
graph parts = map (λ (row : ℕ × Part). ends_from (all_needs parts) row.0) (enumerate_from 0 parts)
