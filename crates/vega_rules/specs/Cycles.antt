-- Signals that need themselves.
use Rattle.std.specs.Prelude.{ℕ, ◌&&◌, Bool, true, false, if◌then◌else◌, Option, Some, None, List, filter_map, find, slice_get}
use Rattle.std.specs.Option.{option_map_or, option_and_then, option_map}
use Rattle.std.specs.List.{enumerate_from}
use Rattle.spec_schema.specs.declared.spec_error.SpecKind.TheVariants.{Wrong}
use Rattle.vega_parts.specs.declared.part.Part.{Part}
use Rattle.vega_parts.specs.declared.part.Part.TheVariants as part
use Rattle.vega_parts.specs.declared.part.GivenName.{GivenName}
use Rattle.vega_parts.specs.declared.part.UsedName.{UsedName}
use Rattle.vega_parts.specs.declared.part.Used.{Used}
use Rattle.vega_parts.specs.declared.part.Used.TheVariants as used
use Rattle.need_graph.specs.Needs.{needs_itself}
use Rattle.vega_rules.specs.declared.fault.PlacedFault.{PlacedFault}
use Rattle.vega_rules.specs.Faults.{fault_at}
use Rattle.vega_rules.specs.Places.{is_inside}
use Rattle.vega_rules.specs.Names.{given_by}
use Rattle.vega_rules.specs.Folds.{used_by}
use Rattle.vega_rules.specs.Nodes.{is_signal, node_at}
use Rattle.vega_rules.specs.Edges.{is_extent}
use Rattle.vega_rules.specs.Graph.{graph}

-- a part gives a name to a signal
abbrev pub is_signal_part : Part → Bool
is_signal_part (part.Given name) = is_signal name.kind
is_signal_part other = false

-- the numbers of these parts
abbrev pub signal_number : ℕ × Part → Option ℕ
signal_number row = if is_signal_part row.1 then Some row.0 else None

abbrev pub signals : List Part → List ℕ
signals parts = filter_map signal_number (enumerate_from 0 parts)

-- a name is used for a signal
abbrev pub is_for_signal : Used → Bool
is_for_signal used.Source = false
is_for_signal used.From = false
is_for_signal used.MarkRows = false
is_for_signal used.FacetRows = false
is_for_signal used.Domain = false
is_for_signal used.Signal = true
is_for_signal used.Store = false
is_for_signal used.Scale = false
is_for_signal used.SizedScale = false
is_for_signal used.MarkBelow = false

-- a signal is read inside a place
abbrev pub is_read_in : List ℕ → UsedName → Bool
is_read_in place u = is_for_signal u.kind && is_inside place u.at

-- where a signal reads signals: at its update
abbrev pub update_of : List Part → GivenName → List ℕ
update_of parts name = option_map_or (λ (u : UsedName). u.at) (find (is_read_in name.of) (filter_map used_by parts)) name.at

-- where the fault of a signal stands: of an extent's at its name, else at the update
abbrev pub fault_place : List Part → GivenName → List ℕ
fault_place parts name = if is_extent (node_at parts) name then name.at else update_of parts name

-- the name that the part of a number gives
abbrev pub name_at : List Part → ℕ → Option GivenName
name_at parts number = option_and_then given_by (slice_get parts number)

-- its fault
abbrev pub fault_of : List Part → ℕ → Option PlacedFault
fault_of parts number = option_map (λ (name : GivenName). fault_at Wrong (fault_place parts name)) (name_at parts number)

-- the fault of the first signal that needs itself, by itself or through others
abbrev pub first_cycle : List Part → Option PlacedFault
first_cycle parts = option_and_then (fault_of parts) (find (needs_itself (graph parts)) (signals parts))
