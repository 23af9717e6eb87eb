-- The rule at work, over small lists of parts.
use Rattle.std.specs.Prelude.{◌≡◌, ℕ, List, [], ◌∷◌, Some, None, refl}
use Rattle.spec_schema.specs.declared.spec_error.SpecKind.TheVariants.{Wrong}
use Rattle.vega_parts.specs.declared.part.Part.{Part}
use Rattle.vega_parts.specs.declared.part.Part.TheVariants as part
use Rattle.vega_parts.specs.declared.part.Given.{Given}
use Rattle.vega_parts.specs.declared.part.Given.TheVariants as given
use Rattle.vega_parts.specs.declared.part.Used.{Used}
use Rattle.vega_parts.specs.declared.part.Used.TheVariants as used
use Rattle.need_graph.specs.Needs.{needs_itself, needs_through}
use Rattle.vega_rules.specs.Faults.{fault_at}
use Rattle.vega_rules.specs.Graph.{graph}
use Rattle.vega_rules.specs.Cycles.{first_cycle}

-- a name that is given at the top
abbrev gives : Given → List ℕ → List ℕ → List ℕ → Part
gives kind of at name = part.Given (record { kind = kind; scope = []; of = of; at = at; name = name; scale = None })

-- a name that is used there
abbrev uses : Used → List ℕ → List ℕ → Part
uses kind at name = part.Used (record { kind = kind; scope = []; at = at; name = name })

-- a second signal needs a third one, and that needs it; a first one needs the second one
abbrev signals_in_a_ring : List Part
signals_in_a_ring =
    gives given.Signal (0 ∷ 0 ∷ []) (0 ∷ 0 ∷ 0 ∷ []) (97 ∷ []) ∷ uses used.Signal (0 ∷ 0 ∷ 1 ∷ []) (98 ∷ [])
    ∷ gives given.Signal (0 ∷ 1 ∷ []) (0 ∷ 1 ∷ 0 ∷ []) (98 ∷ []) ∷ uses used.Signal (0 ∷ 1 ∷ 1 ∷ []) (99 ∷ [])
    ∷ gives given.Signal (0 ∷ 2 ∷ []) (0 ∷ 2 ∷ 0 ∷ []) (99 ∷ []) ∷ uses used.Signal (0 ∷ 2 ∷ 1 ∷ []) (98 ∷ [])
    ∷ []

who_reads_whom : graph signals_in_a_ring ≡ (2 ∷ []) ∷ [] ∷ (4 ∷ []) ∷ [] ∷ (2 ∷ []) ∷ [] ∷ []
who_reads_whom = refl

the_second_is_named : first_cycle signals_in_a_ring ≡ Some (fault_at Wrong (0 ∷ 1 ∷ 1 ∷ []))
unfolding needs_itself needs_through
the_second_is_named = refl

-- a data set with an extent and a filter that reads the extent's signal: the filter at one place, the extent at the other
abbrev filter_and_extent : ℕ → ℕ → List Part
filter_and_extent filter extent =
    part.Data (0 ∷ 0 ∷ []) ∷ part.Step (0 ∷ 0 ∷ 1 ∷ filter ∷ []) (0 ∷ 0 ∷ []) ∷ uses used.Signal (0 ∷ 0 ∷ 1 ∷ filter ∷ 1 ∷ []) (101 ∷ [])
    ∷ part.Step (0 ∷ 0 ∷ 1 ∷ extent ∷ []) (0 ∷ 0 ∷ [])
    ∷ gives given.Signal (0 ∷ 0 ∷ 1 ∷ extent ∷ []) (0 ∷ 0 ∷ 1 ∷ extent ∷ 2 ∷ []) (101 ∷ [])
    ∷ []

a_filter_before : first_cycle (filter_and_extent 0 1) ≡ Some (fault_at Wrong (0 ∷ 0 ∷ 1 ∷ 1 ∷ 2 ∷ []))
unfolding needs_itself needs_through
a_filter_before = refl

a_filter_after : first_cycle (filter_and_extent 1 0) ≡ None
unfolding needs_itself needs_through
a_filter_after = refl

-- a data set with a filter that reads the signal, before more parts
abbrev a_filter : List Part → List Part
a_filter others =
    part.Data (0 ∷ 0 ∷ []) ∷ gives given.Data (0 ∷ 0 ∷ []) (0 ∷ 0 ∷ 0 ∷ []) (117 ∷ []) ∷ part.Step (0 ∷ 0 ∷ 1 ∷ 0 ∷ []) (0 ∷ 0 ∷ [])
    ∷ uses used.Signal (0 ∷ 0 ∷ 1 ∷ 0 ∷ 1 ∷ []) (101 ∷ []) ∷ others

-- an extent in another data set
abbrev an_extent : ℕ → List Part
an_extent extent =
    part.Step (0 ∷ 1 ∷ 1 ∷ extent ∷ []) (0 ∷ 1 ∷ [])
    ∷ gives given.Signal (0 ∷ 1 ∷ 1 ∷ extent ∷ []) (0 ∷ 1 ∷ 1 ∷ extent ∷ 2 ∷ []) (101 ∷ []) ∷ []

-- this takes its rows from the first one
abbrev from_a_source : List Part
from_a_source = a_filter (part.Data (0 ∷ 1 ∷ []) ∷ uses used.Source (0 ∷ 1 ∷ 0 ∷ []) (117 ∷ []) ∷ an_extent 0)

a_source_before : first_cycle from_a_source ≡ Some (fault_at Wrong (0 ∷ 1 ∷ 1 ∷ 0 ∷ 2 ∷ []))
unfolding needs_itself needs_through
a_source_before = refl

-- or by a lookup, before the extent or after it
abbrev from_a_lookup : ℕ → ℕ → List Part
from_a_lookup lookup extent =
    a_filter (part.Data (0 ∷ 1 ∷ []) ∷ part.Step (0 ∷ 1 ∷ 1 ∷ lookup ∷ []) (0 ∷ 1 ∷ [])
    ∷ uses used.From (0 ∷ 1 ∷ 1 ∷ lookup ∷ 1 ∷ []) (117 ∷ []) ∷ an_extent extent)

a_lookup_before : first_cycle (from_a_lookup 0 1) ≡ Some (fault_at Wrong (0 ∷ 1 ∷ 1 ∷ 1 ∷ 2 ∷ []))
unfolding needs_itself needs_through
a_lookup_before = refl

a_lookup_after : first_cycle (from_a_lookup 1 0) ≡ None
unfolding needs_itself needs_through
a_lookup_after = refl
