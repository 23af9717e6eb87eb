-- What an event leaves over a Vega chart is what it leaves of the stores of selections, whatever the kind of the specification.
use Rattle.std.specs.Prelude.{◌≡◌, ◌≢◌, ℕ, Bool, List, map, find, AllPairs}
use Rattle.std.specs.Str.{bytes_eq}
use Rattle.fixed_num.specs.Ranges.{◌>>=◌}
use Rattle.cell_value.specs.declared.state.StoreOf.{StoreOf}
use Rattle.scale_kit.specs.declared.scale.ScaleSet.{ScaleSet}
use Rattle.scene_tree.specs.declared.scene.Scene.{Scene}
use Rattle.param_flow.specs.declared.event.Event.{Event}
use Rattle.param_flow.specs.Machine.{stores_on}
use Rattle.selection_events.specs.declared.selection.PlotOf.{PlotOf}
use Rattle.selection_events.specs.declared.selection.SelectionOf.{SelectionOf}
use Rattle.selection_events.specs.Places.{place_at}
use Rattle.selection_events.specs.Events.{Inverts, Seen}
use Rattle.vega_selections.specs.declared.selections.VgSelection.{VgSelection}
use Rattle.vega_events.specs.Scales.{inverted_by}
use Rattle.vega_events.specs.Events.{UnitLists, read_in, begin_of, stores_after}

-- whether a selection has a name
abbrev pub is_named : List ℕ → VgSelection → Bool
is_named name v = bytes_eq v.selection.name name

-- the scale that a drag inverts, by the name of its selection
abbrev pub inverted_in : ScaleSet → List VgSelection → Inverts
inverted_in set selections index name channel = find (is_named name) selections >>= λ v. inverted_by set v index name channel

-- what is drawn, as events see it
abbrev pub seen_of : ScaleSet → Scene → UnitLists → List VgSelection → Seen
seen_of set scene rows selections = record { scene = scene; scale = inverted_in set selections; cell = read_in rows }

-- the selections of a specification, whatever its kind
abbrev pub plain_of : VgSelection → SelectionOf
plain_of v = v.selection

-- where each selection has a name of its own, both leave the same
abbrev pub EventsAreOfStores : Type 0
EventsAreOfStores = (e : Event) (plots : List PlotOf) (set : ScaleSet) (scene : Scene)
    (rows : UnitLists) (selections : List VgSelection) (stores : List StoreOf)
    → AllPairs (λ a b. a ≢ b) (map (λ (v : VgSelection). v.selection.name) selections)
    → stores_after plots set rows e (place_at scene (begin_of e).0 (begin_of e).1) selections stores
    ≡ stores_on plots (map plain_of selections) (seen_of set scene rows selections) e stores
