-- The trees of signals.
use Rattle.std.specs.Prelude.{List, [], ◌∷◌, option_map, codes}
use Rattle.json_exact.specs.declared.json.Json.{Json}
use Rattle.vega_writing.specs.declared.slots.Slot.{Slot}
use Rattle.vega_spec.specs.declared.signals.EventSelector.{EventSelector}
use Rattle.vega_spec.specs.declared.signals.EventSelector.TheVariants as events
use Rattle.vega_spec.specs.declared.signals.Signal.{Signal}
use Rattle.vega_spec.specs.declared.signals.EventUpdate.{EventUpdate}
use Rattle.vega_writing.specs.Slots.{must, may, object}
use Rattle.vega_writing.specs.Trees.{text_tree, expression_tree, cell_tree, list_tree}

-- an event selector
unfoldable pub event_selector_tree : EventSelector → Json
event_selector_tree events.Click = text_tree (codes "click")
event_selector_tree events.ShiftClick = text_tree (codes "click[event.shiftKey]")
event_selector_tree events.DoubleClick = text_tree (codes "dblclick")
event_selector_tree events.Drag = text_tree (codes "[mousedown, mouseup] > mousemove")

-- an update on events: its members
unfoldable pub event_update_slots : EventUpdate → List Slot
event_update_slots e = must (codes "events") (event_selector_tree e.events) ∷ must (codes "update") (text_tree e.update) ∷ []

abbrev pub event_update_tree : EventUpdate → Json
event_update_tree e = object (event_update_slots e)

-- a signal: its members
unfoldable pub signal_slots : Signal → List Slot
signal_slots s =
    must (codes "name") (text_tree s.name) ∷ may (codes "value") (option_map cell_tree s.value) ∷
    may (codes "update") (option_map expression_tree s.update) ∷
    may (codes "on") (option_map (list_tree event_update_tree) s.on) ∷
    may (codes "marks") (option_map (list_tree text_tree) s.marks) ∷ []

abbrev pub signal_tree : Signal → Json
signal_tree s = object (signal_slots s)
