-- Signals.
use Rattle.std.specs.Prelude.{List, codes}
use Rattle.json_exact.specs.declared.json.Member.{Member}
use Rattle.vega_spec.specs.declared.signals.Signal.{Signal}
use Rattle.vega_spec.specs.declared.signals.EventUpdate.{EventUpdate}
use Rattle.tree_readers.specs.Parts.{objects_at, cell_at, needed_text, texts_at}
use Rattle.vega_building.specs.Parts.{expression_at}
use Rattle.vega_building.specs.Names.{needed_selector}

-- an update on events
abbrev pub event_update_of : List Member → EventUpdate
event_update_of members = record {
  events = needed_selector members (codes "events");
  update = needed_text members (codes "update");
}

-- a signal
abbrev pub signal_of : List Member → Signal
signal_of members = record {
  name = needed_text members (codes "name");
  value = cell_at members (codes "value");
  update = expression_at members (codes "update");
  on = objects_at event_update_of members (codes "on");
  marks = texts_at members (codes "marks");
}
