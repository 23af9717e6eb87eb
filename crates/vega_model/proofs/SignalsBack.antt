-- Signals are read back.
use Rattle.std.proofs.Common.{◌≡◌, ℕ, List, refl, ap}
use Rattle.std.specs.Option.{unwrap_or}
use Rattle.std.specs.Prelude.{codes}
use Rattle.json_exact.specs.Path.{member_value}
use Rattle.json_exact.specs.declared.json.Member.{Member}
use Rattle.vega_spec.specs.declared.signals.EventUpdate.{EventUpdate}
use Rattle.vega_spec.specs.declared.signals.Signal.{Signal}
use Rattle.vega_building.specs.Names.{selector_named}
use Rattle.vega_building.specs.Signals.{event_update_of, signal_of}
use Rattle.vega_writing.specs.Signals.{event_selector_tree, signal_slots, event_update_slots}
use Rattle.vega_writing.specs.Slots.{present}
use Rattle.vega_model.proofs.Back.{needed_text_back, may_objects_always, must_named, may_texts}
use Rattle.vega_model.proofs.Found.{at_name, found}
use Rattle.vega_model.proofs.Leaves.{may_cell, may_expression}
use Rattle.vega_model.proofs.Words.{selector_reads}
use Rattle.vega_model.specs.RoundTrip.{asked_readings}
use Rattle.vega_model.specs.Codes.{OfSignal}
use Rattle.vega_spec.specs.declared.signals.EventSelector.TheVariants as events

-- an update on events is read back
pub event_update_back : (e : EventUpdate) → event_update_of (present (event_update_slots e)) ≡ e
unfolding event_update_slots
event_update_back e =
    let ms : List Member = present (event_update_slots e) in
    let at : (name : List ℕ) → member_value ms name ≡ at_name (event_update_slots e) name =
    λ name. found (event_update_slots e) name refl in
    λ j. record {
      events = ap (λ o. unwrap_or o events.Click)
          (must_named ms (codes "events") selector_named event_selector_tree e.events (at (codes "events")) (selector_reads e.events)) j;
      update = needed_text_back ms (codes "update") e.update (at (codes "update")) j;
    }

-- a signal is read back
pub signal_back : (s : Signal) → OfSignal asked_readings s → signal_of (present (signal_slots s)) ≡ s
unfolding signal_slots
signal_back s r =
    let ms : List Member = present (signal_slots s) in
    let at : (name : List ℕ) → member_value ms name ≡ at_name (signal_slots s) name = λ name. found (signal_slots s) name refl in
    λ j. record {
      name = needed_text_back ms (codes "name") s.name (at (codes "name")) j;
      value = may_cell ms (codes "value") s.value (at (codes "value")) j;
      update = may_expression ms (codes "update") s.update (at (codes "update")) r j;
      on = may_objects_always ms (codes "on") event_update_of event_update_slots s.on (at (codes "on")) event_update_back j;
      marks = may_texts ms (codes "marks") s.marks (at (codes "marks")) j;
    }
