-- The members of objects: signals.
use Rattle.std.specs.Prelude.{None, List, [], ◌∷◌, codes}
use Rattle.spec_schema.specs.declared.layout.Layout.{Layout}
use Rattle.spec_schema.specs.declared.layout.Test.TheVariants.{Has}
use Rattle.spec_schema.specs.Tables.{must, may}
use Rattle.vega_schema.specs.declared.codes.TheConstants.{CELL, EVENTS, EXPRESSION, EXPRESSION_SIGNAL, ON, ON_LIST, SIGNAL, TEXT, TEXTS}

-- a signal
unfoldable pub signal : Layout
signal = record {
  object = SIGNAL;
  when = [];
  rules =
      must (codes "name") TEXT ∷ may (codes "value") CELL ∷ may (codes "update") EXPRESSION ∷
      may (codes "on") ON_LIST ∷ may (codes "marks") TEXTS ∷
      [];
  others = None;
}

-- an update on an event
unfoldable pub on_event : Layout
on_event = record {
  object = ON;
  when = Has (codes "events") ∷ Has (codes "update") ∷ [];
  rules =
      may (codes "events") EVENTS ∷ may (codes "update") TEXT ∷
      [];
  others = None;
}

-- the value of an expression
unfoldable pub expression_signal : Layout
expression_signal = record {
  object = EXPRESSION_SIGNAL;
  when = Has (codes "signal") ∷ [];
  rules =
      may (codes "signal") EXPRESSION ∷
      [];
  others = None;
}

-- all of these
abbrev pub all_signals : List Layout
all_signals = signal ∷ on_event ∷ expression_signal ∷ []
