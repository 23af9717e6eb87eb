-- What stands inside a value.
use Rattle.std.specs.Prelude.{List, []}
use Rattle.json_exact.specs.declared.json.Json.{Json, out-Json, Null, Flag, Number, Huge, Text, List', Object'}
use Rattle.spec_schema.specs.declared.form.Form.{Form}
use Rattle.spec_schema.specs.declared.schema.Schema.{Schema}
use Rattle.spec_schema.specs.Forms.{items_shape, layout_of}
use Rattle.spec_schema.specs.Faults.{members_of}
use Rattle.spec_walk.specs.Walk.{Noting, Visiting, seen_items, seen_row, list_parts, object_parts}

-- what stands inside a value gives by its form
abbrev pub inside : {A P : Type 0} → Schema → Noting A → Visiting A P → Json → Form → List A → List P
inside schema noted visit Null form trail = []
inside schema noted visit (Flag b) form trail = []
inside schema noted visit (Number n) form trail = []
inside schema noted visit Huge form trail = []
inside schema noted visit (Text t) form trail = []
inside schema noted visit (List' size items) form trail = list_parts (items_shape form) (seen_items schema noted visit items) trail
inside schema noted visit (Object' size members) form trail =
    object_parts (layout_of schema form (members_of (out-Json (Object' size members)))) (seen_row schema noted visit members) trail
