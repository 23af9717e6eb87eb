-- Objects from members that may be absent.
use Rattle.std.specs.Prelude.{ℕ, List, [], ◌∷◌, Option, Some, None, flat_map}
use Rattle.json_exact.specs.declared.json.Json.{Json}
use Rattle.json_exact.specs.declared.json.Json.TheVariants as json
use Rattle.json_exact.specs.declared.json.Member.{Member}
use Rattle.vega_writing.specs.declared.slots.Slot.{Slot}

-- a member that is always there
abbrev pub must : List ℕ → Json → Slot
must name value = record { name = name; value = Some value }

-- a member that is there where it has a value
abbrev pub may : List ℕ → Option Json → Slot
may name value = record { name = name; value = value }

-- the member of this name, where it has a value
abbrev pub member_if : List ℕ → Option Json → List Member
member_if name None = []
member_if name (Some value) = record { name = name; value = value } ∷ []

-- the members that are there, in their order
unfoldable pub present : List Slot → List Member
present slots = flat_map (λ (slot : Slot). member_if slot.name slot.value) slots

-- the object of the members that are there
abbrev pub object : List Slot → Json
object slots = json.Object (present slots)
