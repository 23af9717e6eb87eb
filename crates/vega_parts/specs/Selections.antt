-- What the event updates of a signal give.
use Rattle.std.specs.Prelude.{ℕ, Bool, true, false, ◌&&◌, ◌||◌, not, if◌then◌else◌, Option, Some, None, List, [], ◌∷◌, ◌++◌, take, flat_map, codes}
use Rattle.std.specs.Option.{option_map, option_map_or, option_to_list}
use Rattle.std.specs.List.{enumerate_from, list_any}
use Rattle.std.specs.Str.{bytes_eq}
use Rattle.json_exact.specs.declared.json.Json.{Json, out-Json}
use Rattle.spec_schema.specs.declared.spec_error.SpecKind.TheVariants.{Wrong}
use Rattle.json_exact.specs.Inside.{text_in}
use Rattle.vega_parts.specs.declared.part.Part.{Part}
use Rattle.vega_parts.specs.declared.part.Part.TheVariants as part
use Rattle.vega_parts.specs.declared.updates.Update.{Update}
use Rattle.vega_parts.specs.declared.selections.Entry.{Entry}
use Rattle.vega_parts.specs.declared.selections.Concerned.{Concerned}
use Rattle.vega_parts.specs.Members.{text_at, items_at}
use Rattle.vega_parts.specs.Trails.{Trail, Place, grandchild, scope_of}
use Rattle.vega_parts.specs.Updates.{update_of, selector_of, is_selector, is_of, fields_of, channels_fit, is_drag, clash}

-- ---- the entries

-- an entry with a text as its update: where that stands, the event selector, and the update that the text is
abbrev pub entry_with : Trail → ℕ → ℕ → List ℕ → ℕ × List ℕ → Entry
entry_with trail number inner events m = record { at = grandchild trail number inner ++ m.0 ∷ []; events = events; update = update_of m.1 }

-- an entry with this selector
abbrev pub entry_by : Trail → ℕ → ℕ → List ℕ → Json → List Entry
entry_by trail number inner events item =
    option_map_or (λ (m : ℕ × List ℕ). entry_with trail number inner events m ∷ []) (text_at (codes "update") item) []

-- an entry whose selector is one of the four and whose update is a text; no other entry is judged here
abbrev pub entry_of : Trail → ℕ → ℕ × Json → List Entry
entry_of trail number item = option_map_or (λ (e : ℕ × List ℕ). if is_selector e.1 then entry_by trail number item.0 e.1 item.1 else [])
    (text_at (codes "events") item.1) []

-- those of some entries
abbrev pub entries_in : Trail → ℕ → List Json → List Entry
entries_in trail number items = flat_map (entry_of trail number) (enumerate_from 0 items)

-- the entries that are judged, of the first five alone: of five entries one has a selector of an earlier one, or none of the four
abbrev pub entries_of : Trail → ℕ → List Json → List Entry
entries_of trail number items = entries_in trail number (take 5 items)

-- ---- the rules

-- the update isn't one of the signal with this name; where the signal has none this says nothing
abbrev pub is_of_another : Option (List ℕ) → Update → Bool
is_of_another None u = false
is_of_another (Some own) u = not (is_of own u.arguments)

-- the channels of a drag don't fit
abbrev pub misses_channels : Update → Bool
misses_channels u = is_drag u.change && not (channels_fit (fields_of u))

-- it can't stand beside an earlier one
abbrev pub clashes_with : Update → Entry → Bool
clashes_with u earlier = option_map_or (λ v. clash u v) earlier.update false

-- an update is wrong by itself: it stands with another selector, is of another signal, or is a drag over other channels than x and y
abbrev pub is_wrong_alone : Option (List ℕ) → List ℕ → Update → Bool
is_wrong_alone own events u = not (bytes_eq events (selector_of u.change)) || is_of_another own u || misses_channels u

-- or it can't stand beside an earlier one
abbrev pub is_wrong : Option (List ℕ) → List Entry → List ℕ → Update → Bool
is_wrong own earlier events u = is_wrong_alone own events u || list_any (clashes_with u) earlier

-- or it is none of the four forms
abbrev pub is_wrong_entry : Option (List ℕ) → List Entry → Entry → Bool
is_wrong_entry own earlier entry = option_map_or (λ u. is_wrong own earlier entry.events u) entry.update true

-- ---- what they give

-- the fault of an entry
abbrev pub entry_fault : Option (List ℕ) → List Entry → Entry → List Part
entry_fault own earlier entry = if is_wrong_entry own earlier entry then part.Fault entry.at Wrong ∷ [] else []

-- a scale of a drag, which is looked up from the marks that the signal concerns
abbrev pub interval : Concerned → Place → List ℕ → List Part
interval concerned place scale = part.Interval place concerned.scope scale concerned.marks ∷ []

-- the scales of one or two triples of a channel, a scale and a field
abbrev pub intervals_in : Concerned → Place → List (List ℕ) → List Part
intervals_in concerned place (x ∷ s ∷ f ∷ []) = interval concerned place s
intervals_in concerned place (x ∷ s ∷ f ∷ y ∷ t ∷ g ∷ []) = interval concerned place s ++ interval concerned place t
intervals_in concerned place other = []

-- the scales of a drag
abbrev pub intervals_of : Concerned → Place → Update → List Part
intervals_of concerned place u = if is_drag u.change then intervals_in concerned place (fields_of u) else []

-- those of an entry
abbrev pub entry_intervals : Concerned → Entry → List Part
entry_intervals concerned entry = option_map_or (λ u. intervals_of concerned entry.at u) entry.update []

-- what an entry gives after some earlier ones
abbrev pub entry_parts : Concerned → List Entry → Entry → List Part
entry_parts concerned earlier entry = entry_fault concerned.own earlier entry ++ entry_intervals concerned entry

-- what several give
abbrev pub entries_parts : Concerned → List Entry → List Entry → List Part
entries_parts concerned earlier [] = []
entries_parts concerned earlier (entry ∷ later) =
    entry_parts concerned earlier entry ++ entries_parts concerned (earlier ++ entry ∷ []) later

-- the texts of a list
abbrev pub texts_of : List Json → List (List ℕ)
texts_of items = flat_map (λ item. option_to_list (text_in (out-Json item))) items

-- the marks that a signal names
abbrev pub marks_of : Json → Option (List (List ℕ))
marks_of tree = option_map (λ (m : ℕ × List Json). texts_of m.1) (items_at (codes "marks") tree)

-- the name of a signal
abbrev pub own_name : Json → Option (List ℕ)
own_name tree = option_map (λ (m : ℕ × List ℕ). m.1) (text_at (codes "name") tree)

-- what a signal concerns: the marks below its object, of which it may name some; with its own name
abbrev pub concerned_by : Trail → Json → Concerned
concerned_by trail tree = record { own = own_name tree; scope = scope_of trail; marks = marks_of tree }

-- what the entries of a signal give
abbrev pub updates_in : Trail → Json → ℕ → List Json → List Part
updates_in trail tree number items = entries_parts (concerned_by trail tree) [] (entries_of trail number items)

-- what the event updates of a signal give
abbrev pub update_parts : Trail → Json → List Part
update_parts trail tree = option_map_or (λ (m : ℕ × List Json). updates_in trail tree m.0 m.1) (items_at (codes "on") tree) []
