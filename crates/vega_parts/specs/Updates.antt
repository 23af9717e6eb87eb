-- The updates of selections.
use Rattle.std.specs.Prelude.{ℕ, ◌==◌, nat_le, Bool, true, false, ◌&&◌, ◌||◌, not, if◌then◌else◌, Option, Some, None, List, [], ◌∷◌, length, drop, codes}
use Rattle.std.specs.Option.{option_and_then}
use Rattle.std.specs.List.{list_any, list_all}
use Rattle.std.specs.Str.{bytes_eq}
use Rattle.expr_reading.specs.Readings.{call_of}
use Rattle.vega_parts.specs.declared.updates.Change.{Change}
use Rattle.vega_parts.specs.declared.updates.Change.TheVariants.{Point, Toggle, Clear, Interval}
use Rattle.vega_parts.specs.declared.updates.Update.{Update}

-- the change that a call of this name makes
abbrev pub change_named : List ℕ → Option Change
change_named name = if bytes_eq name (codes "vlPoint") then Some Point
    else (if bytes_eq name (codes "vlToggle") then Some Toggle
    else (if bytes_eq name (codes "vlClear") then Some Clear
    else (if bytes_eq name (codes "vlInterval") then Some Interval else None)))

-- how many arguments its call has: the signal's name, and then fields, nothing, or one or two triples of a channel, a scale and a field
abbrev pub takes : Change → ℕ → Bool
takes Point count = nat_le 1 count
takes Toggle count = nat_le 1 count
takes Clear count = count == 1
takes Interval count = count == 4 || count == 7

-- the update with this change, where it has a form
abbrev pub update_by : List (List ℕ) → Change → Option Update
update_by arguments change = if takes change (length arguments) then Some (record { change = change; arguments = arguments }) else None

-- the update that a call is
abbrev pub update_in : List ℕ → List (List ℕ) → Option Update
update_in name arguments = option_and_then (update_by arguments) (change_named name)

-- the update that a text is, in one of the four forms
abbrev pub update_of : List ℕ → Option Update
update_of text = option_and_then (λ call. update_in call.name call.arguments) (call_of text)

-- ---- what an update says

-- the event selector with which it stands
abbrev pub selector_of : Change → List ℕ
selector_of Point = codes "click"
selector_of Toggle = codes "click[event.shiftKey]"
selector_of Clear = codes "dblclick"
selector_of Interval = codes "[mousedown, mouseup] > mousemove"

-- a text is one of the four event selectors
abbrev pub is_selector : List ℕ → Bool
is_selector events = bytes_eq events (selector_of Point) || bytes_eq events (selector_of Toggle)
    || bytes_eq events (selector_of Clear) || bytes_eq events (selector_of Interval)

-- its first text is the name of a signal
abbrev pub is_of : List ℕ → List (List ℕ) → Bool
is_of own [] = false
is_of own (name ∷ rest) = bytes_eq name own

-- what follows the signal's name: fields, or triples
abbrev pub fields_of : Update → List (List ℕ)
fields_of u = drop 1 u.arguments

-- a click
abbrev pub is_point : Change → Bool
is_point Point = true
is_point Toggle = false
is_point Clear = false
is_point Interval = false

-- a click with shift
abbrev pub is_toggle : Change → Bool
is_toggle Point = false
is_toggle Toggle = true
is_toggle Clear = false
is_toggle Interval = false

-- a drag
abbrev pub is_drag : Change → Bool
is_drag Point = false
is_drag Toggle = false
is_drag Clear = false
is_drag Interval = true

-- either click
abbrev pub is_click : Change → Bool
is_click change = is_point change || is_toggle change

-- ---- drags

-- a channel of a drag
abbrev pub is_channel : List ℕ → Bool
is_channel name = bytes_eq name (codes "x") || bytes_eq name (codes "y")

-- the channels of one or two triples are x or y, and not the same
abbrev pub channels_fit : List (List ℕ) → Bool
channels_fit (x ∷ s ∷ f ∷ []) = is_channel x
channels_fit (x ∷ s ∷ f ∷ y ∷ t ∷ g ∷ []) = is_channel x && is_channel y && not (bytes_eq x y)
channels_fit other = false

-- ---- two updates of one signal

-- a drag stands beside a click
abbrev pub mix : Change → Change → Bool
mix first second = (is_drag first && is_click second) || (is_click first && is_drag second)

-- two lists have the same fields
abbrev pub same_fields : List (List ℕ) → List (List ℕ) → Bool
same_fields xs ys = list_all (λ x. list_any (bytes_eq x) ys) xs && list_all (λ y. list_any (bytes_eq y) xs) ys

-- one is a click, the other one with shift
abbrev pub are_clicks : Change → Change → Bool
are_clicks first second = (is_point first && is_toggle second) || (is_toggle first && is_point second)

-- their fields aren't the same
abbrev pub differ : Update → Update → Bool
differ first second = are_clicks first.change second.change && not (same_fields (fields_of first) (fields_of second))

-- one of them can't stand beside the other
abbrev pub clash : Update → Update → Bool
clash first second = mix first.change second.change || differ first second
