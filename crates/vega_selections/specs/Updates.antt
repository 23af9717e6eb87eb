-- What the entries of `on` say. An entry stands with one of four selectors of events; in a specification without fault each selector stands once,
-- with the call that belongs to it, whose first text is the name of the signal.
use Rattle.std.specs.Prelude.{◌≡◌, refl, ℕ, ◌==◌, Bool, if◌then◌else◌, Option, List, [], ◌∷◌, ◌++◌, drop, find, codes}
use Rattle.std.specs.Option.{option_map}
use Rattle.std.specs.List.{list_any}
use Rattle.std.specs.Str.{bytes_eq}
use Rattle.fixed_num.specs.Ranges.{◌>>=◌}
use Rattle.expr_reading.specs.Readings.{call_of}
use Rattle.vega_spec.specs.declared.signals.EventSelector.{EventSelector}
use Rattle.vega_spec.specs.declared.signals.EventSelector.TheVariants.{Click, ShiftClick, DoubleClick, Drag}
use Rattle.vega_spec.specs.declared.signals.EventUpdate.{EventUpdate}
use Rattle.selection_events.specs.declared.selection.DragOf.{DragOf}

-- ---- selectors

-- the number of a selector, by which it is told apart
abbrev pub number_of : EventSelector → ℕ
number_of Click = 0
number_of ShiftClick = 1
number_of DoubleClick = 2
number_of Drag = 3

-- whether two selectors are the same
abbrev pub is_same : EventSelector → EventSelector → Bool
is_same a b = number_of a == number_of b

-- ---- texts

-- the texts of the call that an update is, behind the name of the signal
abbrev pub texts_of : EventUpdate → Option (List (List ℕ))
texts_of entry = option_map (λ call. drop 1 call.arguments) (call_of entry.update)

-- the entry with a selector
abbrev pub entry_with : EventSelector → List EventUpdate → Option EventUpdate
entry_with events entries = find (λ e. is_same events e.events) entries

-- what it says behind the name
abbrev pub texts_with : EventSelector → List EventUpdate → Option (List (List ℕ))
texts_with events entries = entry_with events entries >>= texts_of

-- ---- fields

-- the names that aren't among some before them, each where it stands first
abbrev pub once_behind : List (List ℕ) → List (List ℕ) → List (List ℕ)
once_behind before [] = []
once_behind before (name ∷ names) =
    if list_any (bytes_eq name) before then once_behind before names else name ∷ once_behind (before ++ name ∷ []) names

-- names, each where it stands first
abbrev pub each_once : List (List ℕ) → List (List ℕ)
each_once = once_behind []

-- ---- drags

-- a channel that shows a field
abbrev pub channel_of : List ℕ → List ℕ → DragOf
channel_of channel field = record { channel = channel; field = field }

-- the channels of one or two triples of a channel, its scale and its field
abbrev pub channels_in : List (List ℕ) → List DragOf
channels_in (x ∷ s ∷ f ∷ []) = channel_of x f ∷ []
channels_in (x ∷ s ∷ f ∷ y ∷ t ∷ g ∷ []) = channel_of x f ∷ channel_of y g ∷ []
channels_in other = []

-- their scales
abbrev pub scales_in : List (List ℕ) → List (List ℕ)
scales_in (x ∷ s ∷ f ∷ []) = s ∷ []
scales_in (x ∷ s ∷ f ∷ y ∷ t ∷ g ∷ []) = s ∷ t ∷ []
scales_in other = []

-- The rules at work.

names_once : each_once (codes "a" ∷ codes "b" ∷ codes "a" ∷ codes "c" ∷ codes "b" ∷ []) ≡ codes "a" ∷ codes "b" ∷ codes "c" ∷ []
names_once = refl

two_triples : (channels_in (codes "x" ∷ codes "s" ∷ codes "f" ∷ codes "y" ∷ codes "t" ∷ codes "g" ∷ [])
    ≡ channel_of (codes "x") (codes "f") ∷ channel_of (codes "y") (codes "g") ∷ [])
    × (scales_in (codes "x" ∷ codes "s" ∷ codes "f" ∷ codes "y" ∷ codes "t" ∷ codes "g" ∷ []) ≡ codes "s" ∷ codes "t" ∷ [])
two_triples = (refl, refl)
