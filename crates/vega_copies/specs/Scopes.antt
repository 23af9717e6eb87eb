-- What names stand for at an object: lists of rows, and the values of signals.
use Rattle.std.specs.Prelude.{◌≡◌, refl, ℕ, not, Bool, true, false, pos, Option, Some, None, List, [], ◌∷◌, flat_map, unwrap_or, codes, if◌then◌else◌}
use Rattle.std.specs.Option.{option_map}
use Rattle.std.specs.List.{list_all, list_any}
use Rattle.std.specs.Str.{bytes_eq}
use Rattle.cell_value.specs.declared.cell.Cell.{Cell}
use Rattle.cell_value.specs.declared.cell.Cell.TheVariants.{Null, Flag, Number, Pair}
use Rattle.cell_value.specs.Datum.{Datum}
use Rattle.cell_value.specs.State.{Dataset}
use Rattle.expr_eval.specs.Plain.{no_values}
use Rattle.expr_eval.specs.Values.{Values}
use Rattle.vega_spec.specs.declared.data.DataSet.{DataSet}
use Rattle.vega_spec.specs.declared.signals.Signal.{Signal}
use Rattle.vega_spec.specs.declared.transforms.BinExtent.TheVariants as bounds
use Rattle.vega_spec.specs.declared.transforms.Transform.{Transform}
use Rattle.vega_spec.specs.declared.transforms.Transform.TheVariants as vega
use Rattle.vega_lists.specs.Scopes.{Scope, no_lists, with_list}
use Rattle.vega_lists.specs.Lists.{lists_of}
use Rattle.vega_signals.specs.Extents.{Settled, is_computed}
use Rattle.vega_signals.specs.Settling.{Valued, values_inside, settled_own}
use Rattle.vega_signals.specs.Lacking.{lacks, set_lacks}
use Rattle.vega_copies.specs.Outlines.{Object, bare}

-- What names stand for at an object: its own names, and those of the objects round it that it doesn't give itself.
pub record Names : Type 0 where
  -- the rows for which a name stands
  pub lists : Scope
  -- the values of signals, and what is read of the stores of selections
  pub values : Values

-- the values at which the signals of an object settle where names stand for these round it
abbrev pub settled_in : List Dataset → Names → Valued → Object → Settled
settled_in sources outer given o = settled_own sources outer.lists outer.values given o.signals o.sets

-- What names stand for at an object whose signals have settled. None where one of its data sets overflows, or mentions a signal without value.
abbrev pub names_with : List Dataset → Names → Object → Settled → Option Names
names_with sources outer o own =
    let values = values_inside own outer.values in
    if list_any (set_lacks values) o.sets then None
    else option_map (λ lists. record { lists = lists; values = values }) (lists_of values sources outer.lists o.sets)

-- the signals of a group that aren't computed, with their written values
abbrev pub written_here : Signal → Valued
written_here s = if is_computed s then [] else (s.name, unwrap_or s.value Null) ∷ []

-- what names stand for in a group, from what they stand for round it
abbrev pub names_in_object : List Dataset → Names → Object → Option Names
names_in_object sources outer o = names_with sources outer o (settled_in sources outer (flat_map written_here o.signals) o)

-- what names stand for round the top, from what is read of the stores of selections: no name stands for a list
abbrev pub outermost : Values → Names
outermost stores = record { lists = no_lists; values = stores }

-- what names stand for at the top, whose settable parameters have the values of a state
abbrev pub names_at_top : Values → Valued → List Dataset → Object → Option Names
names_at_top stores params sources o = names_with sources (outermost stores) o (settled_in sources (outermost stores) params o)

-- whether each own signal of an object has a value
abbrev pub keeps_signals : Names → Object → Bool
keeps_signals names o = list_all (λ (s : Signal). not (lacks names.values s.name)) o.signals

-- The rules at work.

-- a signal with a written value
abbrev a_signal : List ℕ → Option Cell → Signal
a_signal name value = record { name = name; value = value; update = None; on = None; marks = None }

-- where `k` stands for a flag, and `lost` has no value
abbrev round_it : Names
round_it = record {
  lists = no_lists;
  values = record no_values { value = λ name. if bytes_eq name (codes "lost") then None else Some (if bytes_eq name (codes "k") then Flag true else Null) };
}

abbrev value_at : List ℕ → Object → Option (Option Cell)
value_at name o = option_map (λ (names : Names). names.values.value name) (names_in_object [] round_it o)

-- an own name hides an outer one; an outer name that isn't hidden stands for what it stood for
own_and_outer_names : (value_at (codes "k") bare ≡ Some (Some (Flag true)))
    × (value_at (codes "k") (record bare { signals = a_signal (codes "k") (Some (Flag false)) ∷ [] }) ≡ Some (Some (Flag false)))
    × (value_at (codes "k") (record bare { signals = a_signal (codes "k") None ∷ [] }) ≡ Some (Some Null))
    × (value_at (codes "lost") bare ≡ Some None)
own_and_outer_names = (refl, refl, refl, refl)

-- a data set that begins with the rows of an outer list
abbrev a_set : Transform → DataSet
a_set t = record { name = codes "u"; values = None; url = None; format = None; source = Some (codes "t"); transform = Some (t ∷ []) }

-- a row with a number under each name
abbrev a_row : ℕ → Datum
a_row n = record { key = record { id = n; branch = 0 }; cell = λ name. Number (pos n) }

-- where besides `t` stands for two rows
abbrev round_two_rows : Names
round_two_rows = record round_it { lists = with_list (codes "t") (a_row 3 ∷ a_row 1 ∷ []) no_lists }

abbrev bins_over : List ℕ → Transform
bins_over name = vega.Bin record { field = codes "v"; extent = bounds.Signal name; maxbins = None; step = None; as_ = None }

abbrev extent_as : List ℕ → Transform
extent_as name = vega.Extent record { field = codes "v"; signal = name }

-- the signal of an extent hides an outer one of its name
an_extent_inside : option_map (λ (names : Names). names.values.value (codes "k"))
    (names_in_object [] round_two_rows (record bare { sets = a_set (extent_as (codes "k")) ∷ [] }))
    ≡ Some (Some (Pair (pos 1) (pos 3)))
an_extent_inside = refl

-- a data set that mentions a signal without value overflows
a_signal_without_value_is_mentioned : names_in_object [] round_two_rows (record bare { sets = a_set (bins_over (codes "lost")) ∷ [] }) ≡ None
a_signal_without_value_is_mentioned = refl
