-- Signals that have values, found by their names.
use Rattle.std.specs.Prelude.{◌≡◌, ℕ, Option, List, unwrap_or, is_some, String, if◌then◌else◌}
use Rattle.std.specs.Option.{option_map}
use Rattle.std.specs.declared.alloc.Global.{Global}
use Rattle.std.specs.BTreeMap as tree
use Rattle.cell_value.specs.declared.cell.Cell.{Cell}
use Rattle.cell_value.specs.declared.cell.Cell.TheVariants.{Null}
use Rattle.expr_eval.specs.Values.{Values}
use Rattle.vega_signals.specs.Extents.{Settled}
use Rattle.vega_signals.specs.Settling.{first_named}

-- values by names
abbrev pub ValuesByName : Type 0
ValuesByName = tree.BTreeMap (String Global) (Option Cell)

-- what is read inside an object whose signals are found so
abbrev pub known_values : ValuesByName → Values → Values
known_values own outer = record outer {
  value = λ name. unwrap_or (tree.get_by_text own name) (outer.value name);
  member = λ name field. if is_some (tree.get_by_text own name) then Null else outer.member name field;
}

-- the first of some signals with a name is found under it
abbrev pub IsIndex : Settled → ValuesByName → Type 0
IsIndex own index = (name : List ℕ) → tree.get_by_text index name ≡ option_map (λ (entry : List ℕ × Option Cell). entry.1) (first_named own name)
