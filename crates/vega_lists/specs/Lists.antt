-- The named lists of rows of a specification.
use Rattle.std.specs.Prelude.{◌≡◌, refl, ℕ, Option, Some, None, List, [], ◌∷◌, map, codes}
use Rattle.std.specs.Option.{option_map_or}
use Rattle.fixed_num.specs.Ranges.{◌>>=◌}
use Rattle.cell_value.specs.State.{Dataset}
use Rattle.cell_value.specs.Datum.{Datum}
use Rattle.expr_eval.specs.Plain.{null_row}
use Rattle.expr_eval.specs.Values.{Values}
use Rattle.vega_spec.specs.declared.data.DataSet.{DataSet}
use Rattle.vega_spec.specs.declared.transforms.Transform.{Transform}
use Rattle.vega_spec.specs.declared.transforms.Transform.TheVariants as vega
use Rattle.vega_lists.specs.Scopes.{Scope, no_lists, with_list, list_named}
use Rattle.vega_lists.specs.Transforms.{all_transformed, transforms_of}

-- the rows with which a data set begins: those that its `source` stands for, or without one those of the state's source of its name
abbrev pub begun_rows : List Dataset → Scope → DataSet → List Datum
begun_rows sources scope set = option_map_or scope set.source (list_named sources set.name)

-- the rows of a data set: what its transforms make, one after the other, of the rows with which it begins; None where one overflows
abbrev pub list_of : Values → List Dataset → Scope → DataSet → Option (List Datum)
list_of values sources scope set = all_transformed values scope (transforms_of set) (begun_rows sources scope set)

-- the scope in which the name of a data set stands for its rows
abbrev pub and_its_list : Values → List Dataset → Scope → DataSet → Option Scope
and_its_list values sources scope set = list_of values sources scope set >>= λ rows. Some (with_list set.name rows scope)

-- The named lists of an object with these data sets, in an object whose names stand for lists already: each data set is read where
-- those before it, and those of the objects round it, have their names, so that one with the name of an outer one reads the outer
-- one by `source`. None where one of the data sets overflows, also where nothing reads it.
abbrev pub lists_of : Values → List Dataset → Scope → List DataSet → Option Scope
lists_of values sources outer [] = Some outer
lists_of values sources outer (set ∷ others) = do
  scope ← and_its_list values sources outer set
  lists_of values sources scope others

-- The rules at work.

abbrev a_row : ℕ → Datum
a_row id = record { key = record { id = id; branch = 0 }; cell = null_row }

abbrev a_source : List Dataset
a_source = record { name = codes "t"; rows = a_row 1 ∷ a_row 2 ∷ [] } ∷ []

abbrev a_set : List ℕ → Option (List ℕ) → List Transform → DataSet
a_set name source transform = record { name = name; values = None; url = None; format = None; source = source; transform = Some transform }

abbrev two_names : Transform
two_names = vega.Fold record { fields = codes "a" ∷ codes "b" ∷ []; as_ = None }

-- the ids of the list of a name
abbrev ids_at : List ℕ → Option Scope → Option (List ℕ)
ids_at name scope = scope >>= λ lists. Some (map (λ (row : Datum). row.key.id) (lists name))

the_rows_of_a_source : (values : Values) → ids_at (codes "t") (lists_of values a_source no_lists (a_set (codes "t") None [] ∷ [])) ≡ Some (1 ∷ 2 ∷ [])
the_rows_of_a_source values = refl

the_rows_of_the_data_set_before : (values : Values)
    → ids_at (codes "u") (lists_of values a_source no_lists (a_set (codes "t") None [] ∷ a_set (codes "u") (Some (codes "t")) (two_names ∷ []) ∷ []))
    ≡ Some (1 ∷ 1 ∷ 2 ∷ 2 ∷ [])
the_rows_of_the_data_set_before values = refl

an_inner_name_reads_the_outer_list : (values : Values)
    → ids_at (codes "t") (lists_of values [] (list_named a_source) (a_set (codes "t") (Some (codes "t")) (two_names ∷ []) ∷ []))
    ≡ Some (1 ∷ 1 ∷ 2 ∷ 2 ∷ [])
an_inner_name_reads_the_outer_list values = refl

no_source_of_the_name : (values : Values) → ids_at (codes "u") (lists_of values a_source no_lists (a_set (codes "u") None [] ∷ [])) ≡ Some []
no_source_of_the_name values = refl
