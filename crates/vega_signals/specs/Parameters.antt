-- What the expressions of a plot read of parameters and of scales.
use Rattle.std.specs.Prelude.{◌≡◌, refl, ℕ, true, Some, List, [], ◌∷◌, find, codes}
use Rattle.std.specs.Option.{option_map_or}
use Rattle.std.specs.Str.{bytes_eq}
use Rattle.cell_value.specs.declared.cell.Cell.{Cell}
use Rattle.cell_value.specs.declared.cell.Cell.TheVariants.{Null, Flag}
use Rattle.expr_eval.specs.Values.{Values}
use Rattle.expr_eval.specs.Plain.{no_values}

-- the value of the first parameter of a name; null where there is none
abbrev pub value_named : List (List ℕ × Cell) → List ℕ → Cell
value_named params name = option_map_or (λ (param : List ℕ × Cell). param.1) (find (λ (param : List ℕ × Cell). bytes_eq param.0 name) params) Null

-- how long the domain of the first scale of a name is; 0 where there is none
abbrev pub length_named : List (List ℕ × ℕ) → List ℕ → ℕ
length_named lengths name = option_map_or (λ (scale : List ℕ × ℕ). scale.1) (find (λ (scale : List ℕ × ℕ). bytes_eq scale.0 name) lengths) 0

-- what is read where parameters have these values, the domains of scales are so long, and this is read of the stores of selections
abbrev pub values_with : Values → List (List ℕ × Cell) → List (List ℕ × ℕ) → Values
values_with stores params lengths = record stores { value = λ name. Some (value_named params name); domain_length = length_named lengths }

-- The rules at work.

the_first_of_a_name : (values_with no_values ((codes "k", Flag true) ∷ (codes "k", Null) ∷ []) []).value (codes "k") ≡ Some (Flag true)
the_first_of_a_name = refl
