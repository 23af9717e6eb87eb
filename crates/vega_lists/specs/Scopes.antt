-- The lists of rows that names stand for.
use Rattle.std.specs.Prelude.{◌≡◌, refl, ℕ, List, [], ◌∷◌, codes, if◌then◌else◌}
use Rattle.std.specs.Str.{bytes_eq}
use Rattle.cell_value.specs.State.{Dataset}
use Rattle.cell_value.specs.Datum.{Datum}
use Rattle.expr_eval.specs.Plain.{null_row}

-- the rows for which each name stands at a place of a specification; none where the name stands for no list
abbrev pub Scope : Type 0
Scope = List ℕ → List Datum

-- no name stands for a list
abbrev pub no_lists : Scope
no_lists name = []

-- the scope with a list under a name, in place of the one that the name stood for
abbrev pub with_list : List ℕ → List Datum → Scope → Scope
with_list name rows scope = λ other. if bytes_eq name other then rows else scope other

-- the rows of the first of some lists that has the name; none where none has it
abbrev pub list_named : List Dataset → Scope
list_named [] = no_lists
list_named (list ∷ others) = with_list list.name list.rows (list_named others)

-- The rules at work.

abbrev a_row : ℕ → Datum
a_row id = record { key = record { id = id; branch = 0 }; cell = null_row }

abbrev two_of_a_name : List Dataset
two_of_a_name = record { name = codes "a"; rows = a_row 1 ∷ [] } ∷ record { name = codes "a"; rows = a_row 2 ∷ [] } ∷ []

the_first_of_the_name : list_named two_of_a_name (codes "a") ≡ a_row 1 ∷ []
the_first_of_the_name = refl

another_name : list_named two_of_a_name (codes "b") ≡ []
another_name = refl
