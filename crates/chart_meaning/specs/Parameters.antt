-- The parameters of a chart in a state. One that commands may set has the value that the state gives it. One that is computed has the value of its
-- expression, over no row; it may mention others, but never needs itself, by itself or through others. A selection has no value of its own, and what
-- is read of its store is known from the state. A parameter whose computation is out of range, or reads one that is, is lost: it has no value.
use Rattle.std.specs.Prelude.{◌≡◌, refl, ℕ, zero, suc, ◌+◌, Bool, true, Option, Some, None, List, [], ◌∷◌, ◌++◌, map, find, length, codes}
use Rattle.std.specs.Prelude.{is_none, is_some, if◌then◌else◌, flat_map}
use Rattle.std.specs.List.{filter_map, list_all}
use Rattle.std.specs.Option.{option_map_or}
use Rattle.std.specs.Str.{bytes_eq}
use Rattle.cell_value.specs.declared.cell.Cell.{Cell}
use Rattle.cell_value.specs.declared.cell.Cell.TheVariants.{Null, Flag}
use Rattle.cell_value.specs.declared.state.StoreOf.{StoreOf}
use Rattle.cell_value.specs.State.{State}
use Rattle.expr_syntax.specs.declared.expr.Expr.{Expr}
use Rattle.expr_eval.specs.Plain.{null_row}
use Rattle.expr_eval.specs.Stores.{values_of_stores}
use Rattle.expr_eval.specs.Value.{value_of}
use Rattle.expr_eval.specs.Values.{Values}
use Rattle.vl_spec.specs.declared.params.ParamKind.{ParamKind}
use Rattle.vl_spec.specs.declared.params.ParamKind.TheVariants as kind
use Rattle.vl_spec.specs.declared.params.ParamOf.{ParamOf}

-- ---- parameters with their values

-- parameters by their names, each with its value; None for one that is lost
abbrev pub Settled : Type 0
Settled = List (List ℕ × Option Cell)

-- those of which the state gives the values
abbrev pub as_given : List (List ℕ × Cell) → Settled
as_given given = map (λ (entry : List ℕ × Cell). (entry.0, Some entry.1)) given

-- the value under a name: that of the first parameter of the name, and null where there is none
abbrev pub has_name : List ℕ → List ℕ × Option Cell → Bool
has_name name entry = bytes_eq entry.0 name

abbrev pub value_under : Settled → List ℕ → Option Cell
value_under settled name = option_map_or (λ (entry : List ℕ × Option Cell). entry.1) (find (has_name name) settled) (Some Null)

-- what expressions read where parameters have these values, and selections these stores
abbrev pub values_over : List StoreOf → Settled → Values
values_over stores settled = record (values_of_stores stores) { value = value_under settled }

-- ---- computed ones

-- the expression of a parameter that is computed
abbrev pub expression_in : ParamKind → Option Expr
expression_in (kind.Value cell) = None
expression_in (kind.Expr e) = Some e
expression_in (kind.Select s) = None

-- a computed parameter with its value, where expressions read these; nothing of another parameter
abbrev pub computed_here : Values → ParamOf → Settled
computed_here values p = option_map_or (λ e. (p.name, value_of null_row values e) ∷ []) (expression_in p.kind) []

abbrev pub all_computed : Values → List ParamOf → Settled
all_computed values params = flat_map (computed_here values) params

-- how many are computed
abbrev pub count_computed : List ParamOf → ℕ
count_computed params = length (filter_map (λ (p : ParamOf). expression_in p.kind) params)

-- the values where all expressions read these: those that are given, and those that are computed now
abbrev pub settled_next : List ParamOf → List StoreOf → Settled → Settled → Settled
settled_next params stores given now = given ++ all_computed (values_over stores now) params

-- The same so many times over, beginning with those that are given; until it has a value a parameter reads as null.
abbrev pub settled_after : List ParamOf → List StoreOf → Settled → ℕ → Settled
settled_after params stores given zero = given
settled_after params stores given (suc n) = settled_next params stores given (settled_after params stores given n)

-- The values of all parameters in a state: once more than there are computed ones. Since none needs itself, each time over at least one more has its
-- value for good, and once more changes nothing.
abbrev pub settled : List ParamOf → State → Settled
settled params st = settled_after params st.stores (as_given st.params) (count_computed params + 1)

-- ---- what is read

-- what the expressions of a chart read in a state; a parameter that is lost has no value there
abbrev pub values_in : List ParamOf → State → Values
values_in params st = values_over st.stores (settled params st)

-- whether a name is that of a lost parameter
abbrev pub is_lost : Values → List ℕ → Bool
is_lost values name = is_none (values.value name)

-- whether none is lost
abbrev pub has_value : List ℕ × Option Cell → Bool
has_value entry = is_some entry.1

abbrev pub keeps_all : Settled → Bool
keeps_all settled = list_all has_value settled

-- what the expressions of a command read: where a parameter is lost all of them are null, but of such a state nothing is drawn
abbrev pub told : Settled → Settled
told settled = if keeps_all settled then settled else []

abbrev pub values_told : List ParamOf → State → Values
values_told params st = values_over st.stores (told (settled params st))

-- The rules at work.

-- `k` is true, and `j` is lost
abbrev two_settled : Settled
two_settled = (codes "k", Some (Flag true)) ∷ (codes "j", None) ∷ []

what_names_read : (value_under two_settled (codes "k") ≡ Some (Flag true)) × (value_under two_settled (codes "j") ≡ None)
    × (value_under two_settled (codes "other") ≡ Some Null)
what_names_read = (refl, refl, refl)

where_one_is_lost : (told two_settled ≡ []) × (told ((codes "k", Some (Flag true)) ∷ []) ≡ (codes "k", Some (Flag true)) ∷ [])
where_one_is_lost = (refl, refl)

nothing_is_computed : settled_after [] [] (as_given ((codes "k", Flag true) ∷ [])) 1 ≡ (codes "k", Some (Flag true)) ∷ []
nothing_is_computed = refl
