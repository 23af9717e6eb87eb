-- The data sets that stand first: the sources give the rows of a state, and the list without rows changes nothing.
use Rattle.std.proofs.Common.{◌≡◌, refl, sym, ap, ◌∙◌, ℕ, ◌≢◌, Bool, true, false, ◌||◌, if◌then◌else◌, Option, Some, None, List, [], ◌∷◌}
use Rattle.std.proofs.Common.{map, All, bytes_eq, filter, unwrap_or}
use Rattle.std.specs.List.{list_any}
use Rattle.std.specs.Option.{option_map}
use Rattle.std.proofs.lemmas.Slice.Eq.{bytes_eq-Decides}
use Rattle.fixed_num.specs.Ranges.{◌>>=◌, all_found}
use Rattle.cell_value.specs.declared.cell.Cell.{Cell}
use Rattle.cell_value.specs.declared.cell.Cell.TheVariants.{Flag}
use Rattle.cell_value.specs.Cell.{truth}
use Rattle.cell_value.specs.Datum.{CellAt, Datum}
use Rattle.cell_value.specs.State.{Dataset}
use Rattle.expr_syntax.specs.declared.expr.Expr.TheOpen as node
use Rattle.expr_syntax.specs.declared.expr.Expr.TheVariants as expr
use Rattle.expr_syntax.specs.declared.expr.Expr.{fold-roll-Expr}
use Rattle.expr_eval.specs.Value.{value_here, value_of, truth_of}
use Rattle.expr_eval.specs.Values.{Values}
use Rattle.plain_rows.specs.Filters.{kept, data_filtered}
use Rattle.vega_spec.specs.declared.data.DataSet.{DataSet}
use Rattle.vl_spec.specs.declared.sources.SourceOf.{SourceOf}
use Rattle.vega_lists.specs.Lists.{lists_of}
use Rattle.vega_lists.specs.Scopes.{Scope, no_lists, with_list, list_named}
use Rattle.vega_assemble.specs.Assembled.{none_list}
use Rattle.vega_assemble.specs.Names.{none_name}
use Rattle.vega_assemble.specs.Sources.{source_written}
use Rattle.compiled_rows.proofs.ReadLemmas.{no_source}

-- ---- the sources

abbrev source_names : List Dataset → List (List ℕ)
source_names sources = map (λ (s : Dataset). s.name) sources

-- the scope behind data sets of these names, each with the rows of the source of its name
abbrev sourced : List Dataset → List (List ℕ) → Scope → Scope
sourced sources [] scope = scope
sourced sources (name ∷ names) scope = sourced sources names (with_list name (list_named sources name) scope)

sources_read : (values : Values) (sources : List Dataset) (ss : List SourceOf) (scope : Scope)
    → lists_of values sources scope (map source_written ss) ≡ Some (sourced sources (map (λ (s : SourceOf). s.name) ss) scope)
sources_read values sources [] scope = refl
sources_read values sources (s ∷ ss) scope = sources_read values sources ss (with_list s.name (list_named sources s.name) scope)

abbrev has_name : List ℕ → List (List ℕ) → Bool
has_name name names = list_any (λ other. bytes_eq other name) names

sourced_at : (sources : List Dataset) (names : List (List ℕ)) (scope : Scope) (name : List ℕ)
    → sourced sources names scope name ≡ (if has_name name names then list_named sources name else scope name)
sourced_at sources [] scope name = refl
sourced_at sources (first ∷ names) scope name =
    sourced_at sources names (with_list first (list_named sources first) scope) name ∙ by (has_name name names) (bytes_eq first name) refl
  where
    by : (a b : Bool) → bytes_eq first name ≡ b
        → (if a then list_named sources name else (if b then list_named sources first else scope name))
        ≡ (if b || a then list_named sources name else scope name)
    by true true e = refl
    by true false e = refl
    by false true e = ap (list_named sources) ((bytes_eq-Decides first name).0 e)
    by false false e = refl

-- a name that none of the sources has stands for nothing
abbrev if_named : List Dataset → List ℕ → List Datum
if_named sources name = if has_name name (source_names sources) then list_named sources name else []

nothing_there : (sources : List Dataset) (name : List ℕ) → if_named sources name ≡ list_named sources name
nothing_there [] name = refl
nothing_there (s ∷ sources) name = by (bytes_eq s.name name) (has_name name (source_names sources)) refl refl (nothing_there sources name)
  where
    by : (a b : Bool) → bytes_eq s.name name ≡ a → has_name name (source_names sources) ≡ b → if_named sources name ≡ list_named sources name
        → (if a || b then (if a then s.rows else list_named sources name) else []) ≡ (if a then s.rows else list_named sources name)
    by true b d e rest = refl
    by false true d e rest = refl
    by false false d e rest = sym (ap (λ t. if t then list_named sources name else []) e) ∙ rest

all_sourced : (sources : List Dataset) → sourced sources (source_names sources) no_lists ≡ list_named sources
all_sourced sources = λ i name. (sourced_at sources (source_names sources) no_lists name ∙ nothing_there sources name) i

-- all sources of a specification, over a state that has them
pub sources_first : (values : Values) (sources : List Dataset) (ss : List SourceOf) → source_names sources ≡ map (λ (s : SourceOf). s.name) ss
    → lists_of values sources no_lists (map source_written ss) ≡ Some (list_named sources)
sources_first values sources ss same =
    sources_read values sources ss no_lists ∙ ap (λ names. Some (sourced sources names no_lists)) (sym same) ∙ ap Some (all_sourced sources)

-- ---- the list without rows

value-Flag : (row : CellAt) (values : Values) (b : Bool) → value_of row values (expr.Flag b) ≡ Some (Flag b)
value-Flag row values b =
    ap (value_of row values) (sym (expr.rolls-Flag b)) ∙ fold-roll-Expr (Option Cell) (value_here row values) (node.Flag b)

whatever : {X : Type 0} (o : Option (List Bool)) (left : List X) → ((o >>= λ ys. Some (false ∷ ys)) >>= λ _. Some left) ≡ (o >>= λ _. Some left)
whatever None left = refl
whatever (Some ys) left = refl

-- a test that is never true leaves nothing
none_kept : {X : Type 0} (test : X → Option Bool) → ((x : X) → test x ≡ Some false) → (xs : List X) → kept test xs ≡ Some []
none_kept test each [] = refl
none_kept test each (x ∷ xs) =
    (λ i. (each x i >>= λ y. all_found (map test xs) >>= λ ys. Some (y ∷ ys)) >>= λ _.
    Some (if unwrap_or (each x i) false then x ∷ filter (λ z. unwrap_or (test z) false) xs else filter (λ z. unwrap_or (test z) false) xs))
    ∙ whatever (all_found (map test xs)) (filter (λ z. unwrap_or (test z) false) xs)
    ∙ none_kept test each xs

all_out : (values : Values) (rows : List Datum) → data_filtered values (expr.Flag false) rows ≡ Some []
all_out values rows =
    none_kept (λ (row : Datum). truth_of row.cell values (expr.Flag false)) (λ row. ap (option_map truth) (value-Flag row.cell values false)) rows

-- a list without rows under a name that stands for nothing
without_rows_at : (sources : List Dataset) (name : List ℕ) → All (λ other. other ≢ name) (source_names sources) → (other : List ℕ)
    → with_list name [] (list_named sources) other ≡ list_named sources other
without_rows_at sources name apart other = by (bytes_eq name other) refl
  where
    by : (b : Bool) → bytes_eq name other ≡ b → (if b then [] else list_named sources other) ≡ list_named sources other
    by true e = sym (no_source sources name apart) ∙ ap (list_named sources) ((bytes_eq-Decides name other).0 e)
    by false e = refl

without_rows : (sources : List Dataset) (name : List ℕ) → All (λ other. other ≢ name) (source_names sources)
    → with_list name [] (list_named sources) ≡ list_named sources
without_rows sources name apart = λ i other. without_rows_at sources name apart other i

pub none_next : (values : Values) (sources : List Dataset) (stem : List ℕ) (ss : List SourceOf) (others : List DataSet)
    → All (λ other. other ≢ none_name stem) (source_names sources)
    → lists_of values sources (list_named sources) (none_list stem ss ∷ others) ≡ lists_of values sources (list_named sources) others
none_next values sources stem ss others apart =
    ap (λ o. ((o >>= λ made. Some made) >>= λ rows. Some (with_list (none_name stem) rows (list_named sources))) >>= λ next. lists_of values sources next
    others)
    (all_out values _)
    ∙ ap (λ next. lists_of values sources next others) (without_rows sources (none_name stem) apart)
