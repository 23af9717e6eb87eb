-- Lists that are made of others row by row, under names of their own, have no cells but theirs in all other fields; nor have those of which some rows are
-- dropped, or that group by these fields. Such are all lists that a compiled facet parts beside its units' rows: the cells and ranks of domains, the keys of
-- facets, and the lists of drags.
use Rattle.std.specs.Prelude.{◌≡◌, ℕ, ◌&&◌, not, Bool, true, false, Option, Some, None, List, [], ◌∷◌, All, map}
use Rattle.std.specs.List.{AllZip, list_all}
use Rattle.std.specs.Option.{option_map_or}
use Rattle.cell_value.specs.Datum.{Datum}
use Rattle.cell_value.specs.State.{ReadsItsId}
use Rattle.expr_eval.specs.Values.{Values}
use Rattle.plain_rows.specs.declared.transforms.GroupOf.{GroupOf}
use Rattle.plain_rows.specs.declared.transforms.OpOf.{OpOf}
use Rattle.plain_facets.specs.Facets.{key_of}
use Rattle.vega_spec.specs.declared.transforms.Transform.{Transform}
use Rattle.vega_spec.specs.declared.transforms.Transform.TheVariants as vega
use Rattle.vega_lists.specs.Operations.{group_settings, window_settings}
use Rattle.vega_lists.specs.Scopes.{Scope}
use Rattle.vega_lists.specs.Settings.{lookup_settings}
use Rattle.vega_lists.specs.Transforms.{all_transformed}
use Rattle.compiled_rows.specs.Parts.{is_one_of, AreCovered}

-- row by row the same cells in some fields
abbrev pub Follows : List (List ℕ) → List Datum → List Datum → Type 0
Follows names rows made = AllZip (λ row other. key_of names row ≡ key_of names other) rows made

-- the names under which a transform puts cells into each row; None where it does something else
abbrev pub puts : Transform → Option (List (List ℕ))
puts (vega.Filter f) = None
puts (vega.Formula f) = Some (f.as_ ∷ [])
puts (vega.Extent e) = None
puts (vega.Bin b) = None
puts (vega.TimeUnit t) = None
puts (vega.Aggregate a) = None
puts (vega.JoinAggregate a) = None
puts (vega.Stack s) = None
puts (vega.Window w) = Some (map (λ (op : OpOf). op.out) (window_settings w).ops)
puts (vega.Lookup l) = Some ((lookup_settings l).outs)
puts (vega.Fold f) = None

-- whether a name is none of some, and whether a transform puts cells under such names alone
abbrev pub is_outside : List (List ℕ) → List ℕ → Bool
is_outside names name = not (is_one_of names name)

abbrev pub leaves_cells : List (List ℕ) → Transform → Bool
leaves_cells names t = option_map_or (list_all (is_outside names)) (puts t) false

-- whether it adds no cell in some fields, as it leaves them, or drops rows, or groups by these fields and gives nothing under them
abbrev pub groups_by : List (List ℕ) → GroupOf → Bool
groups_by names g = list_all (is_one_of g.groupby) names && list_all (is_outside names) (map (λ (op : OpOf). op.out) g.ops)

abbrev pub adds_none : List (List ℕ) → Transform → Bool
adds_none names (vega.Filter f) = true
adds_none names (vega.Formula f) = leaves_cells names (vega.Formula f)
adds_none names (vega.Extent e) = false
adds_none names (vega.Bin b) = false
adds_none names (vega.TimeUnit t) = false
adds_none names (vega.Aggregate a) = groups_by names (group_settings a)
adds_none names (vega.JoinAggregate a) = false
adds_none names (vega.Stack s) = false
adds_none names (vega.Window w) = leaves_cells names (vega.Window w)
adds_none names (vega.Lookup l) = leaves_cells names (vega.Lookup l)
adds_none names (vega.Fold f) = false

-- Transforms that do make rows with the same cells in the fields, one of each.
abbrev pub TransformsFollow : Type 0
TransformsFollow = (values : Values) (scope : Scope) (names : List (List ℕ)) (ts : List Transform) (rows made : List Datum)
    → list_all (leaves_cells names) ts ≡ true → all_transformed values scope ts rows ≡ Some made → Follows names rows made

-- Such rows have no other cells there.
abbrev pub FollowersAreCovered : Type 0
FollowersAreCovered = (names : List (List ℕ)) (rows made : List Datum) → Follows names rows made → AreCovered names rows made

-- Transforms that add none make rows that have no other cells there. The rows have to read their ids, as a group's row does.
abbrev pub TransformsAddNone : Type 0
TransformsAddNone = (values : Values) (scope : Scope) (names : List (List ℕ)) (ts : List Transform) (rows made : List Datum)
    → list_all (adds_none names) ts ≡ true → All ReadsItsId rows → all_transformed values scope ts rows ≡ Some made → AreCovered names rows made
