-- The titles of axes and legends. A definition has the title that its axis, or its legend, gives, else its own `title`, else its default: its
-- field, with `(binned)` behind it where it shows bins and with the unit in brackets where it shows a unit of time; of an aggregate the
-- operation before `of` and the field, and `Count of Records` for a count. A cell that is written has no default, and null adds nothing. Several
-- titles stand behind each other with `, ` between them, and equal ones once.
use Rattle.std.specs.Prelude.{◌≡◌, refl, ℕ, ◌==◌, Bool, true, false, Option, Some, None, List, [], ◌∷◌, ◌++◌, codes, unwrap_or, option_map}
use Rattle.std.specs.Prelude.{if◌then◌else◌}
use Rattle.std.specs.Option.{option_and_then, option_map_or, option_or}
use Rattle.std.specs.List.{fold}
use Rattle.scale_infer.specs.Types.{has_bins}
use Rattle.vl_spec.specs.declared.definitions.Bin.TheVariants as bin
use Rattle.vl_spec.specs.declared.definitions.Definition.{Definition}
use Rattle.vl_spec.specs.declared.definitions.Definition.TheVariants as definition
use Rattle.vl_spec.specs.declared.definitions.FieldDefinition.{FieldDefinition}
use Rattle.vl_spec.specs.declared.guides.Axis.{Axis}
use Rattle.vl_spec.specs.declared.guides.Legend.{Legend}
use Rattle.guide_infer.specs.Said.{axis_in, legend_in, title_member}
use Rattle.guide_infer.specs.Once.{each_once}
use Rattle.guide_infer.specs.Words.{operation_word, unit_word}

-- ---- of one definition

-- the title of an operation over a field
abbrev pub title_over : ℕ → List ℕ → List ℕ
title_over op field = operation_word op ++ codes " of " ++ field

-- that of an aggregate: a count needs no field, and others have none without a field
abbrev pub aggregate_title : Option (List ℕ) → ℕ → Option (List ℕ)
aggregate_title field op = if op == 0 then Some (codes "Count of Records") else option_map (title_over op) field

-- that of a field in a unit of time
abbrev pub in_unit : ℕ → List ℕ → List ℕ
in_unit unit field = field ++ codes " (" ++ unit_word unit ++ codes ")"

abbrev pub unit_title : Option (List ℕ) → ℕ → Option (List ℕ)
unit_title field unit = option_map (in_unit unit) field

-- that of a field in bins
abbrev pub in_bins : List ℕ → List ℕ
in_bins field = field ++ codes " (binned)"

-- that of a field without an aggregate
abbrev pub plain_title : FieldDefinition → Option (List ℕ)
plain_title f = if has_bins f.bin then option_map in_bins f.field else option_map_or (unit_title f.field) f.time_unit f.field

abbrev pub field_title : FieldDefinition → Option (List ℕ)
field_title f = option_map_or (aggregate_title f.field) f.aggregate (plain_title f)

-- the title of a definition that gives none
abbrev pub default_title : Definition → Option (List ℕ)
default_title (definition.Value cell) = None
default_title (definition.Datum d) = None
default_title (definition.Field f) = field_title f

-- the title that a definition adds to its axis, or to its legend; the inner option of what is given is None for null
abbrev pub given_or_default : Option (Option (List ℕ)) → Definition → Option (List ℕ)
given_or_default given d = unwrap_or (option_or given (title_member d)) (default_title d)

abbrev pub axis_title : Definition → Option (List ℕ)
axis_title d = given_or_default (option_and_then (λ (axis : Axis). axis.title) (axis_in d)) d

abbrev pub legend_title : Definition → Option (List ℕ)
legend_title d = given_or_default (option_and_then (λ (legend : Legend). legend.title) (legend_in d)) d

-- ---- of several

-- a title and another behind it
abbrev pub and_title : List ℕ → List ℕ → List ℕ
and_title titles title = titles ++ codes ", " ++ title

-- titles behind each other; none where there are none
abbrev pub behind_each_other : List (List ℕ) → Option (List ℕ)
behind_each_other [] = None
behind_each_other (title ∷ others) = Some (fold and_title title others)

-- the title of an axis or a legend by those of its definitions: equal ones once
abbrev pub joined_titles : List (List ℕ) → Option (List ℕ)
joined_titles titles = behind_each_other (each_once titles)

-- The rules at work.

-- a field with an aggregate, bins and a unit of time perhaps, and with a title perhaps
abbrev pub field_titled : Option (List ℕ) → Option ℕ → Bool → Option ℕ → Option (Option (List ℕ)) → Definition
field_titled field aggregate binned unit title = definition.Field record {
  field = field;
  type_ = None;
  aggregate = aggregate;
  bin = Some (bin.Flag binned);
  time_unit = unit;
  title = title;
  sort = None;
  scale = None;
  stack = None;
  axis = None;
  legend = None;
  header = None;
  format = None;
  columns = None;
  spacing = None;
}

abbrev of_f : Option (List ℕ)
of_f = Some (codes "f")

the_title_of_a_field : axis_title (field_titled of_f None false None None) ≡ of_f
the_title_of_a_field = refl

the_title_of_a_mean : axis_title (field_titled of_f (Some 5) true (Some 0) None) ≡ Some (codes "Mean of f")
unfolding operation_word
the_title_of_a_mean = refl

the_title_of_a_count : (axis_title (field_titled None (Some 0) false None None) ≡ Some (codes "Count of Records"))
    × (axis_title (field_titled of_f (Some 0) false None None) ≡ Some (codes "Count of Records"))
the_title_of_a_count = (refl, refl)

the_title_of_bins : legend_title (field_titled of_f None true (Some 0) None) ≡ Some (codes "f (binned)")
the_title_of_bins = refl

the_title_of_months : axis_title (field_titled of_f None false (Some 3) None) ≡ Some (codes "f (yearmonth)")
unfolding unit_word
the_title_of_months = refl

a_title_that_is_given : (axis_title (field_titled of_f None true None (Some (Some (codes "g")))) ≡ Some (codes "g"))
    × (axis_title (field_titled of_f None true None (Some None)) ≡ None)
a_title_that_is_given = (refl, refl)

titles_are_joined : joined_titles (codes "f" ∷ codes "g" ∷ codes "f" ∷ []) ≡ Some (codes "f, g")
titles_are_joined = refl

no_title : joined_titles [] ≡ None
no_title = refl
