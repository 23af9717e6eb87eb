-- The parts of the tree of bars.
use Rattle.std.proofs.Common.{◌≡◌, ℕ, List, [], ◌∷◌, refl}
use Rattle.std.specs.Prelude.{codes, true, false, Some, None}
use Rattle.json_exact.specs.declared.json.Json.{Json, Null, Flag, Number, Huge, Text, List', Object'}
use Rattle.json_exact.specs.declared.json.Json.TheVariants as json
use Rattle.spec_walk.specs.Walk.{seen_in}
use Rattle.vega_schema.specs.Schema.{vega_schema}
use Rattle.vega_schema.specs.declared.codes.TheConstants.{FREE, TOP, DATA, DATA_LIST}
use Rattle.vega_parts.specs.declared.part.Part.{Part}
use Rattle.vega_parts.specs.declared.part.Part.TheVariants as part
use Rattle.vega_parts.specs.declared.part.Given.TheVariants as give
use Rattle.vega_parts.specs.declared.part.Used.TheVariants as for_
use Rattle.vega_parts.specs.declared.part.ScaleTraits.{ScaleTraits}
use Rattle.vega_parts.specs.declared.part.ScaleType.TheVariants as type
use Rattle.vega_parts.specs.declared.part.RangeKind.TheVariants as range
use Rattle.vega_parts.specs.Trails.{Trail, noted}
use Rattle.vega_parts.specs.Names.{given, used}
use Rattle.vega_parts.specs.Parts.{parts_of, parts_at}
use Rattle.expr_syntax.specs.declared.expr.Expr.{Expr}
use Rattle.expr_syntax.specs.Expressions.{has_domain_length}
use Rattle.expr_reading.specs.Readings.{expression_of}
use Rattle.expr_reading.specs.Mentions.{parameters_in, selections_in, scales_in}
use Rattle.vega_schema.specs.Shapes.{leaves, named, lists, objects}
use Rattle.vega_schema.specs.Guides.{group_mark, axis, legend, grid_layout, top}
use Rattle.vega_schema.specs.Sources.{data_set, data_format, parse, sort, extent_signal}
use Rattle.vega_schema.specs.Transforms.{filter, formula, extent, bin, time_unit, stack, fold}
use Rattle.vega_schema.specs.Groupings.{aggregate, join_aggregate, window, lookup, no_transform}
use Rattle.vega_schema.specs.Signals.{signal, on_event, expression_signal}
use Rattle.vega_schema.specs.Scales.{linear_scale, time_scale, band_scale, point_scale, ordinal_scale, no_scale}
use Rattle.vega_schema.specs.Domains.{domain_of_signal, domain_of_field, domain_of_fields, reference, sort_by_operation, sort_by_cells}
use Rattle.vega_schema.specs.PlainMarks.{rect_mark, symbol_mark, line_mark, area_mark, rule_mark, text_mark}
use Rattle.vega_schema.specs.Marks.{mark_from, group_from, facet, cross, encode, no_mark}
use Rattle.vega_schema.specs.Channels.{channel_members, value, words_value}
use Rattle.vega_schema.specs.Sizes.{size_signal, group_encode, group_channels, size_value}
use Rattle.vega_schema.specs.Words.{continuous_names, discrete_names}
use Rattle.json_exact.specs.declared.json.Json.{out-Json}
use Rattle.json_exact.specs.declared.json.Json.TheBlock.{hidden-the_row-Json-0, hidden-the_row-Member-1}
use Rattle.json_exact.specs.declared.json.Json.TheBlock.{shown-the_row-Json-0, shown-the_row-Member-1}
use Rattle.compiled_bars.proofs.Tree.{tree, data_set as data_tree}

-- a free value gives no parts
pub free_gives_none : (tree : Json) (number : ℕ) (trail : Trail) → seen_in vega_schema noted parts_at tree number FREE trail ≡ []
unfolding vega_schema leaves
free_gives_none Null number trail = refl
free_gives_none (Flag b) number trail = refl
free_gives_none (Number n) number trail = refl
free_gives_none Huge number trail = refl
free_gives_none (Text t) number trail = refl
free_gives_none (List' size items) number trail = refl
free_gives_none (Object' size members) number trail = refl

-- what the rules ask of the two scales
abbrev pub x_traits : ScaleTraits
x_traits = record { type_ = type.Band; range = range.Width; in_plot = false }

abbrev pub y_traits : ScaleTraits
y_traits = record { type_ = type.Linear; range = range.Height; in_plot = false }

-- the scale at a place of this name
abbrev pub scale : ℕ → List ℕ → ScaleTraits → Part
scale number name traits = part.Given (record {
  kind = give.Scale;
  scope = [];
  of = 1 ∷ number ∷ [];
  at = 1 ∷ number ∷ 0 ∷ [];
  name = name;
  scale = Some traits;
})

-- the parts of the tree
abbrev pub parts : List ℕ → List Part
parts name =
    part.Plot [] ∷
    part.Data (0 ∷ 0 ∷ []) ∷
    given give.Data [] (0 ∷ 0 ∷ []) (0 ∷ 0 ∷ 0 ∷ []) name ∷
    given give.Source [] (0 ∷ 0 ∷ []) (0 ∷ 0 ∷ 0 ∷ []) name ∷
    scale 0 (codes "x") x_traits ∷
    used for_.Domain [] (1 ∷ 0 ∷ 2 ∷ 0 ∷ []) name ∷
    scale 1 (codes "y") y_traits ∷
    used for_.Domain [] (1 ∷ 1 ∷ 2 ∷ 0 ∷ []) name ∷
    part.Mark (2 ∷ 0 ∷ []) [] None false ∷
    used for_.MarkRows [] (2 ∷ 0 ∷ 1 ∷ 0 ∷ []) name ∷
    used for_.Scale [] (2 ∷ 0 ∷ 2 ∷ 0 ∷ 0 ∷ 1 ∷ []) (codes "x") ∷
    used for_.Scale [] (2 ∷ 0 ∷ 2 ∷ 0 ∷ 1 ∷ 0 ∷ []) (codes "x") ∷
    used for_.Scale [] (2 ∷ 0 ∷ 2 ∷ 0 ∷ 2 ∷ 1 ∷ []) (codes "y") ∷
    used for_.Scale [] (2 ∷ 0 ∷ 2 ∷ 0 ∷ 3 ∷ 1 ∷ []) (codes "y") ∷
    used for_.Scale [] (4 ∷ 0 ∷ []) (codes "x") ∷
    []

-- the tree has these parts, whatever its values, where the width is an expression that reads as one that counts the domain of `x`
-- and mentions nothing else
pub parts_are : (name x y expression : List ℕ) (values : Json) (e : Expr) →
    expression_of expression ≡ Some e → has_domain_length e ≡ true → parameters_in e ≡ [] → selections_in e ≡ [] →
    scales_in e ≡ codes "x" ∷ [] → parts_of (tree name x y values expression) ≡ parts name
unfolding vega_schema leaves named lists objects group_mark axis legend grid_layout top data_set data_format parse sort extent_signal
    filter formula extent bin time_unit stack fold aggregate join_aggregate window lookup no_transform signal on_event expression_signal
    linear_scale time_scale band_scale point_scale ordinal_scale no_scale domain_of_signal domain_of_field domain_of_fields reference
    sort_by_operation sort_by_cells rect_mark symbol_mark line_mark area_mark rule_mark text_mark mark_from group_from facet cross
    encode no_mark channel_members value words_value size_signal group_encode group_channels size_value continuous_names discrete_names
    out-Json hidden-the_row-Json-0 hidden-the_row-Member-1 shown-the_row-Json-0 shown-the_row-Member-1 denote.Hole.Carrier.out
    denote.Hole.Carrier.hidden denote.Hole.Carrier.shown
parts_are name x y expression values e reads long parameters selections scales =
    let round : Trail = noted 0 DATA (data_tree name values) ∷ noted 0 DATA_LIST (json.List (data_tree name values ∷ []))
    ∷ noted 0 TOP (tree name x y values expression) ∷ [] in
    let none : seen_in vega_schema noted parts_at values 1 FREE round ≡ [] = free_gives_none values 1 round in
    rw (none, reads, long, parameters, selections, scales) (refl {a = parts name})
