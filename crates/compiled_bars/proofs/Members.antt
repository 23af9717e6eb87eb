-- Bars have no fault by the table of members.
use Rattle.std.proofs.Common.{◌≡◌, ℕ, List, [], refl}
use Rattle.json_exact.specs.declared.json.Json.{Json, Null, Flag, Number, Huge, Text, List', Object'}
use Rattle.spec_schema.specs.Faults.{faults_in}
use Rattle.vega_schema.specs.Schema.{vega_schema}
use Rattle.vega_schema.specs.declared.codes.TheConstants.{FREE, TOP}
use Rattle.vega_schema.specs.Shapes.{leaves, named, lists, objects}
use Rattle.vega_schema.specs.Guides.{group_mark, axis, legend, grid_layout, top}
use Rattle.vega_schema.specs.Sources.{data_set, data_format, parse, sort, extent_signal}
use Rattle.vega_schema.specs.Transforms.{filter, formula, extent, bin, time_unit, stack, fold}
use Rattle.vega_schema.specs.Groupings.{aggregate, join_aggregate, window, lookup, no_transform}
use Rattle.vega_schema.specs.Signals.{signal, on_event, expression_signal}
use Rattle.vega_schema.specs.Scales.{linear_scale, time_scale, band_scale, point_scale, ordinal_scale, no_scale}
use Rattle.vega_schema.specs.Domains.{domain_of_signal, domain_of_field, domain_of_fields, reference, sort_by_operation, sort_by_cells}
use Rattle.vega_schema.specs.PlainMarks.{rect_mark, symbol_mark, line_mark, area_mark, rule_mark, text_mark}
use Rattle.vega_schema.specs.Marks.{mark_from, group_from, facet, cross, encode, no_mark}
use Rattle.vega_schema.specs.Channels.{channel_members, value, words_value}
use Rattle.vega_schema.specs.Sizes.{size_signal, group_encode, group_channels, size_value}
use Rattle.vega_schema.specs.Words.{continuous_names, discrete_names}
use Rattle.json_exact.specs.declared.json.Json.{out-Json}
use Rattle.json_exact.specs.declared.json.Json.TheBlock.{hidden-the_row-Json-0, hidden-the_row-Member-1}
use Rattle.json_exact.specs.declared.json.Json.TheBlock.{shown-the_row-Json-0, shown-the_row-Member-1}
use Rattle.compiled_bars.proofs.Tree.{tree}

-- a free value has no fault
pub free_is_fine : (tree : Json) → faults_in vega_schema tree FREE ≡ []
unfolding vega_schema leaves
free_is_fine Null = refl
free_is_fine (Flag b) = refl
free_is_fine (Number n) = refl
free_is_fine Huge = refl
free_is_fine (Text t) = refl
free_is_fine (List' size items) = refl
free_is_fine (Object' size members) = refl

-- bars have no fault by the table of members
pub no_fault : (name x y expression : List ℕ) (values : Json) → faults_in vega_schema (tree name x y values expression) TOP ≡ []
unfolding vega_schema leaves named lists objects group_mark axis legend grid_layout top data_set data_format parse sort extent_signal
    filter formula extent bin time_unit stack fold aggregate join_aggregate window lookup no_transform signal on_event expression_signal
    linear_scale time_scale band_scale point_scale ordinal_scale no_scale domain_of_signal domain_of_field domain_of_fields reference
    sort_by_operation sort_by_cells rect_mark symbol_mark line_mark area_mark rule_mark text_mark mark_from group_from facet cross
    encode no_mark channel_members value words_value size_signal group_encode group_channels size_value continuous_names discrete_names
    out-Json hidden-the_row-Json-0 hidden-the_row-Member-1 shown-the_row-Json-0 shown-the_row-Member-1 denote.Hole.Carrier.out
    denote.Hole.Carrier.hidden denote.Hole.Carrier.shown
no_fault name x y expression values = rw (free_is_fine values) refl
