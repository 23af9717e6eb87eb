-- The parts of a Vega specification.
use Rattle.std.specs.Prelude.{ℕ, ◌==◌, Bool, true, false, ◌||◌, if◌then◌else◌, List, [], ◌∷◌, ◌++◌, codes}
use Rattle.json_exact.specs.declared.json.Json.{Json}
use Rattle.spec_walk.specs.Walk.{seen_in}
use Rattle.vega_schema.specs.Schema.{vega_schema}
use Rattle.vega_schema.specs.declared.codes.TheConstants.{AXIS, CHANNEL, DATA, EXPRESSION, EXTENT, FACET, LABEL_FORMAT, LEGEND, MARK}
use Rattle.vega_schema.specs.declared.codes.TheConstants.{MARK_FROM, REFERENCE, SCALE, SCALE_DOMAIN, SIGNAL, SIZE_CHANNEL, SIZE_EXPRESSION}
use Rattle.vega_schema.specs.declared.codes.TheConstants.{SIZE_VALUE, SORT, TOP, TRANSFORM, VALUE, WORDS_CHANNEL, WORDS_VALUE}
use Rattle.vega_parts.specs.declared.part.Part.{Part}
use Rattle.vega_parts.specs.declared.part.Used.TheVariants as for_
use Rattle.vega_parts.specs.Trails.{Trail, noted}
use Rattle.vega_parts.specs.Names.{used_member}
use Rattle.vega_parts.specs.Data.{data_parts}
use Rattle.vega_parts.specs.Transforms.{transform_parts}
use Rattle.vega_parts.specs.Lengths.{sort_parts}
use Rattle.vega_parts.specs.Signals.{signal_names, on_in_group, mark_names, selectors}
use Rattle.vega_parts.specs.Selections.{update_parts}
use Rattle.vega_parts.specs.Scales.{scale_parts, for_size, legend_parts}
use Rattle.vega_parts.specs.Marks.{plot_parts, mark_parts}
use Rattle.vega_parts.specs.Facets.{facet_parts}
use Rattle.vega_parts.specs.Expressions.{expression_parts}
use Rattle.vega_parts.specs.LabelFormats.{label_format_parts}

-- what a signal gives of itself
abbrev pub signal_itself : Trail → Json → List Part
signal_itself trail tree = signal_names trail tree ++ on_in_group trail tree ++ mark_names trail tree

-- and by its events
abbrev pub signal_parts : Trail → Json → List Part
signal_parts trail tree = signal_itself trail tree ++ selectors trail tree ++ update_parts trail tree

-- what values hold no others give
abbrev pub leaf_parts : ℕ → Trail → Json → List Part
leaf_parts shape trail tree = if shape == EXPRESSION then expression_parts false trail tree
    else (if shape == SIZE_EXPRESSION then expression_parts true trail tree
    else (if shape == LABEL_FORMAT then label_format_parts trail tree else []))

-- what those give that have a member which uses a name: the signal of an extent, a domain, a reference to a field, the rows of a mark
abbrev pub use_parts : ℕ → Trail → Json → List Part
use_parts shape trail tree = if shape == EXTENT then used_member for_.Signal (codes "signal") trail tree
    else (if shape == SCALE_DOMAIN || shape == REFERENCE then used_member for_.Domain (codes "data") trail tree
    else (if shape == MARK_FROM then used_member for_.MarkRows (codes "data") trail tree else leaf_parts shape trail tree))

-- a value of a channel, or an item of a list of them
abbrev pub is_value : ℕ → Bool
is_value shape = shape == CHANNEL || shape == VALUE || shape == WORDS_CHANNEL || shape == WORDS_VALUE

-- one of a channel that gives the size of a plot
abbrev pub is_size : ℕ → Bool
is_size shape = shape == SIZE_CHANNEL || shape == SIZE_VALUE

-- what the values of channels, axes and legends give
abbrev pub guide_parts : ℕ → Trail → Json → List Part
guide_parts shape trail tree = if is_value shape || shape == AXIS then used_member for_.Scale (codes "scale") trail tree
    else (if is_size shape then used_member (for_size trail) (codes "scale") trail tree
    else (if shape == LEGEND then legend_parts trail tree else use_parts shape trail tree))

-- what the top, marks, facets and scales give
abbrev pub mark_side : ℕ → Trail → Json → List Part
mark_side shape trail tree = if shape == TOP then plot_parts trail
    else (if shape == MARK then mark_parts trail tree
    else (if shape == FACET then facet_parts trail tree
    else (if shape == SCALE then scale_parts trail tree else guide_parts shape trail tree)))

-- what a value of a shape gives
abbrev pub by_shape : ℕ → Trail → Json → List Part
by_shape shape trail tree = if shape == DATA then data_parts trail tree
    else (if shape == TRANSFORM then transform_parts trail tree
    else (if shape == SORT then sort_parts trail tree
    else (if shape == SIGNAL then signal_parts trail tree else mark_side shape trail tree)))

-- what the visit of a value gives
abbrev pub parts_at : Trail → Json → List Part
parts_at [] tree = []
parts_at (here ∷ round) tree = by_shape here.shape (here ∷ round) tree

-- the parts of a specification, in the order of the text
abbrev pub parts_of : Json → List Part
parts_of tree = seen_in vega_schema noted parts_at tree 0 TOP []
