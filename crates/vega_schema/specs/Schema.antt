-- The schema of Vega specifications.
use Rattle.std.specs.Prelude.{List, ◌++◌}
use Rattle.spec_schema.specs.declared.layout.Layout.{Layout}
use Rattle.spec_schema.specs.declared.schema.Schema.{Schema}
use Rattle.vega_schema.specs.Shapes.{shapes}
use Rattle.vega_schema.specs.Words.{words}
use Rattle.vega_schema.specs.Guides.{all_guides}
use Rattle.vega_schema.specs.Sources.{all_sources}
use Rattle.vega_schema.specs.Transforms.{all_transforms}
use Rattle.vega_schema.specs.Groupings.{all_groupings}
use Rattle.vega_schema.specs.Signals.{all_signals}
use Rattle.vega_schema.specs.Scales.{all_scales}
use Rattle.vega_schema.specs.Domains.{all_domains}
use Rattle.vega_schema.specs.PlainMarks.{all_plain_marks}
use Rattle.vega_schema.specs.Marks.{all_marks}
use Rattle.vega_schema.specs.Channels.{all_channels}
use Rattle.vega_schema.specs.Sizes.{all_sizes}

-- some of the layouts
abbrev pub first_layouts : List Layout
first_layouts = all_guides ++ all_sources ++ all_transforms

-- some of the layouts
abbrev pub later_layouts : List Layout
later_layouts = all_groupings ++ all_signals ++ all_scales

-- some of the layouts
abbrev pub last_layouts : List Layout
last_layouts = all_domains ++ all_plain_marks ++ all_marks ++ all_channels ++ all_sizes

-- the layouts of all objects
abbrev pub layouts : List Layout
layouts = first_layouts ++ later_layouts ++ last_layouts

-- the rules of Vega specifications
unfoldable pub vega_schema : Schema
vega_schema = record { shapes = shapes; names = words; layouts = layouts }
