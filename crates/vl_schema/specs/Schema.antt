-- The schema of Vega-Lite specifications.
use Rattle.std.specs.Prelude.{true, false, List, ◌++◌}
use Rattle.spec_schema.specs.declared.layout.Layout.{Layout}
use Rattle.spec_schema.specs.declared.schema.Schema.{Schema}
use Rattle.vl_schema.specs.Shapes.{shapes}
use Rattle.vl_schema.specs.Words.{words}
use Rattle.vl_schema.specs.Views.{views}
use Rattle.vl_schema.specs.Layers.{all_layers}
use Rattle.vl_schema.specs.Sources.{all_sources}
use Rattle.vl_schema.specs.Parameters.{all_parameters}
use Rattle.vl_schema.specs.Marks.{all_marks}
use Rattle.vl_schema.specs.Channels.{all_channels, channels_of}
use Rattle.vl_schema.specs.Facets.{all_facets}
use Rattle.vl_schema.specs.Conditions.{conditions_of}
use Rattle.vl_schema.specs.Filters.{all_filters}
use Rattle.vl_schema.specs.Transforms.{all_transforms}
use Rattle.vl_schema.specs.Operations.{all_operations}
use Rattle.vl_schema.specs.Guides.{all_guides}
use Rattle.vl_schema.specs.Sizes.{all_sizes}
use Rattle.vl_schema.specs.declared.codes.TheConstants.{AXIS, CHANNEL, CONDITION, CONDITIONS, TOP, VIEW, X_AXIS, X_CHANNEL, X_CONDITION}
use Rattle.vl_schema.specs.declared.codes.TheConstants.{X_CONDITIONS, Y_AXIS, Y_CHANNEL, Y_CONDITION, Y_CONDITIONS}

-- the layouts of views
unfoldable pub view_layouts : List Layout
view_layouts = views TOP true ++ views VIEW false ++ all_layers

-- those of sources, parameters and marks
unfoldable pub source_layouts : List Layout
source_layouts = all_sources ++ all_parameters ++ all_marks

-- those of channels and facets
unfoldable pub channel_layouts : List Layout
channel_layouts =
    all_channels ++ channels_of X_CHANNEL X_AXIS X_CONDITIONS ++ channels_of Y_CHANNEL Y_AXIS Y_CONDITIONS ++ channels_of CHANNEL AXIS CONDITIONS ++ all_facets

-- those of conditions and filters
unfoldable pub condition_layouts : List Layout
condition_layouts =
    conditions_of X_CONDITION X_AXIS X_CONDITIONS ++ conditions_of Y_CONDITION Y_AXIS Y_CONDITIONS ++ conditions_of CONDITION AXIS CONDITIONS ++ all_filters

-- those of transforms, guides and sizes
unfoldable pub other_layouts : List Layout
other_layouts = all_transforms ++ all_operations ++ all_guides ++ all_sizes

-- the layouts of all objects
unfoldable pub layouts : List Layout
layouts = view_layouts ++ source_layouts ++ channel_layouts ++ condition_layouts ++ other_layouts

-- the rules of Vega-Lite specifications
unfoldable pub vl_schema : Schema
vl_schema = record { shapes = shapes; names = words; layouts = layouts }
