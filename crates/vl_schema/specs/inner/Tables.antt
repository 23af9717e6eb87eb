-- Layouts as the code's tables have them. No public clause cites this.
use Rattle.std.specs.Prelude.{ℕ, Bool, List, map}
use Rattle.spec_schema.specs.declared.layout.Layout.{Layout}
use Rattle.spec_schema.specs.Rows.{rule_of, test_of, layout_by}
use Rattle.vl_schema.specs.declared.codes.TheConstants.{AXIS, CHANNEL, CONDITION, CONDITIONS, X_AXIS, X_CHANNEL, X_CONDITION, X_CONDITIONS}
use Rattle.vl_schema.specs.declared.codes.TheConstants.{Y_AXIS, Y_CHANNEL, Y_CONDITION, Y_CONDITIONS}
use Rattle.vl_schema.specs.declared.tables.Table.{Table}
use Rattle.vl_schema.specs.declared.views.Kind.{Kind}
use Rattle.vl_schema.specs.Channels.{channels_of}
use Rattle.vl_schema.specs.Conditions.{conditions_of}
use Rattle.vl_schema.specs.Views.{view}

-- the layout that a table writes
abbrev pub layout_of : Table → Layout
layout_of t = layout_by t.object t.whens.now t.rows.now t.others

-- the layout of a view of a kind
abbrev pub view_of : ℕ → Bool → Kind → Layout
view_of object top k = view object top (map test_of k.whens.now) (map rule_of k.rows.now)

-- the definitions of x, of y and of any other channel
abbrev pub x_channels : List Layout
x_channels = channels_of X_CHANNEL X_AXIS X_CONDITIONS

abbrev pub y_channels : List Layout
y_channels = channels_of Y_CHANNEL Y_AXIS Y_CONDITIONS

abbrev pub other_channels : List Layout
other_channels = channels_of CHANNEL AXIS CONDITIONS

-- the conditions of x, of y and of any other channel
abbrev pub x_conditions : List Layout
x_conditions = conditions_of X_CONDITION X_AXIS X_CONDITIONS

abbrev pub y_conditions : List Layout
y_conditions = conditions_of Y_CONDITION Y_AXIS Y_CONDITIONS

abbrev pub other_conditions : List Layout
other_conditions = conditions_of CONDITION AXIS CONDITIONS
