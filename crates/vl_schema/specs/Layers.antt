-- The members of views in a layer: units and layers stand there, and another view has no place for the member that decides.
use Rattle.std.specs.Prelude.{false, List, [], ◌∷◌, ◌++◌, codes}
use Rattle.spec_schema.specs.declared.layout.Layout.{Layout}
use Rattle.spec_schema.specs.declared.layout.Test.TheVariants.{Has, Leads}
use Rattle.spec_schema.specs.Tables.{may}
use Rattle.vl_schema.specs.declared.codes.TheConstants.{COUNT, LAYER_ENCODING, LAYER_VIEW, SPACE, VIEW, VIEW_KINDS}
use Rattle.vl_schema.specs.Views.{view, unit_view, layered_view}

-- a faceted view in a layer
unfoldable pub faceted_in_layer : Layout
faceted_in_layer = view LAYER_VIEW false (Leads VIEW_KINDS (codes "facet") ∷ [])
    (may (codes "spec") VIEW ∷ may (codes "columns") COUNT ∷ may (codes "spacing") SPACE ∷ [])

-- views side by side in a layer
unfoldable pub row_in_layer : Layout
row_in_layer = view LAYER_VIEW false (Leads VIEW_KINDS (codes "hconcat") ∷ [])
    (may (codes "spacing") SPACE ∷ [])

-- views one below the other in a layer
unfoldable pub column_in_layer : Layout
column_in_layer = view LAYER_VIEW false (Leads VIEW_KINDS (codes "vconcat") ∷ [])
    (may (codes "spacing") SPACE ∷ [])

-- views in a grid in a layer
unfoldable pub grid_in_layer : Layout
grid_in_layer = view LAYER_VIEW false (Leads VIEW_KINDS (codes "concat") ∷ [])
    (may (codes "spacing") SPACE ∷ may (codes "columns") COUNT ∷ [])

-- a faceted view in a layer that has its `spec` alone
unfoldable pub spec_in_layer : Layout
spec_in_layer = view LAYER_VIEW false (Has (codes "spec") ∷ [])
    (may (codes "columns") COUNT ∷ may (codes "spacing") SPACE ∷ [])

-- units and layers, by their first deciding member
unfoldable pub led_layers : List Layout
led_layers = unit_view LAYER_VIEW LAYER_ENCODING false (Leads VIEW_KINDS (codes "mark") ∷ []) ∷ layered_view LAYER_VIEW false ∷ []

-- other views, and units without a deciding member
unfoldable pub other_layers : List Layout
other_layers =
    faceted_in_layer ∷ row_in_layer ∷ column_in_layer ∷ grid_in_layer ∷ spec_in_layer ∷
    unit_view LAYER_VIEW LAYER_ENCODING false [] ∷
    []

-- all of these
unfoldable pub all_layers : List Layout
all_layers = led_layers ++ other_layers
