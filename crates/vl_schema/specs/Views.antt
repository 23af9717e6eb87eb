-- The members of views.
use Rattle.std.specs.Prelude.{ℕ, Bool, true, false, None, List, [], ◌∷◌, ◌++◌, codes}
use Rattle.spec_schema.specs.declared.layout.Layout.{Layout}
use Rattle.spec_schema.specs.declared.layout.Rule.{Rule}
use Rattle.spec_schema.specs.declared.layout.Test.{Test}
use Rattle.spec_schema.specs.declared.layout.Test.TheVariants.{Has, Leads}
use Rattle.spec_schema.specs.Tables.{must, may}
use Rattle.vl_schema.specs.declared.codes.TheConstants.{AUTOSIZE, CONFIG, COUNT, DATA, DATASETS, ENCODING, FACET, FREE, LAYERS, LAYER_ENCODING}
use Rattle.vl_schema.specs.declared.codes.TheConstants.{MARK, PARAMETERS, RESOLVE, SIZE, SPACE, TEXT, TRANSFORMS, VIEW, VIEWS, VIEW_KINDS}

-- the members of any view
unfoldable pub any_view : List Rule
any_view =
    may (codes "name") TEXT ∷ may (codes "title") TEXT ∷ may (codes "data") DATA ∷
    may (codes "transform") TRANSFORMS ∷ may (codes "params") PARAMETERS ∷ may (codes "width") SIZE ∷
    may (codes "height") SIZE ∷ may (codes "resolve") RESOLVE ∷ may (codes "description") FREE ∷
    []

-- the members of the top view besides
unfoldable pub top_only : List Rule
top_only =
    may (codes "$schema") TEXT ∷ may (codes "config") CONFIG ∷ may (codes "datasets") DATASETS ∷
    may (codes "padding") SPACE ∷ may (codes "autosize") AUTOSIZE ∷ may (codes "usermeta") FREE ∷
    may (codes "background") FREE ∷
    []

-- the members that a view has besides those of its kind
abbrev pub view_members : Bool → List Rule
view_members true = any_view ++ top_only
view_members false = any_view

-- a view: its object, whether it is the top, what tells its kind, and the members of its kind
abbrev pub view : ℕ → Bool → List Test → List Rule → Layout
view object top tests kind = record { object = object; when = tests; rules = kind ++ view_members top; others = None }

-- a unit, with the channels that may stand there
unfoldable pub unit_view : ℕ → ℕ → Bool → List Test → Layout
unit_view object channels top tests = view object top tests
    (must (codes "mark") MARK ∷ may (codes "encoding") channels ∷ [])

-- a layered view
unfoldable pub layered_view : ℕ → Bool → Layout
layered_view object top = view object top (Leads VIEW_KINDS (codes "layer") ∷ [])
    (must (codes "layer") LAYERS ∷ may (codes "encoding") LAYER_ENCODING ∷ [])

-- a faceted view
unfoldable pub faceted_view : ℕ → Bool → List Test → Layout
faceted_view object top tests = view object top tests
    (must (codes "facet") FACET ∷ must (codes "spec") VIEW ∷ may (codes "columns") COUNT ∷ may (codes "spacing") SPACE ∷ [])

-- views side by side
unfoldable pub row_view : ℕ → Bool → Layout
row_view object top = view object top (Leads VIEW_KINDS (codes "hconcat") ∷ [])
    (must (codes "hconcat") VIEWS ∷ may (codes "spacing") SPACE ∷ [])

-- views one below the other
unfoldable pub column_view : ℕ → Bool → Layout
column_view object top = view object top (Leads VIEW_KINDS (codes "vconcat") ∷ [])
    (must (codes "vconcat") VIEWS ∷ may (codes "spacing") SPACE ∷ [])

-- views in a grid
unfoldable pub grid_view : ℕ → Bool → Layout
grid_view object top = view object top (Leads VIEW_KINDS (codes "concat") ∷ [])
    (must (codes "concat") VIEWS ∷ may (codes "spacing") SPACE ∷ may (codes "columns") COUNT ∷ [])

-- units, layered and faceted views, by their first deciding member
unfoldable pub led_views : ℕ → Bool → List Layout
led_views object top =
    unit_view object ENCODING top (Leads VIEW_KINDS (codes "mark") ∷ []) ∷ layered_view object top ∷
    faceted_view object top (Leads VIEW_KINDS (codes "facet") ∷ []) ∷
    []

-- joined views
unfoldable pub joined_views : ℕ → Bool → List Layout
joined_views object top = row_view object top ∷ column_view object top ∷ grid_view object top ∷ []

-- views without a deciding member: a `spec` makes them faceted, and all others are units
unfoldable pub other_views : ℕ → Bool → List Layout
other_views object top = faceted_view object top (Has (codes "spec") ∷ []) ∷ unit_view object ENCODING top [] ∷ []

-- the views of a place
unfoldable pub views : ℕ → Bool → List Layout
views object top = led_views object top ++ joined_views object top ++ other_views object top
