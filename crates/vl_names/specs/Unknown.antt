-- Unknown names in views: in their transforms, their channels and their facets.
use Rattle.std.specs.Prelude.{not, Option, List, [], ◌++◌, codes, flat_map, map}
use Rattle.std.specs.Option.{option_map_or}
use Rattle.vl_spec.specs.declared.channels.Encoding.{Encoding}
use Rattle.vl_spec.specs.declared.transforms.Transform.{Transform}
use Rattle.vl_spec.specs.declared.transforms.Transform.TheVariants as transform
use Rattle.vl_spec.specs.declared.views.Facet.{Facet}
use Rattle.vl_trails.specs.declared.fault.RuleFault.{RuleFault}
use Rattle.vl_trails.specs.Faults.{wrong_if}
use Rattle.vl_trails.specs.Trails.{to_member}
use Rattle.vl_names.specs.Known.{Known, knows}
use Rattle.vl_names.specs.Filters.{Judged, each_item, filter_faults}
use Rattle.vl_names.specs.Channels.{encoding_faults, facet_faults}
use Rattle.vl_names.specs.Views.{ViewIn}

-- filters and computed cells alone mention names
abbrev pub transform_faults : Known → Transform → Judged
transform_faults known (transform.Filter filter) trail = filter_faults known filter (to_member trail (codes "filter"))
transform_faults known (transform.Calculate of) trail = wrong_if (not (knows known of.calculate)) (to_member trail (codes "calculate"))
transform_faults known (transform.Bin of) trail = []
transform_faults known (transform.TimeUnit of) trail = []
transform_faults known (transform.Aggregate of) trail = []
transform_faults known (transform.JoinAggregate of) trail = []
transform_faults known (transform.Stack of) trail = []
transform_faults known (transform.Window of) trail = []
transform_faults known (transform.Lookup of) trail = []
transform_faults known (transform.Fold of) trail = []

-- the transforms of a list
abbrev pub transforms_faults : Known → List Transform → Judged
transforms_faults known transforms = each_item (map (transform_faults known) transforms)

-- the encoding of a view, and its facet, which may be absent
abbrev pub encoding_part : Known → Option Encoding → Judged
encoding_part known encoding trail = option_map_or (λ (e : Encoding). encoding_faults known e (to_member trail (codes "encoding"))) encoding []

abbrev pub facet_part : Known → Option Facet → Judged
facet_part known facet trail = option_map_or (λ (f : Facet). facet_faults known f (to_member trail (codes "facet"))) facet []

-- a view, without the views in it
abbrev pub view_faults : Known → ViewIn → List RuleFault
view_faults known v =
    transforms_faults known v.transform (to_member v.trail (codes "transform"))
    ++ encoding_part known v.encoding v.trail
    ++ facet_part known v.facet v.trail

-- An unknown parameter or store is wrong in each expression, at each `param` of a filter, of a condition and of a domain.
abbrev pub unknown_in_views : Known → List ViewIn → List RuleFault
unknown_in_views known views = flat_map (view_faults known) views
