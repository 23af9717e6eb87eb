-- What drags invert. Along a channel a drag of a selection inverts in each plot the scale of that plot. Where this is one and the same scale in all plots, its
-- name is that. Else each plot has a copy of its scale, and all copies have one name. A copy stands in its plot, so it reads its rows from lists that only
-- that facet parts in whose panels its scale stands once, and those round it: a data set for each reference of its domain, with the rows of that list.
use Rattle.std.specs.Prelude.{◌≡◌, refl, ℕ, ◌==◌, ◌&&◌, Bool, true, false, not, Option, None, List, [], ◌∷◌, map, flat_map, filter, find}
use Rattle.std.specs.Prelude.{if◌then◌else◌, slice_get}
use Rattle.std.specs.List.{enumerate_from, list_any, list_all, filter_map}
use Rattle.std.specs.Option.{option_map, option_and_then}
use Rattle.vega_spec.specs.declared.data.DataSet.{DataSet}
use Rattle.vega_spec.specs.declared.domains.Domain.{Domain}
use Rattle.vega_spec.specs.declared.domains.Domain.TheVariants as domain
use Rattle.vega_spec.specs.declared.domains.Reference.{Reference}
use Rattle.vega_spec.specs.declared.scales.Scale.{Scale}
use Rattle.vl_normalize.specs.declared.codes.TheConstants.{X, Y}
use Rattle.plan_kit.specs.declared.domains.DomainPlan.{DomainPlan}
use Rattle.plan_kit.specs.declared.domains.DomainPlan.TheVariants as plan
use Rattle.plan_kit.specs.declared.scales.ScalePlan.{ScalePlan}
use Rattle.plan_kit.specs.declared.selections.DragPlan.{DragPlan}
use Rattle.plan_kit.specs.declared.selections.SelectionPlan.{SelectionPlan}
use Rattle.plan_kit.specs.Among.{is_among}
use Rattle.vega_assemble.specs.Domains.{reference, referred}
use Rattle.vega_assemble.specs.Names.{scale_name, drag_name, outer_name}
use Rattle.vega_assemble.specs.Scales.{scale_over}
use Rattle.vega_assemble.specs.Sources.{list_made}

-- ---- scales of drags

-- the drags of a selection along a channel, and the numbers of their scales
abbrev pub is_along : ℕ → DragPlan → Bool
is_along channel d = d.channel == channel

abbrev pub drags_along : ℕ → SelectionPlan → List DragPlan
drags_along channel s = filter (is_along channel) s.drags

abbrev pub scale_of : DragPlan → ℕ
scale_of d = d.scale

abbrev pub scales_along : ℕ → SelectionPlan → List ℕ
scales_along channel s = map scale_of (drags_along channel s)

-- whether they differ
abbrev pub differ : List ℕ → Bool
differ [] = false
differ (number ∷ numbers) = not (list_all (λ n. n == number) numbers)

-- the name of the scale that a drag of the selection at a place inverts along a channel
abbrev pub one_name : List ℕ → List ScalePlan → List ℕ → List ℕ
one_name stem scales [] = []
one_name stem scales (number ∷ numbers) = scale_name stem scales number

abbrev pub dragged_name : List ℕ → List ScalePlan → ℕ → SelectionPlan → ℕ → List ℕ
dragged_name stem scales selection s channel =
    if differ (scales_along channel s) then drag_name stem selection channel else one_name stem scales (scales_along channel s)

-- ---- lists for copies

-- whether some selection wants copies of a scale
abbrev pub copies_along : ℕ → ℕ → SelectionPlan → Bool
copies_along number channel s = differ (scales_along channel s) && is_among (scales_along channel s) number

abbrev pub copies : ℕ → SelectionPlan → Bool
copies number s = list_any (λ channel. copies_along number channel s) (X ∷ Y ∷ [])

abbrev pub is_copied : List SelectionPlan → ℕ → Bool
is_copied selections number = list_any (copies number) selections

-- the references of a domain
abbrev pub references_of : List ℕ → ℕ → DomainPlan → List Reference
references_of stem scale (plan.Cells cells) = []
references_of stem scale (plan.Columns of) = referred stem scale of.order of.columns

-- the list of a reference once more, and the names of all such lists
abbrev pub outer_list : List ℕ → ℕ → ℕ × Reference → DataSet
outer_list stem scale r = list_made (outer_name stem scale r.0) r.1.data_ []

abbrev pub outer_lists : List ℕ → List SelectionPlan → ℕ × ScalePlan → List DataSet
outer_lists stem selections s =
    if is_copied selections s.0 then map (outer_list stem s.0) (enumerate_from 0 (references_of stem s.0 s.1.domain)) else []

abbrev pub all_outer : List ℕ → List SelectionPlan → List ScalePlan → List DataSet
all_outer stem selections scales = flat_map (outer_lists stem selections) (enumerate_from 0 scales)

-- the names of those of some scales
abbrev pub name_of_set : DataSet → List ℕ
name_of_set set = set.name

abbrev pub outer_names : List ℕ → List SelectionPlan → List (ℕ × ScalePlan) → List (List ℕ)
outer_names stem selections held = map name_of_set (flat_map (outer_lists stem selections) held)

-- ---- copies

abbrev pub reference_outside : List ℕ → ℕ → ℕ × Reference → Reference
reference_outside stem scale r = reference (outer_name stem scale r.0) r.1.field

abbrev pub domain_outside : List ℕ → ℕ → DomainPlan → Domain
domain_outside stem scale (plan.Cells cells) = domain.Cells cells
domain_outside stem scale (plan.Columns of) = domain.Fields record {
  fields = map (reference_outside stem scale) (enumerate_from 0 (referred stem scale of.order of.columns));
  sort = None;
}

-- the copy of a scale by its number
abbrev pub copy_of : List ℕ → List ℕ → ℕ → ScalePlan → Scale
copy_of stem name number s = scale_over name (domain_outside stem number s.domain) s

abbrev pub copy_at : List ℕ → List ScalePlan → List ℕ → ℕ → Option Scale
copy_at stem scales name number = option_map (copy_of stem name number) (slice_get scales number)

-- the copy in a plot for a selection along a channel
abbrev pub is_drag_in : ℕ → ℕ → DragPlan → Bool
is_drag_in plot channel d = d.channel == channel && d.plot == plot

abbrev pub scale_in_plot : ℕ → ℕ → SelectionPlan → Option ℕ
scale_in_plot plot channel s = option_map scale_of (find (is_drag_in plot channel) s.drags)

abbrev pub copy_along : List ℕ → List ScalePlan → ℕ → ℕ → SelectionPlan → ℕ → Option Scale
copy_along stem scales plot selection s channel =
    if differ (scales_along channel s)
    then option_and_then (copy_at stem scales (drag_name stem selection channel)) (scale_in_plot plot channel s) else None

abbrev pub copies_for : List ℕ → List ScalePlan → ℕ → ℕ × SelectionPlan → List Scale
copies_for stem scales plot s = filter_map (copy_along stem scales plot s.0 s.1) (X ∷ Y ∷ [])

-- all copies in a plot
abbrev pub copies_in : List ℕ → List ScalePlan → List SelectionPlan → ℕ → List Scale
copies_in stem scales selections plot = flat_map (copies_for stem scales plot) (enumerate_from 0 selections)

-- The rules at work.

numbers_that_differ : (differ [] ≡ false) × (differ (1 ∷ []) ≡ false) × (differ (1 ∷ 1 ∷ []) ≡ false) × (differ (1 ∷ 1 ∷ 2 ∷ []) ≡ true)
numbers_that_differ = (refl, refl, refl, refl)
