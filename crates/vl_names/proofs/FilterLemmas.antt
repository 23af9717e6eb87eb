-- Filters by what they are.
use Rattle.std.proofs.Common.{◌≡◌, List, map, sym, ap, ◌∙◌}
use Rattle.std.specs.Prelude.{codes}
use Rattle.vl_spec.specs.declared.filters.Filter.{Filter, Filter-F, out-Filter, out-roll-Filter, map-Filter, fold_out-Filter}
use Rattle.vl_spec.specs.declared.filters.Filter.TheVariants as filter
use Rattle.vl_spec.specs.declared.filters.Filter.TheVariants.{rolls-And, rolls-Or, rolls-Not}
use Rattle.vl_spec.specs.declared.filters.Filter.TheOpen as level
use Rattle.vl_trails.specs.Trails.{Trail, to_member}
use Rattle.vl_names.specs.Filters.{Judged, each_item, filter_here, filter_faults}
use Rattle.vl_names.specs.Known.{Known}

opens_as : (known : Known) (f : Filter) (o : Filter-F Filter) → out-Filter f ≡ o →
    filter_faults known f ≡ filter_here known (map-Filter Filter Judged (filter_faults known) o)
opens_as known f o is =
    fold_out-Filter Judged (filter_here known) f ∙ ap (λ p. filter_here known (map-Filter Filter Judged (filter_faults known) p)) is

pub and_faults : (known : Known) (f : Filter) (fs items : List Filter) (trail : Trail) → f ≡ filter.And fs → items ≡ fs →
    each_item (map (filter_faults known) items) (to_member trail (codes "and")) ≡ filter_faults known f trail
and_faults known f fs items trail is same =
    ap (λ xs. each_item (map (filter_faults known) xs) (to_member trail (codes "and"))) same
    ∙ sym (ap (λ (g : Judged). g trail) (opens_as known f (level.And fs) (ap out-Filter (is ∙ sym (rolls-And fs)) ∙ out-roll-Filter (level.And fs))))

pub or_faults : (known : Known) (f : Filter) (fs items : List Filter) (trail : Trail) → f ≡ filter.Or fs → items ≡ fs →
    each_item (map (filter_faults known) items) (to_member trail (codes "or")) ≡ filter_faults known f trail
or_faults known f fs items trail is same =
    ap (λ xs. each_item (map (filter_faults known) xs) (to_member trail (codes "or"))) same
    ∙ sym (ap (λ (g : Judged). g trail) (opens_as known f (level.Or fs) (ap out-Filter (is ∙ sym (rolls-Or fs)) ∙ out-roll-Filter (level.Or fs))))

pub not_faults : (known : Known) (f g inner : Filter) (trail : Trail) → f ≡ filter.Not g → inner ≡ g →
    filter_faults known inner (to_member trail (codes "not")) ≡ filter_faults known f trail
not_faults known f g inner trail is same =
    ap (λ x. filter_faults known x (to_member trail (codes "not"))) same
    ∙ sym (ap (λ (h : Judged). h trail) (opens_as known f (level.Not g) (ap out-Filter (is ∙ sym (rolls-Not g)) ∙ out-roll-Filter (level.Not g))))
