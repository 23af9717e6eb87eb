-- Plots in facets are as many however the marks are numbered.
use Rattle.std.proofs.Common.{◌≡◌, ℕ, suc, ◌+◌, ◌||◌, Bool, is_some, Some, List, map, refl}
use Rattle.std.specs.List.{sum}
use Rattle.fixed_num.specs.Ranges.{◌>>=◌, all_found}
use Rattle.cell_value.specs.State.{Dataset}
use Rattle.vega_copies.specs.Outlines.{Marks, NoMarks, AMark, AGroup, numbered, count_marks, count_groups}
use Rattle.vega_copies.specs.Scopes.{Names}
use Rattle.vega_copies.specs.Facets.{copies_of}
use Rattle.vega_copies.specs.CopyNames.{names_in_copy}
use Rattle.vega_copies.specs.Panels.{plots_in_facets, plots_among}

pub counted_alike : (sources : List Dataset) (marks : Marks) (unit number : ℕ) (in_facet in_grid : Bool) (names : Names)
    → plots_in_facets sources (numbered unit number marks) in_facet in_grid names ≡ plots_in_facets sources marks in_facet in_grid names
counted_alike sources NoMarks unit number in_facet in_grid names = refl
counted_alike sources (AMark old m others) unit number in_facet in_grid names = counted_alike sources others (suc unit) number in_facet in_grid names
counted_alike sources (AGroup o inside others) unit number in_facet in_grid names = λ i.
    all_found (map (λ copy. names_in_copy sources names o copy >>= λ here.
    counted_alike sources inside unit (suc number) (in_facet || is_some o.facet) (is_some o.layout) here i) (copies_of names.lists o)) >>= λ deeper.
    counted_alike sources others (unit + count_marks inside) (suc number + count_groups inside) in_facet in_grid names i >>= λ rest.
    Some (plots_among (in_facet || is_some o.facet) in_grid o deeper + sum deeper + rest)
