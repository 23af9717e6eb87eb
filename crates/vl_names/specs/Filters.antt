-- Unknown names in filters.
use Rattle.std.specs.Prelude.{ℕ, not, List, [], codes, flat_map}
use Rattle.std.specs.List.{enumerate_from}
use Rattle.vl_spec.specs.declared.filters.Filter.{Filter, Filter-F, fold-Filter}
use Rattle.vl_spec.specs.declared.filters.Filter.TheOpen as level
use Rattle.vl_spec.specs.declared.filters.ParamTest.{ParamTest}
use Rattle.vl_trails.specs.declared.fault.RuleFault.{RuleFault}
use Rattle.vl_trails.specs.Faults.{wrong_if}
use Rattle.vl_trails.specs.Trails.{Trail, to_item, to_member}
use Rattle.vl_names.specs.Known.{Known, knows}

-- the faults of a part, by the trail to it
abbrev pub Judged : Type 0
Judged = Trail → List RuleFault

-- the faults of the items of a list, of which the first has this number
abbrev pub items_from : ℕ → List Judged → Judged
items_from number items trail = flat_map (λ (item : ℕ × Judged). item.1 (to_item trail item.0)) (enumerate_from number items)

-- the faults of the items of a list
abbrev pub each_item : List Judged → Judged
each_item = items_from 0

-- a test by a parameter that isn't known is wrong at its `param`
abbrev pub param_test_faults : Known → ParamTest → Judged
param_test_faults known test trail = wrong_if (not (known.param test.param)) (to_member trail (codes "param"))

-- An expression that mentions an unknown name is wrong; a filter has the faults of those in it.
abbrev pub filter_here : Known → Filter-F Judged → Judged
filter_here known (level.Expr e) trail = wrong_if (not (knows known e)) trail
filter_here known (level.Param test) trail = param_test_faults known test trail
filter_here known (level.Field test) trail = []
filter_here known (level.And filters) trail = each_item filters (to_member trail (codes "and"))
filter_here known (level.Or filters) trail = each_item filters (to_member trail (codes "or"))
filter_here known (level.Not filter) trail = filter (to_member trail (codes "not"))

abbrev pub filter_faults : Known → Filter → Judged
filter_faults known = fold-Filter Judged (filter_here known)
