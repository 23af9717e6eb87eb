use Rattle.std.proofs.Common.{◌≡◌, drop, map}
use Rattle.std.specs.Str.{bytes_eq}
use Rattle.std.specs.Map.{update_all}
use Rattle.unit_plan.specs.Selections.{kind_entry, kind_named}
use Rattle.unit_plan.specs.inner.Kinds.{kind_in}
use Rattle.unit_plan.proofs.selections.kinds_of.Given as goal

abbrev pub invariant-loop-param : goal.invariant-loop-param
invariant-loop-param l = update_all bytes_eq (kind_in l.kinds) (map kind_entry (drop l.param-index l.params)) ≡ kind_named l.params
