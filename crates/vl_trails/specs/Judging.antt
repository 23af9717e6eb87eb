-- What goes through a specification by its parts.
use Rattle.std.specs.Prelude.{◌-◌, List, [], ◌∷◌, ◌++◌, length, take}
use Rattle.spec_schema.specs.Order.{earlier}
use Rattle.spec_walk.specs.declared.places.Step.{Step}
use Rattle.vl_trails.specs.declared.fault.RuleFault.{RuleFault}
use Rattle.vl_trails.specs.declared.judging.Judging.{Judging}
use Rattle.vl_trails.specs.Faults.{earliest_placed}

-- one step further
abbrev pub entered : Judging → Step → Judging
entered j step = record j { trail = j.trail ++ step ∷ [] }

-- back by one step
abbrev pub left : Judging → Judging
left j = record j { trail = take (length j.trail - 1) j.trail }

-- more faults were found
abbrev pub after : Judging → List RuleFault → Judging
after j faults = record j { first = earlier j.first (earliest_placed j.tree.now faults) }
