-- What is shown.
use Rattle.std.specs.Prelude.{Option, Some, None}
use Rattle.mark_shapes.specs.declared.shown.Shown.{Shown}
use Rattle.mark_shapes.specs.declared.shown.Shown.TheVariants.{Absent, Lacking, Given}

-- what is shown where a value counts: what it gives, if it gives that
abbrev pub shown : {X : Type 0} → Option X → Shown X
shown None = Lacking
shown (Some x) = Given x

-- what a channel shows, or the default where it is absent; None where it lacks
abbrev pub or_default : {X : Type 0} → X → Shown X → Option X
or_default default Absent = Some default
or_default default Lacking = None
or_default default (Given x) = Some x
