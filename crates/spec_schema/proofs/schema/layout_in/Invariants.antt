use Rattle.std.proofs.Common.{◌≡◌, drop}
use Rattle.std.specs.Prelude.{find}
use Rattle.spec_schema.specs.Layouts.{applies}
use Rattle.spec_schema.proofs.schema.layout_in.Given as goal

abbrev pub invariant-loop-layout : goal.invariant-loop-layout
invariant-loop-layout l = find (applies l.schema l.object l.members) (drop l.layout-index l.layout-items) ≡ find (applies l.schema l.object l.members)
    l.schema.layouts
