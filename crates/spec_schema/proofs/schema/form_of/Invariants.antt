use Rattle.std.proofs.Common.{◌≡◌, drop}
use Rattle.std.specs.Prelude.{find}
use Rattle.json_exact.specs.declared.json.Json.{out-Json}
use Rattle.spec_schema.specs.Forms.{takes}
use Rattle.spec_schema.proofs.schema.form_of.Given as goal

abbrev pub invariant-loop-entry : goal.invariant-loop-entry
invariant-loop-entry l = find (takes l.schema l.shape (out-Json l.tree)) (drop l.entry-index l.entry-items)
    ≡ find (takes l.schema l.shape (out-Json l.tree)) l.schema.shapes
