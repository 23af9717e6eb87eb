use Rattle.std.proofs.Common.{◌≡◌, drop}
use Rattle.spec_schema.specs.Layouts.{rule_in}
use Rattle.spec_schema.proofs.layout.rule_in.Given as goal

abbrev pub invariant-loop-rule : goal.invariant-loop-rule
invariant-loop-rule l = rule_in (drop l.rule-index l.rules) l.name ≡ rule_in l.rules l.name
