use Rattle.std.proofs.Common.{◌≡◌, ◌++◌, drop}
use Rattle.vl_rules.specs.Selections.{names_over}
use Rattle.vl_rules.proofs.selections.names_over.Given as goal

abbrev pub invariant-loop-code : goal.invariant-loop-code
invariant-loop-code l = l.names ++ names_over (drop l.code-index l.codes) l.offer ≡ names_over l.codes l.offer
