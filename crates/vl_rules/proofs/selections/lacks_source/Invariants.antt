use Rattle.std.proofs.Common.{◌≡◌, drop}
use Rattle.vl_rules.specs.Selections.{lacks_source}
use Rattle.vl_rules.proofs.selections.lacks_source.Given as goal

abbrev pub invariant-loop-code : goal.invariant-loop-code
invariant-loop-code l =
    lacks_source (drop l.code-index l.codes) l.offer ≡ lacks_source l.codes l.offer
