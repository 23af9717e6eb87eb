use Rattle.std.proofs.Common.{◌≡◌, drop}
use Rattle.vl_rules.specs.Selections.{cant_span}
use Rattle.vl_rules.proofs.selections.cant_span.Given as goal

abbrev pub invariant-loop-code : goal.invariant-loop-code
invariant-loop-code l =
    cant_span (drop l.code-index l.codes) l.offer ≡ cant_span l.codes l.offer
