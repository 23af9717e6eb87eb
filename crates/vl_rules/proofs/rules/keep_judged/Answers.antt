use Rattle.std.proofs.Common.{map, sym, ap, ◌∙◌}
use Rattle.std.proofs.lemmas.List.{take-map}
use Rattle.vl_rules.specs.declared.marked.TheConstants.{MOST_UNITS}
use Rattle.vl_rules.specs.inner.Shown.{marked_shown}
use Rattle.vl_rules.proofs.rules.keep_judged.Goals as goal

pub returns : goal.returns
returns c = ap (map marked_shown) c.truncate.ensures ∙ sym (take-map marked_shown MOST_UNITS c.args.units.now)
