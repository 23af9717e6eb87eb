use Rattle.std.proofs.Common.{◌≡◌, subst, sym}
use Rattle.std.specs.Prelude.{IfOk}
use Rattle.vega_parts.specs.declared.part.Part.{Part}
use Rattle.vega_rules.specs.Faults.{sooner, earliest}
use Rattle.vega_rules.specs.Intervals.{interval_by}
use Rattle.vega_rules.proofs.drags.sooner_drag.Goals as goal

pub returns-in-Interval : goal.returns-in-Interval
returns-in-Interval c =
    subst (λ (p : Part). IfOk c.sooner_failing.result (λ f. f
    ≡ sooner c.args.so_far (earliest (interval_by c.args.among.now.parts.now p)))) (sym c.in-Interval.is) c.sooner_failing.ensures
