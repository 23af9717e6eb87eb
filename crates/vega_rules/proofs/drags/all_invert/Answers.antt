use Rattle.std.proofs.Common.{[]}
use Rattle.std.specs.Prelude.{filter_map}
use Rattle.vega_parts.specs.declared.part.Used.TheVariants as used
use Rattle.vega_rules.specs.Resolved.{resolved}
use Rattle.vega_rules.specs.Intervals.{inverts, concerned}
use Rattle.vega_rules.proofs.DragLemmas.{all_true}
use Rattle.vega_rules.proofs.drags.all_invert.Goals as goal

pub returns-then-branch : goal.returns-then-branch
returns-then-branch c =
    all_true (λ object. inverts (resolved c.args.parts.now used.Scale object [] c.args.scale.now)) (filter_map
    (concerned c.args.scope.now c.args.names.now) c.args.parts.now)
    (c.in_ok-inverts_at_once.ensures c.if-branch.true)
