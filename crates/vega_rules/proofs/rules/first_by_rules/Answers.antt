-- Each rule adds its faults behind those so far.
use Rattle.std.proofs.Common.{◌≡◌, ◌++◌, List, subst}
use Rattle.vega_parts.specs.declared.part.Part.{Part}
use Rattle.vega_rules.specs.Faults.{earliest}
use Rattle.vega_rules.specs.Twice.{twice}
use Rattle.vega_rules.specs.Unknown.{unknown}
use Rattle.vega_rules.specs.Sized.{sized}
use Rattle.vega_rules.specs.Below.{below}
use Rattle.vega_rules.specs.Limits.{limits}
use Rattle.vega_rules.specs.Folds.{folds}
use Rattle.vega_rules.specs.Intervals.{intervals}
use Rattle.vega_rules.specs.Rules.{shown, rule_faults}
use Rattle.vega_rules.proofs.OrderLemmas.{then_faults}
use Rattle.vega_rules.proofs.rules.first_by_rules.Goals as goal

pub returns : goal.returns
returns c =
    let ps = c.as_slice-parts.result.now in
    let two : c.in_ok-so_far-2.so_far ≡ earliest (shown ps
    ++ twice ps) = then_faults _ _ (shown ps) (twice ps) c.in_ok-so_far.ensures c.in_ok-so_far-2.ensures in
    let three : c.in_ok-so_far-3.so_far ≡ earliest (shown ps ++ twice ps ++ unknown ps) = then_faults _ _ (shown ps
    ++ twice ps) (unknown ps) two c.in_ok-so_far-3.ensures in
    let four : c.in_ok-so_far-4.so_far ≡ earliest (shown ps ++ twice ps ++ unknown ps ++ sized ps) =
    then_faults _ _ (shown ps ++ twice ps ++ unknown ps) (sized ps) three c.in_ok-so_far-4.ensures in
    let five : c.in_ok-so_far-5.so_far ≡ earliest (shown ps ++ twice ps ++ unknown ps ++ sized ps ++ below ps) =
    then_faults _ _ (shown ps ++ twice ps ++ unknown ps ++ sized ps) (below ps) four c.in_ok-so_far-5.ensures in
    let six : c.in_ok-so_far-6.so_far ≡ earliest (shown ps ++ twice ps ++ unknown ps ++ sized ps ++ below ps ++ limits ps) =
    then_faults _ _ (shown ps ++ twice ps ++ unknown ps ++ sized ps ++ below ps) (limits ps) five c.in_ok-so_far-6.ensures in
    let seven : c.in_ok-so_far-7.so_far ≡ earliest (shown ps ++ twice ps ++ unknown ps ++ sized ps ++ below ps ++ limits ps ++ folds ps) =
    then_faults _ _ (shown ps ++ twice ps ++ unknown ps ++ sized ps ++ below ps ++ limits ps) (folds ps) six c.in_ok-so_far-7.ensures in
    let eight : c.in_ok-so_far-8.so_far ≡ earliest (rule_faults ps) =
    then_faults _ _ (shown ps ++ twice ps ++ unknown ps ++ sized ps ++ below ps ++ limits ps
    ++ folds ps) (intervals ps) seven c.in_ok-so_far-8.ensures in
    subst (λ (q : List Part). c.in_ok-so_far-8.so_far ≡ earliest (rule_faults q)) c.as_slice-parts.ensures eight
