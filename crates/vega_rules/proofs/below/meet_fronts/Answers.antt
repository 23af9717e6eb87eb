use Rattle.std.proofs.Common.{◌≡◌, ℕ, ◌+◌, ◌-◌, ◌&&◌, ◌||◌, Bool, List, length, take, ap, ◌∙◌, arith}
use Rattle.std.specs.Prelude.{is_some, bytes_eq}
use Rattle.vega_rules.specs.inner.Keyed.{number_at}
use Rattle.vega_rules.specs.inner.Met.{reaches_at}
use Rattle.vega_rules.proofs.MetLemmas.{fronts_more}
use Rattle.vega_rules.proofs.below.meet_fronts.Goals as goal

pub loop-left-preserved : goal.loop-left-preserved
loop-left-preserved c =
    let asked = c.args.asked.now in
    let whole : List ℕ → Bool = λ q. is_some (number_at c.args.met.now q) || (reaches_at q c.args.name.now c.args.at.now && is_some
    (number_at asked q)) in
    let put : (q : List ℕ) → is_some (number_at c.meet.new.met q)
    ≡ (is_some (number_at c.loop-left.met q) || (bytes_eq q (take (1 + length c.args.name.now +
    (c.loop-left.left - 1)) c.args.key.now) && is_some (number_at asked q))) =
    λ q. c.in_ok-meet.ensures q
    ∙ ap (λ (k : List ℕ). is_some (number_at c.loop-left.met q) || (bytes_eq q k && is_some (number_at asked q))) c.front.ensures in
    record {
      within = omega arith;
      same = fronts_more asked c.loop-left.met c.meet.new.met c.args.name.now c.args.at.now c.args.key.now
          (c.loop-left.left - 1) c.loop-left.left whole
          (omega arith) (omega arith) c.requires put c.loop-left.invariant.same;
    }
