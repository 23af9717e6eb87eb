use Rattle.std.proofs.Common.{◌≡◌, ◌++◌, drop, filter, map}
use Rattle.std.specs.Prelude.{not}
use Rattle.vl_normalize.specs.Channels.{has_channel, with_around}
use Rattle.vl_normalize.proofs.channels.with_around.Given as goal

abbrev pub invariant-loop-channel : goal.invariant-loop-channel
invariant-loop-channel l = map (λ c. c.now) l.all ++ drop l.channel-index l.own ≡ l.own

abbrev pub invariant-loop-outer : goal.invariant-loop-outer
invariant-loop-outer l =
    map (λ c. c.now) l.all ++ filter (λ c. not (has_channel l.own c.channel)) (map (λ c. c.now) (drop l.outer-index l.around))
    ≡ with_around l.own (map (λ c. c.now) l.around)
