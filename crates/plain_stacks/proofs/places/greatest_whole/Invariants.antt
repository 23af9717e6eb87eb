use Rattle.std.proofs.Common.{◌≡◌, map, fold, drop, pos, option_map}
use Rattle.std.specs.Int.{int_max}
use Rattle.fixed_num.specs.Ranges.{all_found}
use Rattle.plain_stacks.specs.inner.Sums.{sums_at}
use Rattle.plain_stacks.proofs.places.greatest_whole.Given as goal

abbrev pub invariant-loop-home : goal.invariant-loop-home
invariant-loop-home l =
    option_map (fold int_max l.greatest) (all_found (map (λ home. (sums_at l.sums home).whole) (drop l.home-index l.homes)))
    ≡ option_map (fold int_max (pos 0)) (all_found (map (λ home. (sums_at l.sums home).whole) l.homes))
