use Rattle.std.proofs.Common.{sym, subst}
use Rattle.scale_kit.specs.inner.Between.{IsBetween}
use Rattle.scale_kit.proofs.BetweenLemmas.{moved_within, place_is_number}
use Rattle.scale_kit.proofs.shares.moved.Goals as goal

pub unreachable-requires : goal.unreachable-requires
unreachable-requires c =
    c.in-None.ensures (place_is_number c.args.range.0 c.args.range.1 _ c.requires.range (moved_within _ _ _ c.way.ensures.within))

pub returns-clause-within : goal.returns-clause-within
returns-clause-within c =
    subst (IsBetween c.args.range.0 c.args.range.1) (sym c.in-Some.ensures.1) (moved_within _ _ _ c.way.ensures.within)
