use Rattle.tick_kit.proofs.labels.+decimals_within.Given as goal

abbrev pub decreases-decimals_within : goal.decreases-decimals_within
decreases-decimals_within l = l.places
