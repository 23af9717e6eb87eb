mod CircleLemmas
