use Rattle.std.proofs.Common.{◌≡◌, drop}
use Rattle.vega_copies.proofs.NameLemmas.{is_own_in}
use Rattle.vega_copies.proofs.names.is_own_somewhere.Given as goal

abbrev pub invariant-loop-level : goal.invariant-loop-level
invariant-loop-level l = is_own_in l.name (drop l.level-index l.levels) ≡ is_own_in l.name l.levels
