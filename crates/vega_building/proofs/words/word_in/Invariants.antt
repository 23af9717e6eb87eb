use Rattle.std.proofs.Common.{◌≡◌, drop}
use Rattle.vega_building.specs.inner.Words.{word_in}
use Rattle.vega_building.proofs.words.word_in.Given as goal

abbrev pub invariant-loop-word : goal.invariant-loop-word
invariant-loop-word g l = word_in (drop l.word-index l.words) l.name ≡ word_in l.words l.name
