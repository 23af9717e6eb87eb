use Rattle.std.proofs.Common.{◌≡◌, drop}
use Rattle.json_exact.specs.inner.Reader.{after_word}
use Rattle.json_exact.proofs.words.after_word.Given as goal

abbrev pub invariant-loop-b : goal.invariant-loop-b
invariant-loop-b l = after_word (drop l.b-index l.word) l.rest ≡ after_word l.word l.bytes
