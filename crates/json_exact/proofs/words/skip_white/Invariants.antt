use Rattle.std.proofs.Common.{◌≡◌, drop}
use Rattle.json_exact.specs.inner.Reader.{skip_white}
use Rattle.json_exact.proofs.words.skip_white.Given as goal

abbrev pub invariant-loop-i : goal.invariant-loop-i
invariant-loop-i l = skip_white (drop l.i l.bytes) ≡ skip_white l.bytes
