use Rattle.std.proofs.Common.{◌≡◌, ◌-◌, [], length, string_bytes}
use Rattle.json_exact.specs.inner.Reader.{chars_at}
use Rattle.json_exact.proofs.texts.chars_of.Given as goal

abbrev pub invariant-loop : goal.invariant-loop
invariant-loop l = chars_at (length l.bytes - l.counter) (string_bytes l.out) l.rest ≡ chars_at (length l.bytes) [] l.bytes
