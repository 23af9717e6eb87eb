use Rattle.std.proofs.Common.{◌≡◌, ◌≤◌, drop}
use Rattle.fixed_num.specs.Number.{limit}
use Rattle.fixed_num.specs.JsonNumber.{AreDigits}
use Rattle.fixed_num.specs.inner.Digits.{number_after}
use Rattle.fixed_num.proofs.json_value.read_digits.Given as goal

abbrev pub invariant-loop-digit : goal.invariant-loop-digit
invariant-loop-digit l =
    record {
      in_range : l.number ≤ limit;
      digits : AreDigits (drop l.digit-index l.digits);
      same : number_after l.number (drop l.digit-index l.digits) ≡ number_after l.start l.digits;
    }
