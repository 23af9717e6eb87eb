-- What the reader's own values stand for.
use Rattle.std.specs.Prelude.{ℤ}
use Rattle.fixed_num.specs.declared.json_number.Exponent.{Exponent}
use Rattle.fixed_num.specs.declared.json_number.JsonNumber.{JsonNumber}
use Rattle.fixed_num.specs.Number.{signed}
use Rattle.fixed_num.specs.JsonNumber.{Parts, number_of}

-- an exponent as its number
abbrev pub exponent : Exponent → ℤ
exponent e = signed e.minus (number_of e.digits.now)

abbrev pub parts : JsonNumber → Parts
parts n = record { minus = n.minus; whole = n.whole.now; fraction = n.fraction.now; exponent = exponent n.exponent }
