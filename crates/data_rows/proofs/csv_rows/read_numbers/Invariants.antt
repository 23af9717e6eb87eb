use Rattle.std.proofs.Common.{◌≡◌, ◌++◌, drop, map}
use Rattle.csv.specs.Records.{fields_of}
use Rattle.data_rows.specs.Parse.{number_of}
use Rattle.data_rows.proofs.csv_rows.read_numbers.Given as goal

abbrev pub invariant-loop-i : goal.invariant-loop-i
invariant-loop-i l = l.numbers ++ map number_of (drop l.i (fields_of l.fields)) ≡ map number_of (fields_of l.fields)
