use Rattle.std.proofs.Common.{◌≡◌, drop}
use Rattle.chart_io.specs.Outside.{file_of}
use Rattle.chart_io.specs.Memory.{listed}
use Rattle.chart_io.proofs.sure.bytes_of.Given as goal

abbrev pub invariant-loop-file : goal.invariant-loop-file
invariant-loop-file l = file_of (listed (drop l.file-index l.files)) l.name ≡ file_of (listed l.files) l.name
