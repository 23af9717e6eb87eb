use Rattle.std.proofs.Common.{map, arith}
use Rattle.cell_value.specs.Datum.{datum_of}
use Rattle.plain_windows.specs.inner.Views.{in_front}
use Rattle.plain_windows.proofs.PartLemmas.{few_pass}
use Rattle.plain_windows.proofs.peers.front.Goals as goal

pub loop-low-init : goal.loop-low-init
loop-low-init c = record {
  low = omega arith;
  high = few_pass (map datum_of c.args.rows.now) c.args.places.now (in_front c.args.sort.now c.args.through (datum_of c.args.x.now));
  within = omega arith;
}
