use Rattle.vl_names.proofs.KeyedLemmas.{put_number}
use Rattle.vl_names.proofs.keyed.put.Goals as goal

pub returns : goal.returns
returns c = put_number c.args.numbers.now c.insert.new.self c.args.key c.args.number c.in_ok-insert.ensures.entries
