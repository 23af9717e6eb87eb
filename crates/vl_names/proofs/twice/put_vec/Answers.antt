use Rattle.vl_names.proofs.KeyedLemmas.{put_place}
use Rattle.vl_names.proofs.twice.put_vec.Goals as goal

pub returns : goal.returns
returns c = put_place c.args.firsts.now c.insert.new.self c.args.key c.args.place c.in_ok-insert.ensures.entries
