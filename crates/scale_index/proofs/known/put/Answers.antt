use Rattle.scale_index.proofs.KnownLemmas.{put_under}
use Rattle.scale_index.proofs.known.put.Goals as goal

pub returns : goal.returns
returns c = put_under c.args.known.now c.insert.new.self c.args.cell c.args.found c.in_ok-insert.ensures.updates
