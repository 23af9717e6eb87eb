use Rattle.scale_kit.proofs.IndexLemmas.{put_place}
use Rattle.scale_kit.proofs.indexed.put.Goals as goal

pub returns : goal.returns
returns c = put_place c.args.places.now c.insert.new.self c.args.cell c.args.place c.in_ok-insert.ensures.updates
