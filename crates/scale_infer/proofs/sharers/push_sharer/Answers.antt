use Rattle.std.proofs.Common.{◌≤◌, length}
use Rattle.scale_infer.proofs.SharerLemmas.{nothing_more}
use Rattle.scale_infer.proofs.sharers.push_sharer.Goals as goal

pub returns-in-None : goal.returns-in-None
returns-in-None c =
    let past : length c.args.units.now ≤ c.args.number = c.in-None.ensures.lookup.3 in
    nothing_more c.args.units.now c.args.channel c.args.number c.args.sharers.now past
