use Rattle.std.proofs.lemmas.Result.{on_ok_weaker}
use Rattle.vl_names.proofs.FirstLemmas.{earlier_put}
use Rattle.vl_names.proofs.twice.put_earlier.Goals as goal

pub returns : goal.returns
returns c =
    on_ok_weaker c.put_unless.result (λ put. earlier_put c.args.firsts.now c.put_unless.new.firsts c.in_ok-key.key c.args.name.now c.args.place
    c.stands_before-stays.result c.in_ok-key.ensures c.stands_before-stays.ensures put) c.put_unless.ensures
