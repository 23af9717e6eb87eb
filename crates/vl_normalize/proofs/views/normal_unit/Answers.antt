use Rattle.std.proofs.Common.{◌≡◌, IfOk, List, map, rules, subst}
use Rattle.vl_spec.specs.declared.channels.ChannelOf.{ChannelOf}
use Rattle.vl_normalize.specs.Channels.{channels_in, with_around}
use Rattle.vl_normalize.specs.Normal.{unit_form}
use Rattle.vl_normalize.proofs.views.normal_unit.Goals as goal

pub returns : goal.returns
returns c =
    let is : List ChannelOf → Type 0 = λ cs. IfOk c.unit_form.result (λ view. view ≡ unit_form c.args.unit.now.mark cs c.args.head) in
    let channels : map (λ r. r.now) c.as_slice.result.now ≡ with_around (channels_in c.args.unit.now.encoding) (map (λ r. r.now) c.args.around.now) =
    search rules in
    subst is channels c.unit_form.ensures
