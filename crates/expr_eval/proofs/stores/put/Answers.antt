use Rattle.std.proofs.Common.{◌∙◌}
use Rattle.std.specs.String.{string_bytes}
use Rattle.expr_eval.proofs.StoreLemmas.{put_place}
use Rattle.expr_eval.proofs.stores.put.Goals as goal

pub returns : goal.returns
returns c =
    put_place (string_bytes c.into_string.result) c.args.name.now c.args.places.now c.insert.new.self c.args.place
    (c.into_string.ensures ∙ c.in_ok-copy.ensures) c.in_ok-insert.ensures.updates
