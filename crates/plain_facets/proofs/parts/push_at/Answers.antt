use Rattle.std.proofs.Common.{◌∙◌, sym, ap, ◌++◌, ◌≤◌, length, option_to_list}
use Rattle.std.proofs.lemmas.List.{append-nil}
use Rattle.std.proofs.lemmas.Option.{slice_get_past}
use Rattle.plain_facets.proofs.parts.push_at.Goals as goal

pub returns-in-None : goal.returns-in-None
returns-in-None c =
    let past : length c.args.rows.now ≤ c.args.place = c.in-None.ensures.lookup.3 in
    sym (ap (λ o. c.args.found.now ++ option_to_list o) (slice_get_past c.args.rows.now c.args.place past) ∙ append-nil c.args.found.now)
