use Rattle.std.proofs.Common.{◌∙◌, sym, ap, ◌++◌, ◌≤◌, length}
use Rattle.std.specs.Prelude.{option_map, option_to_list}
use Rattle.std.proofs.lemmas.List.{append-nil}
use Rattle.std.proofs.lemmas.Option.{slice_get_past}
use Rattle.vega_assemble.specs.Drags.{copy_of}
use Rattle.vega_assemble.specs.Names.{drag_name}
use Rattle.vega_assemble.proofs.drags.push_copy.Goals as goal

pub returns-in-None : goal.returns-in-None
returns-in-None c =
    let past : length c.args.scales.now ≤ c.args.number = c.in-None.ensures.lookup.3 in
    sym (ap (λ o. c.args.out.now
    ++ option_to_list (option_map (copy_of c.args.stem.now (drag_name c.args.stem.now c.args.selection c.args.channel) c.args.number) o))
    (slice_get_past c.args.scales.now c.args.number past)
    ∙ append-nil c.args.out.now)
