use Rattle.std.proofs.Common.{true}
use Rattle.std.specs.BTreeSet.{contains_text}
use Rattle.std.specs.String.{string_bytes}
use Rattle.std.proofs.lemmas.Map.Text.{btree_set_updates_text}
use Rattle.selection_rules.proofs.NameLemmas.{added}
use Rattle.selection_rules.proofs.names.add.Goals as goal

pub returns : goal.returns
returns c = λ q.
    let name = string_bytes c.in_ok-from_str.field-0 in
    let after = btree_set_updates_text name c.args.set.now c.insert.new.self true c.in_ok-insert.ensures.updates q in
    added q name c.args.name.now (contains_text c.args.set.now q) (contains_text c.insert.new.self q) c.in_ok-from_str.ensures.ok after
