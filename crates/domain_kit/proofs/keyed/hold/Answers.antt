use Rattle.std.proofs.Common.{◌≡◌, ◌++◌, [], ◌∷◌, rules}
use Rattle.std.specs.Prelude.{unwrap_or}
use Rattle.domain_kit.proofs.HeldLemmas.{held_one}
use Rattle.domain_kit.proofs.keyed.hold.Goals as goal

pub returns : goal.returns
returns c =
    let holds : c.push.new.self ≡ unwrap_or c.remove.result [] ++ c.args.entry.now.value ∷ [] = search rules in
    held_one c.args.held.now c.remove.new.self c.insert.new.self c.remove.result c.args.entry.now.key c.in_ok-copy-2.field-0
    c.args.entry.now.value c.push.new.self c.in_ok-copy-2.ensures c.remove.ensures.value holds c.remove.ensures.updates
    c.in_ok-insert.ensures.updates
