use Rattle.std.proofs.Common.{true, sym, ◌∙◌, arith}
use Rattle.std.specs.Str.{bytes_eq}
use Rattle.std.specs.BTreeSet.{contains_text}
use Rattle.std.specs.String.{string_bytes}
use Rattle.std.proofs.lemmas.Map.Text.{btree_set_updates_text}
use Rattle.json_exact.proofs.Apart.{few_pushed, later_pushed}
use Rattle.json_exact.proofs.names.Members.with.Goals as goal
use Rattle.json_exact.proofs.names.Members.with.Goals.{then-len-ge-FEW+in_ok-from_str+in_ok-insert, else-len-ge-FEW}

pub invariant_of-result : goal.invariant_of-result
invariant_of-result c = record {
  found = λ q. elim c.if-len-ge-FEW.branch [
    | then-len-ge-FEW+in_ok-from_str+in_ok-insert w ↦
        let name = string_bytes w.in_ok-from_str.field-0 in
        let after = btree_set_updates_text name c.args.self.later w.insert.new.self true w.in_ok-insert.ensures.updates q in
        rw (w.later-is, c.in_ok-push.ensures.ok) (later_pushed q name c.args.self.members c.args.member (contains_text c.args.self.later q)
        (contains_text w.insert.new.self q) (omega arith) (w.in_ok-from_str.ensures.ok ∙ w.as_str.ensures) (c.args.self.found q) after)
    | else-len-ge-FEW w ↦
        rw (w.later-is, c.in_ok-push.ensures.ok) (c.args.self.found q
        ∙ sym (few_pushed (bytes_eq q) 8 c.args.self.members c.args.member (omega arith)))
  ];
}
