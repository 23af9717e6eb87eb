use Rattle.std.proofs.Common.{◌≡◌, ◌∷◌, ◌++◌, take}
use Rattle.std.specs.Prelude.{flat_map, map}
use Rattle.json_exact.specs.Writing.{text_of, member_text}
use Rattle.json_exact.proofs.writing.+writing.Given as goal

abbrev pub invariant-push_items-loop-item : goal.invariant-push_items-loop-item
invariant-push_items-loop-item l = l.out ≡ l.initial.out ++ flat_map (λ text. 44 ∷ text) (map text_of (take l.item-index l.others))

abbrev pub invariant-push_members-loop-member : goal.invariant-push_members-loop-member
invariant-push_members-loop-member l =
    l.out ≡ l.initial.out ++ flat_map (λ text. 44 ∷ text) (map member_text (take l.member-index l.others))
