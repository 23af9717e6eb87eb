use Rattle.std.proofs.Common.{◌≡◌, take}
use Rattle.json_exact.proofs.json.+json.Given as goal

abbrev pub invariant-Json::copy-loop-item : goal.invariant-Json::copy-loop-item
invariant-Json::copy-loop-item l = l.out ≡ take l.item-index l.item-items

abbrev pub invariant-Json::copy-loop-member : goal.invariant-Json::copy-loop-member
invariant-Json::copy-loop-member l = l.out ≡ take l.member-index l.member-items
