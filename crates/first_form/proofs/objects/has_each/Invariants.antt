use Rattle.std.proofs.Common.{◌≡◌, drop, map}
use Rattle.first_form.specs.FirstForm.{has_each}
use Rattle.first_form.proofs.objects.has_each.Given as goal

abbrev pub invariant-loop-name : goal.invariant-loop-name
invariant-loop-name l = has_each l.members (map (λ k. k.now) (drop l.name-index l.names)) ≡ has_each l.members (map (λ k. k.now) l.names)
