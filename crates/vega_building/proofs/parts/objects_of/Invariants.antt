use Rattle.std.proofs.Common.{◌≡◌, take, map}
use Rattle.tree_readers.specs.Parts.{members_of}
use Rattle.vega_building.proofs.parts.objects_of.Given as goal

abbrev pub invariant-loop-tree : goal.invariant-loop-tree
invariant-loop-tree g l = l.list ≡ map (λ tree. g.T.Object.built (members_of tree)) (take l.tree-index l.items)
