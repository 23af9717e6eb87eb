use Rattle.std.proofs.Common.{refl}
use Rattle.scene_tree.proofs.SquareLemmas.{square_is, high_is_small}
use Rattle.scene_tree.proofs.squares.square_of.Goals as goal

pub returns-clause-value : goal.returns-clause-value
returns-clause-value c = square_is c.args.n 68719476736 4722366482869645213696 refl

pub returns-clause-high_in_reach : goal.returns-clause-high_in_reach
returns-clause-high_in_reach c = high_is_small c.args.n _ _ c.requires (returns-clause-value c)
