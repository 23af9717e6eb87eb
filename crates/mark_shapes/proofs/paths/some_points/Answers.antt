use Rattle.std.proofs.Common.{rules}
use Rattle.mark_shapes.proofs.PathLemmas.{no_points, all_points}
use Rattle.mark_shapes.proofs.paths.some_points.Goals as goal

pub returns-then-is_empty : goal.returns-then-is_empty
returns-then-is_empty c = no_points c.args.points (search rules)

pub returns : goal.returns
returns c = all_points c.args.points (λ none. search rules)
