use Rattle.std.proofs.Common.{rules}
use Rattle.mark_shapes.proofs.RunLemmas.{ends_empty, ends_full}
use Rattle.mark_shapes.proofs.runs.end_run.Goals as goal

pub returns-then-is_empty : goal.returns-then-is_empty
returns-then-is_empty c = record {
  points = ends_empty c.args.closed c.args.points.now c.args.run.now (search rules);
  run = search rules;
}

pub returns : goal.returns
returns c = record {
  points =
      ends_full c.args.closed c.args.points.now _ c.args.run.now c.as_slice.result.now (λ none. search rules) c.as_slice.ensures
      c.in_ok-push_run.ensures;
  run = search rules;
}
