use Rattle.std.proofs.Common.{ap, ◌∙◌, subst, flat_map}
use Rattle.expr_eval.specs.Answers.{Evaluates}
use Rattle.vega_spec.specs.declared.spec.Group.{out-Group}
use Rattle.vega_copies.specs.Outlines.{object_here}
use Rattle.vega_copies.specs.Scopes.{written_here}
use Rattle.vega_copies.specs.inner.Results.{result_map}
use Rattle.vega_copies.specs.inner.Levels.{names_with_level, names_with_parts}
use Rattle.vega_copies.proofs.levels.level_in.Goals as goal

pub returns-clause-value : goal.returns-clause-value
returns-clause-value c =
    subst (λ given. Evaluates (result_map (names_with_level c.args.outer.now) c.level_with.result)
    (names_with_parts c.args.outer.now c.args.parts (object_here (out-Group c.args.group.now)) given))
    (c.as_slice.ensures ∙ c.in_ok-given.ensures ∙ ap (flat_map written_here) c.signals_of.ensures) c.level_with.ensures.value
