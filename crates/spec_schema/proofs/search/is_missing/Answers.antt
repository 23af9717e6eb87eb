use Rattle.std.proofs.Common.{ap, ◌∙◌}
use Rattle.spec_schema.specs.Layouts.{has_name}
use Rattle.spec_schema.proofs.Firsts.{joined}
use Rattle.spec_schema.proofs.search.is_missing.Goals as goal

pub returns-then-rule : goal.returns-then-rule
returns-then-rule c = joined c.args.members.now c.args.rule.now c.has_name.result c.if-rule.true (c.has_name.ensures
    ∙ ap (has_name c.args.members.now) c.as_str.ensures)
