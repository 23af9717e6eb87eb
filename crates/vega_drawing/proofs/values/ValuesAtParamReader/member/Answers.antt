use Rattle.std.proofs.Common.{◌≡◌, sym, subst, ◌∙◌}
use Rattle.std.specs.Prelude.{IfOk}
use Rattle.vega_drawing.proofs.ValueLemmas.{hidden_member, outer_member}
use Rattle.vega_drawing.proofs.values.ValuesAtParamReader.member.Goals as goal

pub returns-then-is_own_somewhere : goal.returns-then-is_own_somewhere
returns-then-is_own_somewhere c =
    hidden_member c.args.self.now.stores.now c.args.self.now.levels.now c.args.name.now c.args.field.now
    (sym c.is_own_somewhere.ensures ∙ c.if-is_own_somewhere.true)

pub returns-else-is_own_somewhere : goal.returns-else-is_own_somewhere
returns-else-is_own_somewhere c =
    subst (λ cell. IfOk c.member.result (λ found. found ≡ cell))
    (outer_member c.args.self.now.stores.now c.args.self.now.levels.now c.args.name.now c.args.field.now
    (sym c.is_own_somewhere.ensures ∙ c.if-is_own_somewhere.false)) c.member.ensures
