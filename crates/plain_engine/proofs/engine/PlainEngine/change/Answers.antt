use Rattle.std.proofs.Common.{◌≡◌, true, None, Some, position, sym, ap, subst, ◌∙◌}
use Rattle.std.specs.Prelude.{IfOk}
use Rattle.std.specs.List.{list_all}
use Rattle.cell_value.specs.State.{state_of}
use Rattle.data_rows.specs.JsonRows.{first_bad}
use Rattle.param_flow.specs.declared.reply.Reply.TheVariants.{Refused}
use Rattle.param_flow.specs.declared.reply.Cause.TheVariants as cause
use Rattle.param_flow.specs.Change.{names_of_change}
use Rattle.param_flow.specs.Semantics.{has_param}
use Rattle.vega_copies.proofs.ChartLaw.{rules_kept}
use Rattle.vega_meaning.specs.Semantics.{vega_semantics}
use Rattle.plain_engine.proofs.Places.{has_name}
use Rattle.plain_engine.proofs.Replies.{not_there, row_refused, replied, changed, meant_by}
use Rattle.plain_engine.proofs.engine.PlainEngine.change.Goals as goal

pub returns-in_default-clause-reply : goal.returns-in_default-clause-reply
returns-in_default-clause-reply c =
    not_there c.args.self.now.spec c.args.self.now.state c.args.name.now c.args.change.now c.args.self.now.kept.sources
    (c.in_default.ensures ∙ ap (position (has_name c.args.name.now)) c.as_slice.ensures)

pub returns-in-Some-first_bad-clause-reply : goal.returns-in-Some-first_bad-clause-reply
returns-in-Some-first_bad-clause-reply c =
    let place = c.in-Some.ensures ∙ ap (position (has_name c.args.name.now)) c.as_slice.ensures in
    let known : list_all (has_param (vega_semantics c.args.self.now.spec)) (names_of_change c.args.change.now) ≡ true =
    sym c.in_ok-mentions_params.ensures ∙ c.if-not-branch.false in
    let bad : first_bad 0 c.args.change.now.insert ≡ Some (c.in-Some-first_bad.row, c.in-Some-first_bad.field.now) =
    ap (first_bad 0) (sym c.as_slice-2.ensures) ∙ sym c.in-Some-first_bad.ensures in
    ap (λ field. Refused (cause.Row c.in-Some-first_bad.row field)) c.in_ok-field.ensures
    ∙ row_refused c.args.self.now.spec c.args.self.now.state c.args.name.now c.args.change.now c.args.self.now.kept.sources c.in-Some.index place
    known (c.in-Some-first_bad.row, c.in-Some-first_bad.field.now) bad

pub returns-clause-reply : goal.returns-clause-reply
returns-clause-reply c =
    let h = c.args.self.now.kept in
    let place = c.in-Some.ensures ∙ ap (position (has_name c.args.name.now)) c.as_slice.ensures in
    let known : list_all (has_param (vega_semantics c.args.self.now.spec)) (names_of_change c.args.change.now) ≡ true =
    sym c.in_ok-mentions_params.ensures ∙ c.if-not-branch.false in
    let good : first_bad 0 c.args.change.now.insert ≡ None = ap (first_bad 0) (sym c.as_slice-2.ensures)
    ∙ sym c.in_default-first_bad.ensures in
    subst (λ wanted. IfOk c.change_source.result (λ reply. reply ≡ wanted))
    (replied c.args.self.now.spec c.args.self.now.state c.args.name.now c.args.change.now h.sources c.in-Some.index place known good
    (rules_kept c.args.self.now.spec h.rules).apart)
    c.change_source.ensures.reply

pub returns-clause-done : goal.returns-clause-done
returns-clause-done c =
    let h = c.args.self.now.kept in
    let place = c.in-Some.ensures ∙ ap (position (has_name c.args.name.now)) c.as_slice.ensures in
    let known : list_all (has_param (vega_semantics c.args.self.now.spec)) (names_of_change c.args.change.now) ≡ true =
    sym c.in_ok-mentions_params.ensures ∙ c.if-not-branch.false in
    let good : first_bad 0 c.args.change.now.insert ≡ None = ap (first_bad 0) (sym c.as_slice-2.ensures)
    ∙ sym c.in_default-first_bad.ensures in
    meant_by c.args.self.now.spec (state_of c.args.self.now.state) (state_of c.change_source.new.st) _ _
    (changed c.args.self.now.spec c.args.self.now.state c.args.name.now c.args.change.now h.sources c.in-Some.index place known good
    (rules_kept c.args.self.now.spec h.rules).apart)
    c.change_source.result c.change_source.ensures.done
