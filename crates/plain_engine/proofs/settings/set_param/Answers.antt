use Rattle.std.proofs.Common.{◌≡◌, sym, ap, subst, ◌∙◌}
use Rattle.std.specs.Prelude.{Ok, IfOk}
use Rattle.cell_value.specs.State.{state_of}
use Rattle.vega_spec.specs.Names.{parameters_of}
use Rattle.param_flow.specs.declared.param_error.ParamError.TheVariants as error
use Rattle.param_flow.specs.Settings.{params_set}
use Rattle.plain_engine.specs.inner.Kept.{param_names}
use Rattle.plain_engine.specs.inner.Settings.{state_if_put}
use Rattle.plain_engine.proofs.SettingLemmas.{names_stay, values_set, reply_set, reply_refused}
use Rattle.plain_engine.proofs.settings.set_param.Goals as goal

pub put_params-requires-clause-names : goal.put_params-requires-clause-names
put_params-requires-clause-names c =
    let g = c.args.g.now in
    let st = c.args.st.now in
    let name = c.args.name.now in
    let value = c.args.value.now in
    let e : params_set (parameters_of g) (record { params = st.params; stores = st.stores }) name value ≡ Ok c.in-Ok.next =
    (λ i. params_set (parameters_of g) (sym c.in_ok-now.ensures i) name (sym c.in_ok-given.ensures i)) ∙ c.in-Ok.ensures in
    ap param_names (values_set g st name value c.in-Ok.next e) ∙ names_stay name value st.params ∙ c.requires.kept.params

pub returns-in-Ok-clause-reply : goal.returns-in-Ok-clause-reply
returns-in-Ok-clause-reply c =
    let g = c.args.g.now in
    let st = c.args.st.now in
    let name = c.args.name.now in
    let value = c.args.value.now in
    let e : params_set (parameters_of g) (record { params = st.params; stores = st.stores }) name value ≡ Ok c.in-Ok.next =
    (λ i. params_set (parameters_of g) (sym c.in_ok-now.ensures i) name (sym c.in_ok-given.ensures i)) ∙ c.in-Ok.ensures in
    subst (λ wanted. IfOk c.put_params.result (λ reply. reply ≡ wanted)) (reply_set g st name value c.in-Ok.next e) c.put_params.ensures.reply

pub returns-in-Ok-clause-done : goal.returns-in-Ok-clause-done
returns-in-Ok-clause-done c =
    let g = c.args.g.now in
    let st = c.args.st.now in
    let name = c.args.name.now in
    let value = c.args.value.now in
    let e : params_set (parameters_of g) (record { params = st.params; stores = st.stores }) name value ≡ Ok c.in-Ok.next =
    (λ i. params_set (parameters_of g) (sym c.in_ok-now.ensures i) name (sym c.in_ok-given.ensures i)) ∙ c.in-Ok.ensures in
    subst (λ params. IfOk c.put_params.result (λ reply. state_of c.put_params.new.st ≡ state_if_put reply (state_of st) params))
    (values_set g st name value c.in-Ok.next e) c.put_params.ensures.done

pub returns-in-Err-NoSuchName-clause-reply : goal.returns-in-Err-NoSuchName-clause-reply
returns-in-Err-NoSuchName-clause-reply c =
    let g = c.args.g.now in
    let name = c.args.name.now in
    let fault = rw c.in-Err-NoSuchName.field-0-is at c.in-Err-NoSuchName.ensures in
    reply_refused g c.args.st.now name c.args.value.now error.NoSuchName
    ((λ i. params_set (parameters_of g) (sym c.in_ok-now.ensures i) name (sym c.in_ok-given.ensures i)) ∙ fault)

pub returns-in-Err-Computed-clause-reply : goal.returns-in-Err-Computed-clause-reply
returns-in-Err-Computed-clause-reply c =
    let g = c.args.g.now in
    let name = c.args.name.now in
    let fault = rw c.in-Err-Computed.field-0-is at c.in-Err-Computed.ensures in
    reply_refused g c.args.st.now name c.args.value.now error.Computed
    ((λ i. params_set (parameters_of g) (sym c.in_ok-now.ensures i) name (sym c.in_ok-given.ensures i)) ∙ fault)
