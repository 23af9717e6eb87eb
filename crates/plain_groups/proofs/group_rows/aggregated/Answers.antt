use Rattle.std.proofs.Common.{◌≡◌, ◌<◌, [], map, length, get_or, All, ◌∙◌, ap, sym, subst, arith}
use Rattle.std.proofs.lemmas.List.{length-map}
use Rattle.expr_eval.specs.Answers.{Evaluates}
use Rattle.plain_groups.specs.inner.Places.{key_cells, leaders, heads_from, members_from}
use Rattle.plain_groups.proofs.MemberLemmas.{heads_within, members_within, few_members}
use Rattle.plain_groups.proofs.GroupLemmas.{groups_given, leaders_long}
use Rattle.plain_groups.proofs.group_rows.aggregated.Goals as goal

pub rows_of_heads-requires-clause-heads : goal.rows_of_heads-requires-clause-heads
rows_of_heads-requires-clause-heads c =
    let led : c.in_ok-led.led ≡ leaders (map (key_cells c.args.g.now.groupby) c.args.rows.now) =
    c.in_ok-led.ensures.value ∙ ap (λ fields. leaders (map (key_cells fields) c.args.rows.now)) c.as_slice.ensures in
    let heads : c.as_slice-4.result.now ≡ heads_from 0 (leaders (map (key_cells c.args.g.now.groupby) c.args.rows.now)) =
    c.as_slice-4.ensures ∙ c.in_ok-firsts.ensures ∙ ap (heads_from 0) (c.as_slice-3.ensures ∙ led) in
    subst (All (λ head. head < length c.args.rows.now)) (sym heads) (heads_within 0 (length c.args.rows.now)
    (leaders (map (key_cells c.args.g.now.groupby) c.args.rows.now)) (omega (arith, leaders_long (key_cells c.args.g.now.groupby) c.args.rows.now)))

pub rows_of_heads-requires-clause-within : goal.rows_of_heads-requires-clause-within
rows_of_heads-requires-clause-within c = λ p below.
    let led : c.as_slice-2.result.now ≡ leaders (map (key_cells c.args.g.now.groupby) c.args.rows.now) =
    c.as_slice-2.ensures ∙ c.in_ok-led.ensures.value ∙ ap (λ fields. leaders (map (key_cells fields) c.args.rows.now)) c.as_slice.ensures in
    let long : length c.as_slice-2.result.now ≡ length c.args.rows.now = ap length led ∙ leaders_long (key_cells c.args.g.now.groupby) c.args.rows.now in
    let members : get_or c.deref.result.now p [] ≡ members_from p 0 c.as_slice-2.result.now =
    ap (λ lists. get_or lists p []) c.deref.ensures.value ∙ c.in_ok-groups.ensures.value p (omega (arith, long, below)) in
    subst (All (λ place. place < length c.args.rows.now)) (sym members)
    (members_within p 0 (length c.args.rows.now) c.as_slice-2.result.now (omega (arith, long)))

pub rows_of_heads-requires-clause-few : goal.rows_of_heads-requires-clause-few
rows_of_heads-requires-clause-few c = λ p below.
    let led : c.as_slice-2.result.now ≡ leaders (map (key_cells c.args.g.now.groupby) c.args.rows.now) =
    c.as_slice-2.ensures ∙ c.in_ok-led.ensures.value ∙ ap (λ fields. leaders (map (key_cells fields) c.args.rows.now)) c.as_slice.ensures in
    let long : length c.as_slice-2.result.now ≡ length c.args.rows.now = ap length led ∙ leaders_long (key_cells c.args.g.now.groupby) c.args.rows.now in
    let members : get_or c.deref.result.now p [] ≡ members_from p 0 c.as_slice-2.result.now =
    ap (λ lists. get_or lists p []) c.deref.ensures.value ∙ c.in_ok-groups.ensures.value p (omega (arith, long, below)) in
    omega (arith, ap length members, few_members p 0 c.as_slice-2.result.now, long, c.requires.few, length-map c.args.rows.now (λ keyed. keyed.key))

pub returns : goal.returns
returns c =
    let led : c.in_ok-led.led ≡ leaders (map (key_cells c.args.g.now.groupby) c.args.rows.now) =
    c.in_ok-led.ensures.value ∙ ap (λ fields. leaders (map (key_cells fields) c.args.rows.now)) c.as_slice.ensures in
    let long : length c.as_slice-2.result.now ≡ length c.args.rows.now =
    ap length (c.as_slice-2.ensures ∙ led) ∙ leaders_long (key_cells c.args.g.now.groupby) c.args.rows.now in
    subst (Evaluates c.rows_of_heads.result)
    (groups_given c.args.g.now c.args.rows.now c.deref.result.now c.as_slice-4.result.now
    (c.as_slice-4.ensures ∙ c.in_ok-firsts.ensures ∙ ap (heads_from 0) (c.as_slice-3.ensures ∙ led))
    (λ p below. ap (λ lists. get_or lists p []) c.deref.ensures.value
    ∙ c.in_ok-groups.ensures.value p (omega (arith, long, below)) ∙ ap (members_from p 0) (c.as_slice-2.ensures ∙ led)))
    c.rows_of_heads.ensures
