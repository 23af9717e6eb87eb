use Rattle.std.proofs.Common.{◌≡◌, ◌<◌, ℕ, [], map, length, get_or, All, Some, Ok, Err, ◌∙◌, ap, ap₂, sym, subst, arith}
use Rattle.std.proofs.lemmas.List.{length-map}
use Rattle.plain_groups.specs.inner.Places.{key_cells, leaders, members_from}
use Rattle.plain_groups.specs.inner.GroupPlaces.{AreGiven, joined_rows}
use Rattle.plain_groups.proofs.MemberLemmas.{members_within, few_members}
use Rattle.plain_groups.proofs.GroupLemmas.{leaders_long}
use Rattle.plain_groups.proofs.JoinLemmas.{joined_given, stops_given}
use Rattle.plain_groups.proofs.joins.joined.Goals as goal

pub given-requires-clause-within : goal.given-requires-clause-within
given-requires-clause-within c = λ p below.
    let led : c.as_slice-2.result.now ≡ leaders (map (key_cells c.args.g.now.groupby) c.args.rows.now) =
    c.as_slice-2.ensures ∙ c.in_ok-led.ensures.value ∙ ap (λ fields. leaders (map (key_cells fields) c.args.rows.now)) c.as_slice.ensures in
    let long : length c.as_slice-2.result.now ≡ length c.args.rows.now = ap length led ∙ leaders_long (key_cells c.args.g.now.groupby) c.args.rows.now in
    let lists : length c.deref.result.now ≡ length c.as_slice-2.result.now = ap length c.deref.ensures.value ∙ c.in_ok-groups.ensures.len in
    let members : get_or c.deref.result.now p [] ≡ members_from p 0 c.as_slice-2.result.now =
    ap (λ lists. get_or lists p []) c.deref.ensures.value ∙ c.in_ok-groups.ensures.value p (omega (arith, lists, below)) in
    subst (All (λ place. place < length c.args.rows.now)) (sym members)
    (members_within p 0 (length c.args.rows.now) c.as_slice-2.result.now (omega (arith, long)))

pub given-requires-clause-few : goal.given-requires-clause-few
given-requires-clause-few c = λ p below.
    let led : c.as_slice-2.result.now ≡ leaders (map (key_cells c.args.g.now.groupby) c.args.rows.now) =
    c.as_slice-2.ensures ∙ c.in_ok-led.ensures.value ∙ ap (λ fields. leaders (map (key_cells fields) c.args.rows.now)) c.as_slice.ensures in
    let long : length c.as_slice-2.result.now ≡ length c.args.rows.now = ap length led ∙ leaders_long (key_cells c.args.g.now.groupby) c.args.rows.now in
    let lists : length c.deref.result.now ≡ length c.as_slice-2.result.now = ap length c.deref.ensures.value ∙ c.in_ok-groups.ensures.len in
    let members : get_or c.deref.result.now p [] ≡ members_from p 0 c.as_slice-2.result.now =
    ap (λ lists. get_or lists p []) c.deref.ensures.value ∙ c.in_ok-groups.ensures.value p (omega (arith, lists, below)) in
    omega (arith, ap length members, few_members p 0 c.as_slice-2.result.now, long, c.requires.few, length-map c.args.rows.now (λ keyed. keyed.key))

pub returns-in-Ok : goal.returns-in-Ok
returns-in-Ok c =
    let led : c.in_ok-led.led ≡ leaders (map (key_cells c.args.g.now.groupby) c.args.rows.now) =
    c.in_ok-led.ensures.value ∙ ap (λ fields. leaders (map (key_cells fields) c.args.rows.now)) c.as_slice.ensures in
    let long = leaders_long (key_cells c.args.g.now.groupby) c.args.rows.now in
    let wide : length c.as_slice-2.result.now ≡ length c.args.rows.now = ap length (c.as_slice-2.ensures ∙ led) ∙ long in
    let told : (p : ℕ) → p < length c.args.rows.now
    → get_or c.deref.result.now p [] ≡ members_from p 0 (leaders (map (key_cells c.args.g.now.groupby) c.args.rows.now)) =
    λ p below. ap (λ lists. get_or lists p []) c.deref.ensures.value
    ∙ c.in_ok-groups.ensures.value p (omega (arith, wide, below)) ∙ ap (members_from p 0) (c.as_slice-2.ensures ∙ led) in
    let are = subst (λ ls. AreGiven c.args.g.now.ops c.args.rows.now ls c.deref.result.now (Ok c.in-Ok.cells)) (c.as_slice-3.ensures ∙ led)
    (subst (λ ops. AreGiven ops c.args.rows.now c.as_slice-3.result.now c.deref.result.now (Ok c.in-Ok.cells)) c.as_slice-4.ensures c.in-Ok.ensures) in
    joined_given c.args.g.now c.args.rows.now c.deref.result.now told c.in-Ok.cells are long
    ∙ ap Some (sym (c.in_ok-joined_rows-in-Ok.ensures
    ∙ ap₂ (λ given ls. joined_rows given c.args.rows.now ls) c.as_slice-in-Ok-2.ensures (c.as_slice-in-Ok.ensures ∙ led)))

pub returns : goal.returns
returns c =
    let led : c.in_ok-led.led ≡ leaders (map (key_cells c.args.g.now.groupby) c.args.rows.now) =
    c.in_ok-led.ensures.value ∙ ap (λ fields. leaders (map (key_cells fields) c.args.rows.now)) c.as_slice.ensures in
    let long = leaders_long (key_cells c.args.g.now.groupby) c.args.rows.now in
    let wide : length c.as_slice-2.result.now ≡ length c.args.rows.now = ap length (c.as_slice-2.ensures ∙ led) ∙ long in
    let told : (p : ℕ) → p < length c.args.rows.now
    → get_or c.deref.result.now p [] ≡ members_from p 0 (leaders (map (key_cells c.args.g.now.groupby) c.args.rows.now)) =
    λ p below. ap (λ lists. get_or lists p []) c.deref.ensures.value
    ∙ c.in_ok-groups.ensures.value p (omega (arith, wide, below)) ∙ ap (members_from p 0) (c.as_slice-2.ensures ∙ led) in
    let are = subst (λ ls. AreGiven c.args.g.now.ops c.args.rows.now ls c.deref.result.now (Err c.in-Err.error)) (c.as_slice-3.ensures ∙ led)
    (subst (λ ops. AreGiven ops c.args.rows.now c.as_slice-3.result.now c.deref.result.now (Err c.in-Err.error)) c.as_slice-4.ensures c.in-Err.ensures) in
    stops_given c.args.g.now c.args.rows.now c.deref.result.now told c.in-Err.error are long
