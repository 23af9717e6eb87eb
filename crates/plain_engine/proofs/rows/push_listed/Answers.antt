use Rattle.std.proofs.Common.{◌≡◌, ◌++◌, [], map, sym, ap, ◌∙◌, subst, append-nil}
use Rattle.std.specs.Prelude.{OnOk, if◌then◌else◌}
use Rattle.mark_encode.specs.Orders.{data_of}
use Rattle.plain_rows.specs.Rows.{AreRows}
use Rattle.vega_lists.specs.Held.{scope_read}
use Rattle.vega_spec.specs.declared.spec.VgMark.{out-VgMark}
use Rattle.vega_copies.specs.inner.Levels.{rows_at, rows_behind}
use Rattle.vega_charts.specs.Items.{rows_of_mark}
use Rattle.plain_engine.specs.inner.Rows.{entries_of_rows, seen}
use Rattle.plain_engine.proofs.rows.push_listed.Goals as goal

pub push_rows-requires : goal.push_rows-requires
push_rows-requires c = subst (λ rows. AreRows (rows_behind rows)) (sym c.as_slice.ensures) c.in_ok-rows.ensures.rows

pub returns-in_ok-rows : goal.returns-in_ok-rows
returns-in_ok-rows c =
    let names = c.args.names.now in
    let listed = entries_of_rows c.args.unit
    (rows_of_mark (scope_read (rows_at names.sources.now names.levels.now)) (out-VgMark c.args.mark.now).from) in
    subst (λ entries. OnOk c.push_rows.result (map seen c.push_rows.new.out ≡ map seen c.args.out.now ++ entries))
    (ap (entries_of_rows c.args.unit) (ap data_of c.as_slice.ensures ∙ c.in_ok-rows.ensures.read)
    ∙ ap (λ b. if b then listed else []) (sym (sym c.has_keys.ensures ∙ c.if-has_keys.true)))
    c.push_rows.ensures

pub returns-else-has_keys : goal.returns-else-has_keys
returns-else-has_keys c =
    let names = c.args.names.now in
    let listed = entries_of_rows c.args.unit
    (rows_of_mark (scope_read (rows_at names.sources.now names.levels.now)) (out-VgMark c.args.mark.now).from) in
    sym (ap (λ b. map seen c.args.out.now ++ (if b then listed else [])) (sym c.has_keys.ensures ∙ c.if-has_keys.false)
    ∙ append-nil (map seen c.args.out.now))
