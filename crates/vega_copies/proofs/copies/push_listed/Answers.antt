use Rattle.std.proofs.lemmas.Result.{on_ok_weaker}
use Rattle.vega_copies.specs.inner.Copied.{scope_at}
use Rattle.vega_copies.proofs.CopyLemmas.{data_more, ids_more}
use Rattle.vega_copies.proofs.copies.push_listed.Goals as goal

pub returns : goal.returns
returns c = record {
  read =
      on_ok_weaker c.append.result
      (λ e. data_more c.args.rows.now c.in_ok-rows_listed.field-0 _ (scope_at c.args.names.now c.args.list.now) e c.in_ok-rows_listed.ensures.read)
      c.append.ensures.ok;
  ids =
      on_ok_weaker c.append.result
      (λ e. ids_more c.args.rows.now c.in_ok-rows_listed.field-0 _ e c.requires.ids c.in_ok-rows_listed.ensures.ids)
      c.append.ensures.ok;
}
