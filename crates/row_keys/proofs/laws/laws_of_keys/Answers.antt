use Rattle.std.proofs.Common.{refl}
use Rattle.row_keys.proofs.LawLemmas.{order_is_total, only_equal_keys_tie, alike_rows_have_one_key, keys_stand_as_rows}
use Rattle.row_keys.proofs.laws.laws_of_keys.Goals as goal

pub returns : goal.returns
returns c = record {
  ids = λ a b. refl;
  total = order_is_total;
  ties = only_equal_keys_tie;
  alike = alike_rows_have_one_key;
  rows = keys_stand_as_rows;
}
