use Rattle.fixed_num.proofs.LawLemmas.{rounded_keeps_order, rounded_is_exact, middle_goes_up, floored_is_multiple, ceiled_is_multiple}
use Rattle.fixed_num.proofs.LawLemmas.{ratio_is_fraction, one_root, root_of_is_root}
use Rattle.fixed_num.proofs.laws.laws_of_numbers.Goals as goal

pub returns : goal.returns
returns c = record {
  rounded_keeps_order = rounded_keeps_order;
  rounded_is_exact = rounded_is_exact;
  middle_goes_up = middle_goes_up;
  floored_is_multiple = floored_is_multiple;
  ceiled_is_multiple = ceiled_is_multiple;
  ratio_is_fraction = ratio_is_fraction;
  one_root = one_root;
  root_of_is_root = root_of_is_root;
}
