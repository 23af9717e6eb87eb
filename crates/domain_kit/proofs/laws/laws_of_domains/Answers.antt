use Rattle.domain_kit.proofs.CountLemmas.{ends_give_the_extent, same_numbers_end_alike, same_cells_stand_alike, ranks_are_by_keys}
use Rattle.domain_kit.proofs.FirstLemmas.{firsts_are_of_firsts}
use Rattle.domain_kit.proofs.laws.laws_of_domains.Goals as goal

pub returns : goal.returns
returns c = record {
  extent = ends_give_the_extent;
  numbers = same_numbers_end_alike;
  cells = same_cells_stand_alike;
  firsts = firsts_are_of_firsts;
  ranks = ranks_are_by_keys;
}
