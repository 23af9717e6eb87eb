use Rattle.plain_facets.proofs.DifferentLemmas.{copies_are_different, each_is_at_home}
use Rattle.plain_facets.proofs.PartLaw.{parts_are_members, parts_are_rows}
use Rattle.plain_facets.proofs.SumLemmas.{copies_are_summed}
use Rattle.plain_facets.proofs.laws.laws_of_facets.Goals as goal

pub returns : goal.returns
returns c = record {
  different = copies_are_different;
  at_home = each_is_at_home;
  members = parts_are_members;
  rows = parts_are_rows;
  summed = copies_are_summed;
}
