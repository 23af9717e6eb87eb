use Rattle.std.proofs.Common.{◌≡◌, drop, map}
use Rattle.fixed_num.specs.Ranges.{all_found}
use Rattle.first_form.specs.FirstForm.{value_in}
use Rattle.fixed_num.proofs.FoundLemmas.{after}
use Rattle.first_form.proofs.form.values_in.Given as goal

abbrev pub invariant-loop-row : goal.invariant-loop-row
invariant-loop-row l =
    after l.values (all_found (map (value_in l.x l.y) (drop l.row-index l.rows))) ≡ all_found (map (value_in l.x l.y) l.rows)
