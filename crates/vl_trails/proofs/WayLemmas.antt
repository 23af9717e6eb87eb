-- There and back by one step, and more faults behind others.
use Rattle.std.proofs.Common.{◌≡◌, ◌+◌, ◌-◌, Option, List, [], ◌∷◌, ◌++◌, length, length-append, take, refl, ap, arith}
use Rattle.std.proofs.lemmas.List.{take_at}
use Rattle.spec_schema.specs.declared.fault.Fault.{Fault}
use Rattle.spec_walk.specs.declared.places.Step.{Step}
use Rattle.vl_trails.specs.declared.fault.RuleFault.{RuleFault}
use Rattle.vl_trails.specs.declared.judging.Judging.{Judging}
use Rattle.vl_trails.specs.Judging.{entered, left, after}
use Rattle.vl_trails.proofs.OrderLemmas.{none_more, two_lists}

back : (trail : List Step) (step : Step) → take (length (trail ++ step ∷ []) - 1) (trail ++ step ∷ []) ≡ trail
back trail step =
    let size : length (trail ++ step ∷ []) ≡ length trail + 1 = length-append trail (step ∷ []) in
    take_at trail (step ∷ []) (length (trail ++ step ∷ []) - 1) (omega arith)

-- one step further, faults there, and back
pub there_and_back : (j : Judging) (step : Step) (faults : List RuleFault) → left (after (entered j step) faults) ≡ after j faults
there_and_back j step faults = ap (λ (t : List Step). record (after j faults) { trail = t }) (back j.trail step)

-- faults, and then more
pub then_after : (j : Judging) (xs ys : List RuleFault) → after (after j xs) ys ≡ after j (xs ++ ys)
then_after j xs ys = ap (λ (f : Option Fault). record j { first = f }) (two_lists j.tree.now j.first _ _ xs ys refl refl)

-- no fault more
pub after_none : (j : Judging) → after j [] ≡ j
after_none j = ap (λ (f : Option Fault). record j { first = f }) (none_more j.first)
