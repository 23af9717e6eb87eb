use Rattle.std.proofs.Common.{◌≡◌, drop}
use Rattle.std.specs.List.{fold}
use Rattle.guide_infer.specs.Titles.{and_title}
use Rattle.guide_infer.proofs.titles.push_others.Given as goal

abbrev pub invariant-loop-other : goal.invariant-loop-other
invariant-loop-other l =
    fold and_title l.title (drop l.other-index l.others) ≡ fold and_title l.fn.title l.others
