use Rattle.std.proofs.Common.{◌≡◌, drop}
use Rattle.vega_rules.specs.Faults.{sooner, earliest}
use Rattle.vega_rules.specs.Folds.{folds_after, folds}
use Rattle.vega_rules.specs.inner.Kept.{Tells, known_before}
use Rattle.vega_rules.proofs.folds.sooner_folds.Given as goal

-- what is kept of the parts so far, and the faults of the rest
abbrev pub invariant-loop-part : goal.invariant-loop-part
invariant-loop-part l = record {
  tells : Tells l.known (known_before l.parts l.part-index);
  same : sooner l.so_far (earliest (folds_after l.parts (known_before l.parts l.part-index) (drop l.part-index l.parts)))
      ≡ sooner l.fn.so_far (earliest (folds l.parts));
}
