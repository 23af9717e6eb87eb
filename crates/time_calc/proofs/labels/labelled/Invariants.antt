use Rattle.std.proofs.Common.{◌≡◌, ℕ, List, ◌++◌, false, option_map}
use Rattle.time_calc.specs.inner.Labels.{text_of}
use Rattle.time_calc.proofs.labels.labelled.Given as goal

abbrev pub invariant-loop-c : goal.invariant-loop-c
invariant-loop-c l = (rest : List ℕ) → text_of l.instant false (l.yielded ++ rest) ≡ option_map (λ t. l.out ++ t) (text_of l.instant l.after_percent rest)
