-- The parts break no rule.
use Rattle.std.proofs.Common.{◌≡◌, ℕ, List, refl}
use Rattle.std.specs.Prelude.{None}
use Rattle.expr_syntax.proofs.Grounds.{bytes_same}
use Rattle.vega_rules.specs.Faults.{earliest}
use Rattle.vega_rules.specs.Rules.{rule_faults}
use Rattle.vega_rules.specs.Cycles.{first_cycle}
use Rattle.compiled_bars.proofs.Parts.{parts}

pub no_fault : (name : List ℕ) → earliest (rule_faults (parts name)) ≡ None
no_fault name = rw (bytes_same name) refl

pub no_cycle : (name : List ℕ) → first_cycle (parts name) ≡ None
no_cycle name = refl
