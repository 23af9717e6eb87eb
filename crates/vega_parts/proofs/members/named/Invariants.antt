use Rattle.std.proofs.Common.{◌≡◌, drop, ℕ}
use Rattle.std.specs.Prelude.{find}
use Rattle.std.specs.Option.{option_map}
use Rattle.std.specs.List.{enumerate_from}
use Rattle.std.specs.Str.{bytes_eq}
use Rattle.json_exact.specs.declared.json.Member.{Member}
use Rattle.vega_parts.specs.Members.{named}
use Rattle.vega_parts.proofs.members.named.Given as goal

abbrev pub invariant-loop-number : goal.invariant-loop-number
invariant-loop-number l = option_map (λ (m : ℕ × Member). (m.0, m.1.value))
    (find (λ (m : ℕ × Member). bytes_eq m.1.name l.name) (enumerate_from l.number (drop l.number l.members)))
    ≡ named l.name l.members
