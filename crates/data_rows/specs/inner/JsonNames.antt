-- What stands in rows that are given as JSON.
use Rattle.std.specs.Prelude.{ℕ, Option, List, find}
use Rattle.std.specs.Option.{option_map}
use Rattle.json_exact.specs.declared.json.Json.{out-Json}
use Rattle.json_exact.specs.declared.json.Member.{Member}
use Rattle.data_rows.specs.JsonRows.{is_huge}

-- the name of the first member whose value is a number out of range
abbrev pub huge_name : List Member → Option (List ℕ)
huge_name members = option_map (λ (m : Member). m.name) (find (λ (m : Member). is_huge (out-Json m.value)) members)
