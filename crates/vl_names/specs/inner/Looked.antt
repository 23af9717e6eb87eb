-- What an index of parameters knows.
use Rattle.std.specs.Prelude.{ℕ, ◌==◌, Option, None, List, Vec, length, if◌then◌else◌}
use Rattle.std.specs.BTreeMap.{BTreeMap}
use Rattle.std.specs.declared.alloc.Global.{Global}
use Rattle.vl_names.specs.declared.known.ParamNames.{ParamNames}
use Rattle.vl_names.specs.Known.{Known, known_with}
use Rattle.vl_names.specs.inner.Keyed.{number_at}

-- the number of the first parameter of a name
abbrev pub named_by : BTreeMap (Vec ℕ Global) ℕ → List ℕ → Option ℕ
named_by index name = if length name == 0 then None else number_at index name

-- which names are known
abbrev pub known_shown : ParamNames → Known
known_shown known = known_with known.params.now (named_by known.index.now)
