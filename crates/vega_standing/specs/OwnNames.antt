-- Trees in which no object has a member's name twice.
use Rattle.std.specs.Prelude.{◌≡◌, false, List, [], ◌∷◌}
use Rattle.json_exact.specs.declared.json.Json.{Json, out-Json, Null, Flag, Number, Huge, Text, List', Object', Row_of-Json, end_of-Json}
use Rattle.json_exact.specs.declared.json.Json.{more_of-Json, Row_of-Member, end_of-Member, more_of-Member}
use Rattle.json_exact.specs.declared.json.Member.{Member}
use Rattle.spec_schema.specs.Layouts.{has_name}
use Rattle.spec_schema.specs.Faults.{members_of}

-- no two of some members have one name
abbrev pub AreOwn : List Member → Type 0
AreOwn [] = Unit {0}
AreOwn (m ∷ others) = (has_name others m.name ≡ false) × AreOwn others

abbrev mutual
  -- no object of a tree has a name twice
  pub HasOwnNames : Json → Type 0
  HasOwnNames Null = Unit {0}
  HasOwnNames (Flag b) = Unit {0}
  HasOwnNames (Number n) = Unit {0}
  HasOwnNames Huge = Unit {0}
  HasOwnNames (Text t) = Unit {0}
  HasOwnNames (List' size items) = HaveOwnNames items
  HasOwnNames (Object' size members) = AreOwn (members_of (out-Json (Object' size members))) × HaveValuesOwnNames members

  -- the same of each item of a list
  pub HaveOwnNames : {n : _} → Row_of-Json n → Type 0
  HaveOwnNames end_of-Json = Unit {0}
  HaveOwnNames (more_of-Json item others) = HasOwnNames item × HaveOwnNames others

  -- and of the value of each member
  pub HaveValuesOwnNames : {n : _} → Row_of-Member n → Type 0
  HaveValuesOwnNames end_of-Member = Unit {0}
  HaveValuesOwnNames (more_of-Member name value others) = HasOwnNames value × HaveValuesOwnNames others
