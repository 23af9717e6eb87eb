-- What a channel shows, as branches: of its conditions the first that holds decides, and where none does, the channel's own definition. A condition
-- shows a channel in turn, with conditions of its own, whose branches stand under its test too. A definition without any member says
-- nothing where conditions stand beside it.
use Rattle.std.specs.Prelude.{Bool, true, false, ◌&&◌, not, Option, Some, None, List, [], ◌∷◌, ◌++◌, flat_map, is_some, if◌then◌else◌}
use Rattle.std.specs.List.{list_any}
use Rattle.vl_spec.specs.declared.channels.Channel.{Channel, Channel-F, fold-Channel}
use Rattle.vl_spec.specs.declared.channels.ChannelKind.{ChannelKind}
use Rattle.vl_spec.specs.declared.channels.ChannelKind.TheVariants as channel_kind
use Rattle.vl_spec.specs.declared.channels.Condition.{Condition-F}
use Rattle.vl_spec.specs.declared.channels.Conditions.{Conditions-F}
use Rattle.vl_spec.specs.declared.channels.Conditions.TheOpen as level
use Rattle.vl_spec.specs.declared.channels.Test.{Test}
use Rattle.vl_spec.specs.declared.definitions.Definition.{Definition}
use Rattle.vl_spec.specs.declared.definitions.Definition.TheVariants as definition
use Rattle.vl_compose.specs.Definitions.{is_bare}

-- what is shown where all of some tests hold
pub record Branch : Type 0 where
  pub tests : List Test
  pub shows : Definition

-- whether a definition says something, by whether conditions stand beside it
abbrev pub says : Definition → Bool → Bool
says (definition.Value cell) conditional = true
says (definition.Datum of) conditional = true
says (definition.Field of) conditional = not (conditional && is_bare of)

abbrev pub is_empty : {A : Type 0} → List A → Bool
is_empty [] = true
is_empty (first ∷ others) = false

-- the branches of something that stands under some tests
abbrev pub Under : Type 0
Under = List Test → List Branch

abbrev pub own_branch : Definition → Bool → Under
own_branch d conditional tests = if says d conditional then record { tests = tests; shows = d } ∷ [] else []

-- those of conditions, if there are any
abbrev pub some_under : Option Under → Under
some_under None tests = []
some_under (Some conditions) tests = conditions tests

abbrev pub channel_here : Channel-F Under Under Under → Under
channel_here c tests = some_under c.condition tests ++ own_branch c.definition (is_some c.condition) tests

abbrev pub conditions_here : Conditions-F Under Under Under → Under
conditions_here (level.One condition) tests = condition tests
conditions_here (level.Several conditions) tests = flat_map (λ (condition : Under). condition tests) conditions

abbrev pub condition_here : Condition-F Under Under Under → Under
condition_here c tests = c.shows (tests ++ c.test ∷ [])

abbrev pub branches_under : Channel → Under
branches_under = fold-Channel Under Under Under conditions_here channel_here condition_here

-- the branches of a channel
abbrev pub branches_of : Channel → List Branch
branches_of c = branches_under c []

-- the branches of what stands under the name of a channel: of a list those of each
abbrev pub branches_in : ChannelKind → List Branch
branches_in (channel_kind.One c) = branches_of c
branches_in (channel_kind.Several cs) = flat_map branches_of cs

-- whether no test stands before a branch, so that it counts for every row
abbrev pub is_certain : Branch → Bool
is_certain b = is_empty b.tests

-- whether one of some branches counts for each row
abbrev pub covers : List Branch → Bool
covers branches = list_any is_certain branches
