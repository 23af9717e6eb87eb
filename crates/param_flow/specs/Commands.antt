-- Which lines of a script are commands.
use Rattle.std.specs.Prelude.{◌≡◌, refl, ℕ, ℤ, pos, Bool, Option, Some, None, List, [], ◌∷◌, length, map, if◌then◌else◌, codes}
use Rattle.std.specs.List.{list_all, list_any}
use Rattle.std.specs.Option.{option_map}
use Rattle.std.specs.Str.{bytes_eq}
use Rattle.fixed_num.specs.Ranges.{◌>>=◌, all_found}
use Rattle.json_exact.specs.declared.json.Json.{Json, Json-F, out-Json}
use Rattle.json_exact.specs.declared.json.Json.TheOpen as level
use Rattle.json_exact.specs.declared.json.Json.TheVariants as json
use Rattle.json_exact.specs.declared.json.Member.{Member}
use Rattle.json_exact.specs.Inside.{text_in, number_in, items_in, members_in}
use Rattle.json_exact.specs.Path.{member_value}
use Rattle.json_exact.specs.Reading.{Reads}
use Rattle.cell_value.specs.declared.cell.Cell.{Cell}
use Rattle.cell_value.specs.declared.cell.Cell.TheVariants as cell
use Rattle.expr_syntax.specs.declared.expr.Expr.{Expr}
use Rattle.expr_syntax.specs.declared.expr.Expr.TheVariants as expr
use Rattle.expr_syntax.specs.Expressions.{ReadsExpressions}
use Rattle.param_flow.specs.declared.event.Event.{Event}
use Rattle.param_flow.specs.declared.event.Event.TheVariants as mouse
use Rattle.param_flow.specs.declared.command.Modify.{Modify}
use Rattle.param_flow.specs.declared.command.ChangeOf.{ChangeOf}
use Rattle.param_flow.specs.declared.command.Command.{Command}
use Rattle.param_flow.specs.declared.command.Command.TheVariants.{Change, Set, Event as OfMouse, Print}

-- whether all members of an object have one of these names
abbrev pub has_only : List (List ℕ) → List Member → Bool
has_only names members = list_all (λ (m : Member). list_any (bytes_eq m.name) names) members

-- the members of an object all of whose members have one of these names
abbrev pub members_among : List (List ℕ) → Json-F Json Member → Option (List Member)
members_among names tree = members_in tree >>= λ members. if has_only names members then Some members else None

-- the items of a list, none where it is absent
abbrev pub items_or_empty : Option Json → Option (List Json)
items_or_empty None = Some []
items_or_empty (Some tree) = items_in (out-Json tree)

-- two numbers as a cell
abbrev pub pair_in : List Json → Option Cell
pair_in (a ∷ b ∷ []) = do
  x ← number_in (out-Json a)
  y ← number_in (out-Json b)
  Some (cell.Pair x y)
pair_in other = None

-- the value that a parameter can be set to: null, a truth value, a number, a text, or a list of two numbers
abbrev pub settable_in : Json-F Json Member → Option Cell
settable_in level.Null = Some cell.Null
settable_in (level.Flag b) = Some (cell.Flag b)
settable_in (level.Number n) = Some (cell.Number n)
settable_in (level.Text text) = Some (cell.Text text)
settable_in (level.List items) = pair_in items
settable_in other = None

-- the event of the mouse at one place that a word names
abbrev pub event_at : List ℕ → ℤ → ℤ → Option Event
event_at word x y =
    if bytes_eq word (codes "click") then Some (mouse.Click x y)
    else (if bytes_eq word (codes "shift") then Some (mouse.Shift x y)
    else (if bytes_eq word (codes "double") then Some (mouse.Double x y)
    else None))

-- `["set", NAME, VALUE]`
abbrev pub set_of : Json → Json → Option Command
set_of parameter tree = do
  name ← text_in (out-Json parameter)
  value ← settable_in (out-Json tree)
  Some (Set name value)

-- `["click", X, Y]`, `["shift", X, Y]` and `["double", X, Y]`
abbrev pub event_of : List ℕ → Json → Json → Option Command
event_of word a b = do
  x ← number_in (out-Json a)
  y ← number_in (out-Json b)
  option_map OfMouse (event_at word x y)

-- `["drag", X1, Y1, X2, Y2]`
abbrev pub drag_of : List ℕ → Json → Json → Json → Json → Option Command
drag_of word a b c d = do
  x1 ← number_in (out-Json a)
  y1 ← number_in (out-Json b)
  x2 ← number_in (out-Json c)
  y2 ← number_in (out-Json d)
  if bytes_eq word (codes "drag") then Some (OfMouse (mouse.Drag x1 y1 x2 y2)) else None

-- what values are, where expressions are read this way
module _ (expression_of : List ℕ → Option Expr) where
  -- the expression that a text is
  abbrev pub expression_in : Json → Option Expr
  expression_in tree = text_in (out-Json tree) >>= expression_of

  -- the expression of a member that may be absent
  abbrev pub remove_in : Option Json → Option (Option Expr)
  remove_in None = Some None
  remove_in (Some tree) = option_map Some (expression_in tree)

  -- an entry of `modify`: `{"where": EXPRESSION, "field": TEXT, "set": EXPRESSION}`
  abbrev pub modify_in : Json → Option Modify
  modify_in tree = do
    members ← members_among (codes "where" ∷ codes "field" ∷ codes "set" ∷ []) (out-Json tree)
    test ← member_value members (codes "where") >>= expression_in
    field ← member_value members (codes "field") >>= λ text. text_in (out-Json text)
    value ← member_value members (codes "set") >>= expression_in
    Some (record { test = test; field = field; value = value })

  -- a change: `{"remove": EXPRESSION, "modify": LIST, "insert": LIST}`, each optional
  abbrev pub change_in : Json → Option ChangeOf
  change_in tree = do
    members ← members_among (codes "remove" ∷ codes "modify" ∷ codes "insert" ∷ []) (out-Json tree)
    remove ← remove_in (member_value members (codes "remove"))
    entries ← items_or_empty (member_value members (codes "modify"))
    modify ← all_found (map modify_in entries)
    insert ← items_or_empty (member_value members (codes "insert"))
    Some (record { remove = remove; modify = modify; insert = insert })

  -- `["change", SOURCE, OBJECT]`
  abbrev pub change_of : Json → Json → Option Command
  change_of source tree = do
    name ← text_in (out-Json source)
    change ← change_in tree
    Some (Change name change)

  -- a list of a word and two values
  abbrev pub command_of_two : List ℕ → Json → Json → Option Command
  command_of_two word a b =
      if bytes_eq word (codes "change") then change_of a b
      else (if bytes_eq word (codes "set") then set_of a b
      else event_of word a b)

  -- the command that the items of a list are
  abbrev pub command_in : List Json → Option Command
  command_in (word ∷ []) = text_in (out-Json word) >>= λ text. if bytes_eq text (codes "print") then Some Print else None
  command_in (word ∷ a ∷ b ∷ []) = text_in (out-Json word) >>= λ text. command_of_two text a b
  command_in (word ∷ a ∷ b ∷ c ∷ d ∷ []) = text_in (out-Json word) >>= λ text. drag_of text a b c d
  command_in other = None

  -- the command that a value is
  abbrev pub command_of : Json → Option Command
  command_of tree = items_in (out-Json tree) >>= command_in

-- the bytes are this command
pub record IsCommand (line : List ℕ) (command : Command) : Type 0 where
  pub tree : Json
  pub reads : Reads line tree
  pub expression_of : List ℕ → Option Expr
  pub expressions : ReadsExpressions expression_of
  pub is : command_of expression_of tree ≡ Some command

-- The rules at work.

-- each text is the expression of that text
abbrev as_text : List ℕ → Option Expr
as_text text = Some (expr.Text text)

abbrev number : ℕ → Json
number n = json.Number (pos n)

abbrev at : List ℕ → Json → Member
at name value = record { name = name; value = value }

abbrev names_of_entries : List (List ℕ)
names_of_entries = codes "where" ∷ codes "field" ∷ codes "set" ∷ []

a_print : (command_in as_text (json.Text (codes "print") ∷ []) ≡ Some Print)
    × (command_in as_text (json.Text (codes "print") ∷ number 1 ∷ []) ≡ None)
unfolding out-Json denote.Hole.Carrier.out
a_print = (refl, refl)

an_unknown_member : members_among names_of_entries (level.Object (at (codes "set") json.Null ∷ at (codes "to") json.Null ∷ [])) ≡ None
unfolding out-Json denote.Hole.Carrier.out
an_unknown_member = refl

members_in_any_order :
    option_map length (members_among names_of_entries (level.Object (at (codes "set") json.Null ∷ at (codes "where") json.Null ∷ [])))
    ≡ Some 2
unfolding out-Json denote.Hole.Carrier.out
members_in_any_order = refl

null_is_no_member : (remove_in as_text (Some json.Null) ≡ None) × (remove_in as_text None ≡ Some None)
    × (items_or_empty (Some json.Null) ≡ None) × (items_or_empty None ≡ Some [])
unfolding out-Json denote.Hole.Carrier.out
null_is_no_member = (refl, refl, refl, refl)

what_can_be_set : (settable_in (level.List (number 1 ∷ number 2 ∷ [])) ≡ Some (cell.Pair (pos 1) (pos 2)))
    × (command_in as_text (json.Text (codes "set") ∷ json.Text (codes "k") ∷ json.Null ∷ []) ≡ Some (Set (codes "k") cell.Null))
unfolding out-Json denote.Hole.Carrier.out
what_can_be_set = (refl, refl)

what_cannot_be_set : (settable_in level.Huge ≡ None) × (settable_in (level.List (number 1 ∷ [])) ≡ None)
    × (settable_in (level.List (number 1 ∷ json.Huge ∷ [])) ≡ None)
unfolding out-Json denote.Hole.Carrier.out
what_cannot_be_set = (refl, refl, refl)

events : (command_in as_text (json.Text (codes "click") ∷ number 1 ∷ number 2 ∷ []) ≡ Some (OfMouse (mouse.Click (pos 1) (pos 2))))
    × (command_in as_text (json.Text (codes "click") ∷ number 1 ∷ json.Huge ∷ []) ≡ None)
    × (command_in as_text (json.Text (codes "drag") ∷ number 1 ∷ number 2 ∷ []) ≡ None)
    × (command_in as_text (json.Text (codes "drag") ∷ number 1 ∷ number 2 ∷ number 3 ∷ number 4 ∷ [])
    ≡ Some (OfMouse (mouse.Drag (pos 1) (pos 2) (pos 3) (pos 4))))
unfolding out-Json denote.Hole.Carrier.out
events = (refl, refl, refl, refl)
