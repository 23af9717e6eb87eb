-- How lines are read.
use Rattle.std.specs.Prelude.{◌≡◌, ℕ, Option, Some, None, List, [], ◌∷◌, codes, Result, Ok, Err, if◌then◌else◌, map}
use Rattle.std.specs.Str.{bytes_eq}
use Rattle.fixed_num.specs.Ranges.{◌>>=◌, all_found}
use Rattle.json_exact.specs.declared.json.Json.{Json, out-Json}
use Rattle.json_exact.specs.declared.json.Member.{Member}
use Rattle.expr_syntax.specs.declared.expr.Expr.{Expr}
use Rattle.expr_syntax.proofs.Expressed.{expression_read}
use Rattle.param_flow.specs.declared.command.ChangeOf.{ChangeOf}
use Rattle.param_flow.specs.declared.command.Command.{Command}
use Rattle.param_flow.specs.declared.command.Command.TheVariants.{Print}
use Rattle.json_exact.specs.Inside.{text_in}
use Rattle.json_exact.specs.Path.{member_value}
use Rattle.param_flow.specs.Commands.{items_or_empty, expression_in, remove_in, modify_in, command_of_two, drag_of}
use Rattle.play_script.specs.declared.errors.LineError.{LineError}
use Rattle.play_script.specs.declared.errors.LineError.TheVariants.{Fault, Memory}

-- the error is a fault only where nothing is given
abbrev pub IsErrorOf : {X : Type 0} → LineError → Option X → Type 0
IsErrorOf Fault given = given ≡ None
IsErrorOf Memory given = Unit {0}

-- what was read is what is given, unless memory was refused
abbrev pub ReadsAs : {X : Type 0} → Result X LineError → Option X → Type 0
ReadsAs (Ok x) given = given ≡ Some x
ReadsAs (Err error) given = IsErrorOf error given

-- the expression that a text in a script is
abbrev pub script_expression : List ℕ → Option Expr
script_expression = expression_read

-- the expression under a name
abbrev pub expression_at : (List ℕ → Option Expr) → List Member → List ℕ → Option Expr
expression_at expression_of members name = member_value members name >>= expression_in expression_of

-- the text under a name
abbrev pub text_at : List Member → List ℕ → Option (List ℕ)
text_at members name = member_value members name >>= λ text. text_in (out-Json text)

-- the change that an object of these members is
abbrev pub change_with : (List ℕ → Option Expr) → List Member → Option ChangeOf
change_with expression_of members = do
  remove ← remove_in expression_of (member_value members (codes "remove"))
  entries ← items_or_empty (member_value members (codes "modify"))
  modify ← all_found (map (modify_in expression_of) entries)
  insert ← items_or_empty (member_value members (codes "insert"))
  Some (record { remove = remove; modify = modify; insert = insert })

-- the items of a list of three
abbrev pub three_in : List Json → Option (Json × Json × Json)
three_in (a ∷ b ∷ c ∷ []) = Some (a, b, c)
three_in other = None

-- the command that a list of a word and two values is
abbrev pub command_of_three : (List ℕ → Option Expr) → List Json → Option Command
command_of_three expression_of items = do
  three ← three_in items
  word ← text_in (out-Json three.0)
  command_of_two expression_of word three.1 three.2

-- the print that a word is
abbrev pub print_in : Json → Option Command
print_in word = text_in (out-Json word) >>= λ text. if bytes_eq text (codes "print") then Some Print else None

-- the command that a list of one or five items is
abbrev pub other_command_in : List Json → Option Command
other_command_in (word ∷ []) = print_in word
other_command_in (word ∷ a ∷ b ∷ c ∷ d ∷ []) = text_in (out-Json word) >>= λ text. drag_of text a b c d
other_command_in other = None
