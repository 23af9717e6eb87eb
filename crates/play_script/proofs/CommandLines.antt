-- What is answered to a line, by what its tree is read as.
use Rattle.std.proofs.Common.{◌≡◌, ℕ, List, Some, None, Result, Ok, Err, refl, sym, ◌∙◌, inl, inr, ◌⊎◌}
use Rattle.std.specs.Prelude.{IfOk}
use Rattle.json_exact.specs.declared.json.Json.{Json}
use Rattle.json_exact.specs.Reading.{Reads}
use Rattle.param_flow.specs.declared.command.Command.{Command}
use Rattle.param_flow.specs.Commands.{IsCommand, command_of}
use Rattle.play_script.specs.declared.errors.LineError.{LineError}
use Rattle.play_script.specs.declared.errors.LineError.TheVariants.{Fault, Memory}
use Rattle.play_script.specs.inner.Once.{read_command, is_command}
use Rattle.play_script.specs.inner.Reading.{ReadsAs, script_expression}

module _ (line : List ℕ) (tree : Json) (reads : Reads line tree) where
  pub line_sound : (result : Result Command LineError) → ReadsAs result (command_of script_expression tree) → IfOk result (IsCommand line)
  line_sound (Ok c) is = is_command line tree reads c is
  line_sound (Err e) is = tt

  pub line_complete : (result : Result Command LineError) → ReadsAs result (command_of script_expression tree)
      → (c : Command) → IsCommand line c → (result ≡ Ok c) ⊎ (result ≡ Err Memory)
  line_complete (Ok d) is c p =
      let both : Some d ≡ Some c = sym is ∙ read_command line tree reads c p in
      inl cc
  line_complete (Err Fault) is c p =
      let both : Some c ≡ None = sym (read_command line tree reads c p) ∙ is in
      absurd cc
  line_complete (Err Memory) is c p = inr refl

  pub line_fault : (result : Result Command LineError) → ReadsAs result (command_of script_expression tree)
      → result ≡ Err Fault → (c : Command) → IsCommand line c → ⊥
  line_fault result is same c p = elim (line_complete result is c p) [ inl h ↦ cc | inr h ↦ cc ]
