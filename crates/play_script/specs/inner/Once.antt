-- A line is one command at most, and so has one reply of an engine.
use Rattle.std.proofs.Common.{◌≡◌, ℕ, List, Some, refl, sym, ap, ◌∙◌}
use Rattle.cell_value.specs.State.{State}
use Rattle.scene_tree.specs.Outcome.{Drawn}
use Rattle.json_exact.proofs.Complete.{text_again-whole}
use Rattle.fixed_num.proofs.Steps.{ok_is}
use Rattle.json_exact.specs.declared.json.Json.{Json}
use Rattle.json_exact.specs.Reading.{Reads}
use Rattle.param_flow.specs.declared.command.Command.{Command}
use Rattle.param_flow.specs.declared.command.Command.TheVariants.{Print}
use Rattle.param_flow.specs.Commands.{IsCommand, command_of}
use Rattle.param_flow.specs.Semantics.{Semantics}
use Rattle.param_flow.specs.Machine.{reply_of, state_after}
use Rattle.param_flow.specs.Playing.{IsReply, reply_text, refused, printed, told, without_notes}
use Rattle.vega_meaning.specs.Semantics.{vega_semantics}
use Rattle.play_script.specs.Meaning.{Meaning, IsReplyIn}
use Rattle.play_script.specs.inner.Reading.{script_expression}
use Rattle.expr_syntax.proofs.Expressed.{reads_rightly, same_readers}

pub same_tree : (line : List ℕ) (s t : Json) → Reads line s → Reads line t → s ≡ t
same_tree line s t r u = ok_is s t (sym (text_again-whole line s r) ∙ text_again-whole line t u)

-- a line that reads as a tree is the command that the tree is
pub read_command : (line : List ℕ) (tree : Json) → Reads line tree → (c : Command) → IsCommand line c
    → command_of script_expression tree ≡ Some c
read_command line tree reads c p =
    let same : p.tree ≡ tree = same_tree line p.tree tree p.reads reads in
    let read : p.expression_of ≡ script_expression = same_readers p.expression_of script_expression p.expressions reads_rightly in
    sym (λ i. command_of (read i) (same i)) ∙ p.is

-- and where the tree is a command, the line is it
pub is_command : (line : List ℕ) (tree : Json) → Reads line tree → (c : Command) → command_of script_expression tree ≡ Some c
    → IsCommand line c
is_command line tree reads c is =
    record { tree = tree; reads = reads; expression_of = script_expression; expressions = reads_rightly; is = is }

-- no line is two commands
pub one_command : (line : List ℕ) (c d : Command) → IsCommand line c → IsCommand line d → c ≡ d
one_command line c d p q =
    let other : command_of script_expression p.tree ≡ Some d = read_command line p.tree p.reads d q in
    let both : Some c ≡ Some d = sym (read_command line p.tree p.reads c p) ∙ other in
    cc

-- a line has one reply of the direct machine
module _ (meaning : Semantics) where
  pub one_reply : (st now later : State) (n : ℕ) (line reply other note another : List ℕ)
      → IsReply meaning without_notes st n line reply note now → IsReply meaning without_notes st n line other another later
      → (reply ≡ other) × (note ≡ another) × (now ≡ later)
  one_reply st now later n line reply other note another (refused s m l none) (refused s' m' l' none') = (refl, refl, refl)
  one_reply st now later n line reply other note another (refused s m l none) (printed s' m' l' t is drawn) = absurd (none Print is)
  one_reply st now later n line reply other note another (refused s m l none) (told s' m' l' k c is else noted) = absurd (none c is)
  one_reply st now later n line reply other note another (printed s m l t is drawn) (refused s' m' l' none) = absurd (none Print is)
  one_reply st now later n line reply other note another (printed s m l t is drawn) (printed s' m' l' t' is' drawn') =
      let both : Drawn t ≡ Drawn t' = sym drawn ∙ drawn' in (cc, refl, refl)
  one_reply st now later n line reply other note another (printed s m l t is drawn) (told s' m' l' k c is' else noted) =
      absurd (else (one_command line c Print is' is))
  one_reply st now later n line reply other note another (told s m l k c is else noted) (refused s' m' l' none) = absurd (none c is)
  one_reply st now later n line reply other note another (told s m l k c is else noted) (printed s' m' l' t is' drawn) =
      absurd (else (one_command line c Print is is'))
  one_reply st now later n line reply other note another (told s m l k c is else noted) (told s' m' l' k' d is' else' noted') =
      let same : c ≡ d = one_command line c d is is' in
      (ap (λ x. reply_text (reply_of meaning st x)) same, noted ∙ sym noted', ap (state_after meaning st) same)

-- a line has one reply of an engine
pub one_reply_in : (st now later : Meaning) (n : ℕ) (line reply other note another : List ℕ)
    → IsReplyIn st n line reply note now → IsReplyIn st n line other another later → (reply ≡ other) × (note ≡ another) × (now ≡ later)
one_reply_in st now later n line reply other note another a b =
    let e = one_reply (vega_semantics st.spec) st.state now.state later.state n line reply other note another a.1 b.1 in
    (e.0, e.1, λ i. record { spec = (a.0 ∙ sym b.0) i; state = e.2 i })
