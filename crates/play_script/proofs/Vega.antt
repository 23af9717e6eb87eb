-- Outputs over what an engine means are outputs over its specification.
use Rattle.std.proofs.Common.{◌≡◌, ℕ, suc, List, [], ◌++◌, length, take, drop, Result, Ok, Err, refl, sym, ap, subst, ◌∙◌, append_assoc}
use Rattle.std.proofs.Common.{append-nil, take-append-drop}
use Rattle.std.proofs.lemmas.List.{take_at}
use Rattle.chart_io.specs.Outside.{Appended, AppendedPrefix}
use Rattle.cell_value.specs.State.{State}
use Rattle.param_flow.specs.Script.{IsLine, IsOutput, silent, too_long, replied, no_line, one_line, lines_of, ended_lines, most_script_bytes}
use Rattle.vega_spec.specs.declared.spec.VgSpec.{VgSpec}
use Rattle.vega_meaning.specs.Semantics.{vega_semantics, IsVegaReply, IsVegaOutput}
use Rattle.play_script.specs.declared.errors.PlayError.{PlayError}
use Rattle.play_script.specs.declared.errors.PlayError.TheVariants as error
use Rattle.play_script.specs.Meaning.{Meaning, IsReplyIn}
use Rattle.play_script.specs.Played.{Sinks, AreWritten, IsPlayed}
use Rattle.play_script.specs.inner.Once.{one_reply}
use Rattle.play_script.proofs.Once.{begins}
use Rattle.play_script.proofs.Sinks.{appended_begins, begins_longer}
use Rattle.play_script.proofs.Split.{ended_first}

line_as_vega : (meaning now : Meaning) (n : ℕ) (line reply note : List ℕ) → IsLine IsReplyIn meaning n line reply note now
    → (now.spec ≡ meaning.spec) × IsLine (IsVegaReply meaning.spec) meaning.state n line reply note now.state
line_as_vega meaning now n line reply note (silent s m l quiet) = (refl, silent s.state m l quiet)
line_as_vega meaning now n line reply note (too_long s m l loud long) = (refl, too_long s.state m l loud long)
line_as_vega meaning now n line reply note (replied s t m l r k loud short is) = (is.0, replied s.state t.state m l r k loud short is.1)

pub as_vega : (meaning now : Meaning) (n : ℕ) (lines : List (List ℕ)) (out notes : List ℕ) → IsOutput IsReplyIn meaning n lines out notes now
    → (now.spec ≡ meaning.spec) × IsOutput (IsVegaReply meaning.spec) meaning.state n lines out notes now.state
as_vega meaning now n lines out notes (no_line s m) = (refl, no_line s.state m)
as_vega meaning now n lines out notes (one_line s mid t m l r k rest ks ls line more) =
    let first = line_as_vega s mid m l r k line in
    let others = as_vega mid t (suc m) ls rest ks more in
    let at : VgSpec → Type 0 = λ g. IsOutput (IsVegaReply g) mid.state (suc m) ls rest ks t.state in
    (others.0 ∙ first.0, one_line s.state mid.state t.state m l r k rest ks ls first.1 (subst at first.0 others.1))

pub vega_begins : (g : VgSpec) (st mid now : State) (n k : ℕ) (lines : List (List ℕ)) (out part notes part_notes : List ℕ)
    → IsOutput (IsVegaReply g) st n lines out notes now → IsOutput (IsVegaReply g) st n (take k lines) part part_notes mid
    → (rest : List ℕ) × (out ≡ part ++ rest)
vega_begins g = begins (IsVegaReply g) (one_reply (vega_semantics g))

-- what playing appended begins the output of the script
module _ (meaning now : Meaning) (script out notes : List ℕ) (later : State) (before after : Sinks)
    (whole : IsVegaOutput meaning.spec meaning.state script out notes later) where
  begun : (k : ℕ) (lines : List (List ℕ)) → lines ≡ take k (lines_of script)
      → AreWritten AppendedPrefix (λ part part_notes. IsOutput IsReplyIn meaning 1 lines part part_notes now) before after
      → AppendedPrefix before.held after.held out
  begun k lines first h =
      let is = as_vega meaning now 1 lines h.out h.notes h.is in
      let at : List (List ℕ) → Type 0 = λ ls. IsOutput (IsVegaReply meaning.spec) meaning.state 1 ls h.out h.notes now.state in
      let more = vega_begins meaning.spec meaning.state now.state later 1 k (lines_of script) out h.out notes h.notes whole (subst at first is.1) in
      let goal : List ℕ → Type 0 = λ xs. AppendedPrefix before.held after.held xs in
      subst goal (sym more.1) (begins_longer before.held after.held h.out more.0 h.appended)

  done : (k : ℕ) (lines : List (List ℕ)) → lines ≡ take k (lines_of script)
      → AreWritten Appended (λ part part_notes. IsOutput IsReplyIn meaning 1 lines part part_notes now) before after → AppendedPrefix before.held after.held out
  done k lines first h = begun k lines first (record {
    out = h.out;
    notes = h.notes;
    is = h.is;
    appended = appended_begins before.held after.held h.out h.appended;
    noted = λ sound. appended_begins before.noted after.noted h.notes (h.noted sound);
  })

  ended : (taken rest : List ℕ) → script ≡ taken ++ rest
      → AreWritten Appended (λ part part_notes. IsOutput IsReplyIn meaning 1 (ended_lines taken) part part_notes now) before after
      → AppendedPrefix before.held after.held out
  ended taken rest e h =
      let first = ended_first taken rest in
      done first.0 (ended_lines taken) (first.1 ∙ ap (λ xs. take first.0 (lines_of xs)) (sym e)) h

  pub played_begins : {X : Type 0} (taken rest : List ℕ) (result : Result X PlayError)
      → script ≡ taken ++ rest → IsPlayed IsReplyIn script taken meaning now before after result
      → AppendedPrefix before.held after.held out
  played_begins taken rest (Ok x) e h = done (length (lines_of script)) (lines_of script) (sym (take_whole (lines_of script))) h.2
    where
      take_whole : {Y : Type 0} (xs : List Y) → take (length xs) xs ≡ xs
      take_whole xs = ap (take (length xs)) (sym (append-nil xs)) ∙ take_at xs [] (length xs) refl
  played_begins taken rest (Err error.Read) e h = ended taken rest e h.1
  played_begins taken rest (Err error.Size) e h =
      ended (take most_script_bytes taken) (drop most_script_bytes taken ++ rest)
      (e ∙ ap (λ xs. xs ++ rest) (sym (take-append-drop most_script_bytes taken))
      ∙ append_assoc (take most_script_bytes taken) (drop most_script_bytes taken) rest) h.1
  played_begins taken rest (Err error.Write) e h = begun h.1.0 (take h.1.0 (lines_of script)) refl h.1.1
  played_begins taken rest (Err error.Memory) e h = begun h.1.0 (take h.1.0 (lines_of script)) refl h.1.1
