-- What is opened keeps the rules of charts and of selections.
use Rattle.std.proofs.Common.{◌≡◌, ℕ, ◌≤◌, Bool, true, false, List, length, Option, Some, None, Result, Ok, Err, refl, subst, nat_le, if◌then◌else◌, ◌&&◌}
use Rattle.std.specs.Result.{result_map_both}
use Rattle.std.proofs.lemmas.Bool.{leb-true}
use Rattle.fixed_num.proofs.Steps.{bind_ok, guarded}
use Rattle.json_exact.specs.declared.json.Json.{Json}
use Rattle.json_exact.specs.Reading.{Reads}
use Rattle.chart_io.specs.Outside.{Files, file_of}
use Rattle.vega_spec.specs.declared.spec.VgSpec.{VgSpec}
use Rattle.vega_model.specs.Reading.{Refused, read_of}
use Rattle.vl_spec.specs.declared.spec.VlSpec.{VlSpec}
use Rattle.vl_model.specs.Reading as vl
use Rattle.vega_compile.specs.Compiled.{assembled}
use Rattle.vega_copies.specs.Tested.{keeps_rules, KeepsRules}
use Rattle.vega_selections.specs.Kept.{KeepsSelections}
use Rattle.selection_rules.specs.Tested.{keeps_selections}
use Rattle.selection_rules.proofs.TestLemmas.{tested_are_kept}
use Rattle.vega_standing.specs.Laws.{AcceptedKeepRules, AcceptedKeepSelections}
use Rattle.first_form.specs.declared.form.FirstForm.{FirstForm}
use Rattle.first_form.specs.FirstForm.{form_of}
use Rattle.first_form.specs.Opening.{bars_of}
use Rattle.first_form.proofs.BarCharts.{bars_keep_rules}
use Rattle.chart_opening.specs.declared.refusal.Refusal.{Refusal}
use Rattle.chart_opening.specs.declared.refusal.Refusal.TheVariants as refusal
use Rattle.chart_opening.specs.declared.opened.Opened.{Opened}
use Rattle.chart_opening.specs.Files.{most_bytes, bytes_in, bytes_of, tree_in, tree_of_file}
use Rattle.chart_opening.specs.Laws.{OpenedKeepRules}
use Rattle.chart_opening.specs.Opening.{opening_by}
use Rattle.chart_opening.specs.Schemas.{is_vega}
use Rattle.chart_opening.specs.Specs.{not_drawn_yet, vega_read, if_kept, compiled_form, vl_read, spec_of, opened_with, opened_tree}
use Rattle.chart_opening.specs.Texts.{Reading, IsRightFor, ReadsJson}
use Rattle.chart_opening.specs.inner.Trees.{IsFileTree}

same : {X : Type 0} (x y : X) → ◌≡◌ {A = Result X Refusal} (Ok x) (Ok y) → x ≡ y
same x y e = cc

-- a specification keeps both kinds of rules
abbrev Keeps : VgSpec → Type 0
Keeps g = KeepsRules g × KeepsSelections g

-- a test that held
tested : (b c : Bool) (h g : VgSpec) → (if b && c then Ok h else Err not_drawn_yet) ≡ Ok g → (b ≡ true) × (c ≡ true) × (h ≡ g)
tested true true h g e = (refl, refl, same h g e)
tested true false h g e = absurd (cc e)
tested false c h g e = absurd (cc e)

-- a compiled specification keeps them where the test holds
compiled_kept : (h g : VgSpec) → if_kept h ≡ Ok g → Keeps g
compiled_kept h g e =
    let (rules, selections, is) = tested (keeps_rules h) (keeps_selections h) h g e in
    subst Keeps is (rules, tested_are_kept h selections)

form_kept : (s : VlSpec) (g : VgSpec) → compiled_form s ≡ Ok g → Keeps g
unfolding compiled_form
form_kept s g e = compiled_kept (assembled s) g e

vl_kept : (r : Result VlSpec vl.Refused) (o : Option FirstForm) (g : VgSpec) → vl_read r o ≡ Ok g → Keeps g
vl_kept (Ok s) (Some form) g e = subst Keeps (same (bars_of form) g e) (bars_keep_rules form)
vl_kept (Ok s) None g e = form_kept s g e
vl_kept (Err fault) o g e = absurd (cc e)

module _ (rules : AcceptedKeepRules) (selections : AcceptedKeepSelections) (tree : Json) (g : VgSpec) (of : IsFileTree tree) where
  vega_kept : (r : Result VgSpec Refused) → read_of tree ≡ r → vega_read r ≡ Ok g → Keeps g
  vega_kept (Ok spec) is e =
      subst Keeps (same spec g e) (rules of.bytes tree spec of.reads of.few is, selections of.bytes tree spec of.reads of.few is)
  vega_kept (Err fault) is e = absurd (cc e)

  either_kept : (vega : Bool) → (if vega then vega_read (read_of tree) else vl_read (vl.read_of tree) (form_of tree)) ≡ Ok g → Keeps g
  either_kept true e = vega_kept (read_of tree) refl e
  either_kept false e = vl_kept (vl.read_of tree) (form_of tree) g e

  -- the specification that the tree of a file says keeps the rules
  pub said_rules : spec_of tree ≡ Ok g → Keeps g
  said_rules e = either_kept (is_vega tree) e

-- ---- the trees of files

right_tree : (name bytes : List ℕ) (tree : Json) (r : Result Json ℕ) → IsRightFor bytes r
    → ◌≡◌ {A = Result Json Refusal} (result_map_both (λ tree. tree) (λ place. refusal.Json name place) r) (Ok tree) → Reads bytes tree
right_tree name bytes tree (Ok t) right e = subst (Reads bytes) (same t tree e) right
right_tree name bytes tree (Err place) right e = absurd (cc e)

few_bytes : (name bytes : List ℕ) (there : Option (List ℕ)) → bytes_in name there ≡ Ok bytes → length bytes ≤ most_bytes
few_bytes name bytes None e = absurd (cc e)
few_bytes name bytes (Some all) e =
    let test = guarded (nat_le (length all) most_bytes) (refusal.Size name) (Ok all) bytes e in
    subst (λ bytes. length bytes ≤ most_bytes) (same all bytes test.1) (leb-true _ _ test.0)

file_tree : (reading : Reading) (files : Files) (name : List ℕ) (tree : Json) → ReadsJson reading → tree_of_file reading files name ≡ Ok tree → IsFileTree tree
file_tree reading files name tree right e =
    let bytes = bind_ok (bytes_of files name) (tree_in reading name) tree e in
    record {
      bytes = bytes.0;
      reads = right_tree name bytes.0 tree (reading bytes.0) (right bytes.0) bytes.2;
      few = few_bytes name bytes.0 (file_of files name) bytes.1;
    }

pub opened_keep : AcceptedKeepRules → AcceptedKeepSelections → OpenedKeepRules
opened_keep rules selections reading files name opened right opens =
    let tree = bind_ok (tree_of_file reading files name) (opened_tree reading files) opened opens in
    let spec = bind_ok (spec_of tree.0) (opened_with reading files) opened tree.2 in
    let state = bind_ok (opening_by reading files spec.0) (λ st. Ok (record { spec = spec.0; state = st })) opened spec.2 in
    let whole : Opened = record { spec = spec.0; state = state.0 } in
    let is : whole ≡ opened = same whole opened state.2 in
    subst (λ (o : Opened). Keeps o.spec) is
    (said_rules rules selections tree.0 spec.0 (file_tree reading files name tree.0 right tree.1) spec.1)
