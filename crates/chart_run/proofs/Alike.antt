-- The text to which a chart of the first form is compiled opens as the chart does.
use Rattle.std.proofs.Common.{◌≡◌, ◌≤◌, ℕ, ℤ, Bool, true, false, Option, Some, None, List, [], ◌∷◌, length, map, codes, nat_le, Result, Ok, Err}
use Rattle.std.proofs.Common.{refl, sym, ap, subst, ◌∙◌, arith, All}
use Rattle.std.specs.Prelude.{if◌then◌else◌, is_none, unwrap_or, IfSome}
use Rattle.std.specs.List.{AllByRecursion}
use Rattle.std.specs.Option.{option_map_or, option_and_then}
use Rattle.std.specs.Result.{result_map_both}
use Rattle.std.proofs.lemmas.Bool.Decides.{nat_tests}
use Rattle.std.proofs.lemmas.List.Elements.{All-head, All-tail}
use Rattle.fixed_num.specs.Ranges as options
use Rattle.fixed_num.specs.Steps.{◌>>=◌}
use Rattle.fixed_num.proofs.Steps.{bind_ok}
use Rattle.json_exact.specs.declared.json.Json.{Json, out-Json}
use Rattle.json_exact.specs.declared.json.Json.TheVariants as json
use Rattle.json_exact.specs.declared.json.Member.{Member}
use Rattle.spec_schema.specs.declared.spec_error.SpecKind.TheVariants.{Wrong}
use Rattle.json_exact.specs.Inside.{text_in, members_in}
use Rattle.json_exact.specs.Path.{member_value}
use Rattle.json_exact.specs.Reading.{Reads}
use Rattle.chart_io.specs.Outside.{Files, file_of}
use Rattle.cell_value.specs.declared.state.ChartState.{ChartState}
use Rattle.spec_schema.specs.declared.fault.Fault.{Fault}
use Rattle.vega_spec.specs.declared.data.DataSet.{DataSet}
use Rattle.vega_spec.specs.declared.spec.VgSpec.{VgSpec}
use Rattle.vega_building.specs.Parts.{text_at}
use Rattle.vega_building.specs.Spec.{spec_of as built_of}
use Rattle.vega_model.specs.Faults.{first_fault_of}
use Rattle.vega_model.specs.Reading.{read_of, unless_fault}
use Rattle.vl_spec.specs.declared.spec.VlSpec.{VlSpec}
use Rattle.vl_model.specs.Reading as vl
use Rattle.vega_compile.specs.Compiled.{assembled}
use Rattle.vega_writing.specs.Spec.{tree_of}
use Rattle.compiled_bars.specs.Bars.{bars_over}
use Rattle.compiled_bars.specs.Rows.{values_over, row_object, IsRow}
use Rattle.compiled_bars.specs.Laws.{line_of, Says}
use Rattle.compiled_bars.proofs.Lines.{written_are_read}
use Rattle.compiled_bars.proofs.ReadTexts.{read_sound}
use Rattle.first_form.specs.declared.form.FirstForm.{FirstForm}
use Rattle.first_form.specs.declared.form.Value.{Value}
use Rattle.first_form.specs.FirstForm.{form_of}
use Rattle.first_form.specs.Drawable.{IsDrawable}
use Rattle.first_form.specs.Opening.{bars_of, value_object}
use Rattle.first_form.proofs.FormLemmas.{forms_are_drawable}
use Rattle.chart_opening.specs.declared.opened.Opened.{Opened}
use Rattle.chart_opening.specs.declared.refusal.Refusal.{Refusal}
use Rattle.chart_opening.specs.declared.refusal.Refusal.TheVariants as refusal
use Rattle.chart_opening.specs.Texts.{Reading, ReadsJson, IsRightFor}
use Rattle.chart_opening.specs.Files.{most_bytes, bytes_in, bytes_of, tree_in, tree_of_file}
use Rattle.chart_opening.specs.Schemas.{is_vega, contains_text}
use Rattle.chart_opening.specs.Sources.{Given, Tree, Table, given_with, given_by, is_csv, all_of, source_sets}
use Rattle.chart_opening.specs.Opening.{opening_by, state_given}
use Rattle.chart_opening.specs.Specs.{not_drawn_yet, is_kept, compiled_form, vega_read, vl_read, vl_spec_of, spec_of, opened_with, opened_tree, opened_by}
use Rattle.chart_opening.specs.Compiled.{if_readable, compiled_vl, compiled_of, compiled_tree, compiled_by}
use Rattle.chart_opening.specs.Laws.{FormsOpen}
use Rattle.chart_opening.specs.inner.Reading.{the_reading}
use Rattle.chart_opening.proofs.JsonLemmas.{right, agree, tree_is}
use Rattle.chart_run.specs.Laws.{HasItsFiles, CompiledOpensAlike, FormsOpenAlike}
use Rattle.chart_run.proofs.Pictures.{form_bars, accepted_is}
use Rattle.chart_run.proofs.FormTexts.{IsSoundValue, IsSoundForm, form_sound}

-- ---- the bars of a form are bars over its values

-- a value as a row
abbrev row_of : Value → List ℕ × ℤ
row_of value = (value.category, value.amount)

objects_are : (x y : List ℕ) (values : List Value) → map (value_object x y) values ≡ map (row_object x y) (map row_of values)
objects_are x y [] = refl
objects_are x y (v ∷ vs) = ap (λ (rest : List Json). value_object x y v ∷ rest) (objects_are x y vs)

rows_are : (values : List Value) → AllByRecursion IsSoundValue values → AllByRecursion IsRow (map row_of values)
rows_are [] all = tt
rows_are (v ∷ vs) all = (all.0, rows_are vs all.1)

abbrev written_values : FirstForm → Json
written_values form = values_over form.x form.y (map row_of form.values)

abbrev written_bars : FirstForm → VgSpec
written_bars form = bars_over form.name form.x form.y (written_values form)

bars_are_over : (form : FirstForm) → bars_of form ≡ written_bars form
bars_are_over form =
    ap (λ (items : List Json). bars_over form.name form.x form.y (json.List items)) (objects_are form.x form.y form.values)

-- the text of the bars of a form that was read says them
form_says : (form : FirstForm) → IsDrawable form → IsSoundForm form → Says (line_of (bars_of form)) (bars_of form)
form_says form is sound =
    subst (λ (g : VgSpec). Says (line_of g) g) (sym (bars_are_over form))
    (written_are_read form.name form.x form.y (map row_of form.values) sound.name sound.x sound.y is.apart
    (rows_are form.values sound.values))

-- ---- whether a text says so

abbrev says_vega : Option (List ℕ) → Bool
says_vega text = option_map_or (contains_text (codes "/schema/vega/")) text false

abbrev address : List ℕ
address = codes "https://vega.github.io/schema/vega/v5.json"

-- ---- what a tree says

-- a test that did not hold
otherwise : {A E : Type 0} (b : Bool) (k : E) (x : Result A E) (y : A) → (if b then Err k else x) ≡ Ok y → (b ≡ false) × (x ≡ Ok y)
otherwise true k x y e = absurd cc
otherwise false k x y e = (refl, e)

-- and one that did
kept : (b : Bool) (g h : VgSpec) → (if b then Ok g else Err not_drawn_yet) ≡ Ok h → g ≡ h
kept true g h e = cc
kept false g h e = absurd cc

-- the specification of a tree that is compiled
spec_is : (tree : Json) (g : VgSpec) → is_vega tree ≡ false → vl_spec_of tree ≡ Ok g → spec_of tree ≡ Ok g
spec_is tree g other is = ap (λ (b : Bool). if b then vega_read (read_of tree) else vl_spec_of tree) other ∙ is

-- that of a tree that says that it is one
vega_is : (tree : Json) (g : VgSpec) → is_vega tree ≡ true → read_of tree ≡ Ok g → spec_of tree ≡ Ok g
vega_is tree g vega is = ap (λ (b : Bool). if b then vega_read (read_of tree) else vl_spec_of tree) vega ∙ ap vega_read is

-- ---- a text that says a specification says that it is one of Vega

-- a specification with the address of Vega's format
abbrev IsVega : VgSpec → Type 0
IsVega g = g.schema ≡ Some address

compiled_says : (s : VlSpec) (g : VgSpec) → compiled_form s ≡ Ok g → IsVega g
unfolding compiled_form
compiled_says s g e = subst IsVega (kept (is_kept (assembled s)) (assembled s) g e) refl

said_by : (r : Result VlSpec vl.Refused) (o : Option FirstForm) (g : VgSpec) → vl_read r o ≡ Ok g → IsVega g
said_by (Ok s) (Some form) g e = let same : bars_of form ≡ g = cc in subst IsVega same refl
said_by (Ok s) None g e = compiled_says s g e
said_by (Err fault) o g e = absurd cc

value_text : (o : Option Json) → options.◌>>=◌ o (λ value. text_in (out-Json value)) ≡ option_and_then (λ value. text_in (out-Json value)) o
value_text None = refl
value_text (Some value) = refl

members_text : (o : Option (List Member))
    → options.◌>>=◌ o (λ members. options.◌>>=◌ (member_value members (codes "$schema")) (λ value. text_in (out-Json value)))
    ≡ text_at (unwrap_or o []) (codes "$schema")
members_text None = refl
members_text (Some members) = value_text (member_value members (codes "$schema"))

unless_same : (o : Option Fault) (g h : VgSpec) → unless_fault o g ≡ Ok h → g ≡ h
unless_same None g h e = cc
unless_same (Some fault) g h e = absurd cc

said_is_vega : (g : VgSpec) → IsVega g → Says (line_of g) g → is_vega (tree_of g) ≡ true
said_is_vega g schema says =
    let tree : Json = tree_of g in
    let same : built_of tree ≡ g = unless_same (first_fault_of tree) (built_of tree) g (says.1 tree says.0) in
    ap says_vega (members_text (members_in (out-Json tree)) ∙ ap (λ (s : VgSpec). s.schema) same ∙ schema)

-- ---- a file of the text

fits : (n : ℕ) → n ≤ most_bytes → nat_le n most_bytes ≡ true
fits n within = grind (arith, nat_tests)

-- what a file of this name says, where its bytes are not too many
told_tree : (reading : Reading) (files : Files) (name bytes : List ℕ) → file_of files name ≡ Some bytes → length bytes ≤ most_bytes
    → tree_of_file reading files name ≡ tree_in reading name bytes
told_tree reading files name bytes told small =
    ap (λ (o : Option (List ℕ)). bytes_in name o >>= tree_in reading name) told
    ∙ ap (λ (b : Bool). (if b then Ok bytes else Err (refusal.Size name)) >>= tree_in reading name) (fits (length bytes) small)

-- what a right reading reads is read
tree_read : (name bytes : List ℕ) (r : Result Json ℕ) (tree : Json) → IsRightFor bytes r
    → result_map_both (λ (t : Json). t) (λ (place : ℕ). refusal.Json name place) r ≡ Ok tree → Reads bytes tree
tree_read name bytes (Ok own) tree is e = let same : own ≡ tree = cc in subst (Reads bytes) same is
tree_read name bytes (Err place) tree is e = absurd cc

-- ---- the files of a specification

module _ (reading : Reading) (files others : Files) where
  -- the file of a name is the same in both
  abbrev IsAlike : List ℕ → Type 0
  IsAlike name = file_of others name ≡ file_of files name

  abbrev given_at : Bool → List ℕ → Option (List ℕ) → Result Given Refusal
  given_at csv name there =
      if csv then result_map_both Table (λ why. why) (bytes_in name there)
      else result_map_both Tree (λ why. why) (bytes_in name there >>= λ bytes. tree_in reading name bytes)

  one_given : (csv : Bool) (values : Option Json) (url : Option (List ℕ)) → IfSome url IsAlike
      → given_with reading others csv values url ≡ given_with reading files csv values url
  one_given csv (Some values) url same = refl
  one_given csv None (Some name) same = ap (given_at csv name) same
  one_given csv None None same = refl

  abbrev HasItsFile : DataSet → Type 0
  HasItsFile set = IfSome set.url IsAlike

  all_given : (sets : List DataSet) → All HasItsFile sets → map (given_by reading others) sets ≡ map (given_by reading files) sets
  all_given [] all = refl
  all_given (set ∷ sets) all =
      λ i. one_given (is_csv set) set.values set.url (All-head HasItsFile set sets all) i ∷ all_given sets (All-tail HasItsFile set sets all) i

  -- a specification opens alike where its files are the same
  opened_alike : (g : VgSpec) → HasItsFiles files others g → opened_with reading others g ≡ opened_with reading files g
  opened_alike g same =
      ap (λ (given : List (Result Given Refusal)). (all_of given >>= state_given g) >>= λ state. Ok (record { spec = g; state = state }))
      (all_given (source_sets g) same)

-- ---- both folders

module _ (reading : Reading) (reads : ReadsJson reading) (files others : Files) where
  -- what bytes spell is what such a reading reads
  tree_here : (name bytes : List ℕ) (tree : Json) → Reads bytes tree → tree_in reading name bytes ≡ Ok tree
  tree_here name bytes tree is =
      let at : Reading → Type 0 = λ r. tree_in r name bytes ≡ Ok tree in
      subst at (agree the_reading reading right reads) (tree_is name bytes tree is)

  -- the tree of a file is spelled by its bytes
  file_read : (name : List ℕ) (tree : Json) → tree_of_file reading files name ≡ Ok tree → (bytes : List ℕ) × Reads bytes tree
  file_read name tree e =
      let (bytes, given, rest) = bind_ok (bytes_of files name) (tree_in reading name) tree e in
      (bytes, tree_read name bytes (reading bytes) tree (reads bytes) rest)

  -- what is opened is of the specification
  spec_opened : (g : VgSpec) (opened : Opened) → opened_with reading files g ≡ Ok opened → g ≡ opened.spec
  spec_opened g opened e =
      let (state, given, after) = bind_ok (opening_by reading files g) _ opened e in
      ap (λ (o : Opened). o.spec) (accepted_is _ opened after)

  -- a text that says a specification, in a file
  emitted_opens : (g : VgSpec) (emitted : List ℕ) → IsVega g → Says (line_of g) g → file_of others emitted ≡ Some (line_of g)
      → length (line_of g) ≤ most_bytes → opened_by reading others emitted ≡ opened_with reading others g
  emitted_opens g emitted schema says told small =
      let tree : tree_of_file reading others emitted ≡ Ok (tree_of g) =
      told_tree reading others emitted (line_of g) told small ∙ tree_here emitted (line_of g) (tree_of g) says.0 in
      let spec : spec_of (tree_of g) ≡ Ok g = vega_is (tree_of g) g (said_is_vega g schema says) (says.1 (tree_of g) says.0) in
      ap (λ (r : Result Json Refusal). r >>= opened_tree reading others) tree
      ∙ ap (λ (r : Result VgSpec Refusal). r >>= opened_with reading others) spec

  -- the file itself
  file_opens : (name : List ℕ) (tree : Json) (g : VgSpec) → tree_of_file reading files name ≡ Ok tree → spec_of tree ≡ Ok g
      → opened_by reading files name ≡ opened_with reading files g
  file_opens name tree g file is =
      ap (λ (r : Result Json Refusal). r >>= opened_tree reading files) file
      ∙ ap (λ (r : Result VgSpec Refusal). r >>= opened_with reading files) is

  -- what a file is compiled to
  abbrev IsCompiled : List ℕ → Opened → Json → Type 0
  IsCompiled name opened tree =
      (tree_of_file reading files name ≡ Ok tree) × (is_vega tree ≡ false) × (vl_spec_of tree ≡ Ok opened.spec)
      × (opened_with reading files opened.spec ≡ Ok opened)

  compiled_is : (name : List ℕ) (opened : Opened) → compiled_by reading files name ≡ Ok opened → (tree : Json) × IsCompiled name opened tree
  compiled_is name opened e =
      let (tree, file, after) = bind_ok (tree_of_file reading files name) (compiled_tree reading files) opened e in
      let (g, said, rest) = bind_ok (compiled_of tree) (opened_with reading files) opened after in
      let (other, compiled) = otherwise (is_vega tree) (refusal.Spec Wrong (codes "/$schema")) (compiled_vl tree) g said in
      let (own, read, readable) = bind_ok (vl_spec_of tree) if_readable g compiled in
      let same : own ≡ g = kept (is_none (first_fault_of (tree_of own))) own g readable in
      let is : g ≡ opened.spec = spec_opened g opened rest in
      let at : VgSpec → Type 0 = λ spec. vl_spec_of tree ≡ Ok spec in
      let here : VgSpec → Type 0 = λ spec. opened_with reading files spec ≡ Ok opened in
      (tree, (file, other, subst at (same ∙ is) read, subst here is rest))

  both_open : (name emitted : List ℕ) (opened : Opened) (tree : Json) → IsCompiled name opened tree → Says (line_of opened.spec) opened.spec
      → opened_with reading others opened.spec ≡ opened_with reading files opened.spec
      → file_of others emitted ≡ Some (line_of opened.spec) → length (line_of opened.spec) ≤ most_bytes
      → (opened_by reading others emitted ≡ Ok opened) × (opened_by reading files name ≡ Ok opened)
  both_open name emitted opened tree (file, other, read, rest) says alike told small =
      let schema : IsVega opened.spec = said_by (vl.read_of tree) (form_of tree) opened.spec read in (
        emitted_opens opened.spec emitted schema says told small ∙ alike ∙ rest,
        file_opens name tree opened.spec file (spec_is tree opened.spec other read) ∙ rest,
      )

-- what a chart of the first form opens with, over all files
form_opens_alike : FormsOpen → (reading : Reading) (files others : Files) (form : FirstForm) → IsDrawable form
    → opened_with reading others (bars_of form) ≡ opened_with reading files (bars_of form)
form_opens_alike forms_open reading files others form is =
    ap (λ (r : Result ChartState Refusal). r >>= λ state. Ok (record { spec = bars_of form; state = state }))
    (forms_open reading others form is ∙ sym (forms_open reading files form is))

pub compiled_opens_alike : CompiledOpensAlike
compiled_opens_alike reading files others name emitted opened reads is says same told small =
    let (tree, compiled) = compiled_is reading reads files others name opened is in
    both_open reading reads files others name emitted opened tree compiled says (opened_alike reading files others opened.spec same) told small

pub forms_open_alike : FormsOpen → FormsOpenAlike
forms_open_alike forms_open = λ reading files others name emitted opened tree form reads file said is told small.
    let (own, compiled) = compiled_is reading reads files others name opened is in
    let (held, other, read, rest) = compiled in
    let same : own ≡ tree = accepted_is own tree (sym held ∙ file) in
    let found : form_of own ≡ Some form = ap form_of same ∙ said in
    let bars : bars_of form ≡ opened.spec =
    form_bars (vl.read_of own) form opened.spec (ap (vl_read (vl.read_of own)) (sym found) ∙ read) in
    let (bytes, spelled) = file_read reading reads files others name own held in
    let drawable = forms_are_drawable own form found in
    let says : VgSpec → Type 0 = λ g. Says (line_of g) g in
    let alike : VgSpec → Type 0 = λ g. opened_with reading others g ≡ opened_with reading files g in
    both_open reading reads files others name emitted opened own compiled
    (subst says bars (form_says form drawable (form_sound own form (read_sound bytes own spelled) found)))
    (subst alike bars (form_opens_alike forms_open reading files others form drawable)) told small
