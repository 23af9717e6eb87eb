-- What is ahead of a reader of values, and how it goes on.
use Rattle.std.proofs.Common.{◌≡◌, ℕ, zero, suc, ◌-◌, Bool, true, false, List, [], ◌∷◌, ◌++◌, length, drop, Option, Some, None}
use Rattle.std.proofs.Common.{Result, Ok, Err, refl, sym, ap, subst, ◌∙◌, arith, append_assoc, lit≤}
use Rattle.std.specs.Prelude.{◌==◌, if◌then◌else◌}
use Rattle.text_kit.specs.Answer.{IsFault}
use Rattle.fixed_num.specs.Front.{Read, first, stop}
use Rattle.fixed_num.specs.Steps.{◌>>=◌}
use Rattle.json_exact.specs.declared.error.ReadStop.{ReadStop}
use Rattle.json_exact.specs.declared.error.ReadStop.TheVariants as stops
use Rattle.json_exact.specs.declared.json.Json.{Json, out-Json, out-roll-Json}
use Rattle.json_exact.specs.declared.json.Json.TheOpen as level
use Rattle.json_exact.specs.declared.json.Json.TheVariants as json
use Rattle.json_exact.specs.declared.value_reader.Stage.{Stage}
use Rattle.json_exact.specs.declared.value_reader.Stage.TheVariants as stage
use Rattle.json_exact.specs.Reading.{Spells, SpellsPadded, IsWhite, null, yes, no, number, huge, text, list, object, padded}
use Rattle.json_exact.specs.Values.{values_in, values_of, AreValuesOf}
use Rattle.json_exact.specs.inner.Reader.{cause, skip_white, padded_at, value_at, run_at, sequence_at, list_at, text_at}
use Rattle.json_exact.specs.inner.Ahead.{end_at, left_ahead, item_then, step_at, placed}
use Rattle.json_exact.proofs.Parts.{skip_white-append}
use Rattle.json_exact.proofs.Complete.{item_at}
use Rattle.json_exact.proofs.Loop.{list_there, empty_sequence, begins_run}
use Rattle.json_exact.proofs.Sound.{text_sound}
use Rattle.json_exact.proofs.Whole.{is_fault, faults_at}

abbrev Next : Type 0
Next = Json × Stage × List ℕ

-- ---- items after those that are done

abbrev run : ℕ → List Json → List ℕ → Read (List Json)
run fuel done bytes = run_at 93 (item_at 127) fuel done bytes

-- items after others
abbrev with_done : List Json → List Json × List ℕ → Read (List Json)
with_done done y = Ok (done ++ y.0, y.1)

-- a value before others
abbrev with_first : Json → List Json → Result (List Json) ℕ
with_first x more = Ok (x ∷ more)

-- items with nothing behind them
abbrev ends : List Json × List ℕ → Result (List Json) ℕ
ends y = end_at y.0 (skip_white y.1)

-- what follows an item
abbrev run_after : ℕ → List Json → Json → List ℕ → Bool → Bool → Read (List Json)
run_after fuel done x after comma closes =
    if comma then run fuel (done ++ x ∷ []) (drop 1 after) else (if closes then Ok (done ++ x ∷ [], drop 1 after) else stop after)

-- one item, and then the others
abbrev run_by : ℕ → List Json → Read Json → Read (List Json)
run_by fuel done item = item >>= λ x. run_after fuel done x.0 x.1 (first x.1 == 44) (first x.1 == 93)

twice : (done : List Json) (x : Json) (r : Read (List Json))
    → (r >>= with_done (done ++ x ∷ [])) ≡ ((r >>= with_done (x ∷ [])) >>= with_done done)
twice done x (Ok (ys, rest)) = ap (λ (xs : List Json). Ok (xs, rest)) (append_assoc done (x ∷ []) ys)
twice done x (Err left) = refl

module _ (fuel : ℕ) (others : (done : List Json) (bytes : List ℕ) → run fuel done bytes ≡ (run fuel [] bytes >>= with_done done))
    (done : List Json) where
  run_next : (x : Json) (after : List ℕ) (comma closes : Bool)
      → run_after fuel done x after comma closes ≡ (run_after fuel [] x after comma closes >>= with_done done)
  run_next x after true closes =
      others (done ++ x ∷ []) (drop 1 after) ∙ twice done x (run fuel [] (drop 1 after))
      ∙ ap (λ (r : Read (List Json)). r >>= with_done done) (sym (others (x ∷ []) (drop 1 after)))
  run_next x after false true = refl
  run_next x after false false = refl

  run_more : (item : Read Json) → run_by fuel done item ≡ (run_by fuel [] item >>= with_done done)
  run_more (Ok (x, after)) = run_next x after (first after == 44) (first after == 93)
  run_more (Err left) = refl

-- those that are done stand before what is still read
run_done : (fuel : ℕ) (done : List Json) (bytes : List ℕ) → run fuel done bytes ≡ (run fuel [] bytes >>= with_done done)
unfolding run_at
run_done zero done bytes = refl
run_done (suc fuel) done bytes = run_more fuel (λ d b. run_done fuel d b) done (padded_at (value_at 127) bytes)

-- ---- the next item

ended_by : (x : Json) (xs : List Json) (rest : List ℕ) (none : Bool)
    → (if none then Ok (x ∷ xs) else stop rest) ≡ ((if none then Ok xs else stop rest) >>= with_first x)
ended_by x xs rest true = refl
ended_by x xs rest false = refl

ended : (x : Json) (xs : List Json) (rest : List ℕ) → end_at (x ∷ xs) rest ≡ (end_at xs rest >>= with_first x)
ended x xs rest = ended_by x xs rest (length rest == 0)

end_more : (x : Json) (r : Read (List Json)) → ((r >>= with_done (x ∷ [])) >>= ends) ≡ ((r >>= ends) >>= with_first x)
end_more x (Ok (ys, rest)) = ended x ys (skip_white rest)
end_more x (Err left) = refl

abbrev then_after : Json → List ℕ → Bool → Bool → Result Next ℕ
then_after x after comma closes =
    if comma then Ok (x, stage.Items, drop 1 after) else (if closes then Ok (x, stage.End, skip_white (drop 1 after)) else stop after)

abbrev then_of : Read Json → Result Next ℕ
then_of item = item >>= λ x. then_after x.0 x.1 (first x.1 == 44) (first x.1 == 93)

-- the value, and what is ahead behind it
abbrev left_behind : ℕ → Next → Result (List Json) ℕ
left_behind most t = left_ahead t.1 most t.2 >>= with_first t.0

module _ (most : ℕ) where
  next_item : (x : Json) (after : List ℕ) (comma closes : Bool)
      → (run_after most [] x after comma closes >>= ends) ≡ (then_after x after comma closes >>= left_behind most)
  next_item x after true closes =
      ap (λ (r : Read (List Json)). r >>= ends) (run_done most (x ∷ []) (drop 1 after)) ∙ end_more x (run most [] (drop 1 after))
  next_item x after false true = ended x [] (skip_white (drop 1 after))
  next_item x after false false = refl

  items_by : (item : Read Json) → (run_by most [] item >>= ends) ≡ (then_of item >>= left_behind most)
  items_by (Ok (x, after)) = next_item x after (first after == 44) (first after == 93)
  items_by (Err left) = refl

  item_ahead : (rest : List ℕ) → left_ahead stage.Items (suc most) rest ≡ (item_then rest >>= left_behind most)
  unfolding run_at
  item_ahead rest = items_by (padded_at (value_at 127) rest)

-- ---- the next value

-- the one value of a text, and nothing behind it
abbrev alone : Json → Result (Option Next) ℕ
alone tree = Ok (Some (tree, stage.End, []))

abbrev only : Json → Result (List Json) ℕ
only tree = Ok (tree ∷ [])

abbrev found : Next → Result (Option Next) ℕ
found t = Ok (Some t)

abbrev end_or : {A : Type 0} → A → List ℕ → Bool → Result A ℕ
end_or x rest none = if none then Ok x else stop rest

placed_more : (size : ℕ) (x : Json) (r : Result (List Json) ℕ) → placed size (r >>= with_first x) ≡ (placed size r >>= with_first x)
placed_more size x (Ok xs) = refl
placed_more size x (Err left) = refl

none_some : (rest : List ℕ) (t : Next) (none : Bool) → end_or {A = Option Next} None rest none ≡ Ok (Some t) → ⊥
none_some rest t true e = absurd cc
none_some rest t false e = absurd cc

stop_some : (rest : List ℕ) (t : Next) → stop {A = Option Next} rest ≡ Ok (Some t) → ⊥
stop_some rest t e = absurd cc

module _ (size : ℕ) where
  -- the value, and what is ahead of the reader behind it
  abbrev behind : ℕ → Next → Result (List Json) ℕ
  behind most t = placed size (left_ahead t.1 most t.2) >>= with_first t.0

  whole_some : (most : ℕ) (r : Result Json ℕ) (t : Next) → (r >>= alone) ≡ Ok (Some t) → placed size (r >>= only) ≡ behind most t
  whole_some most (Ok tree) t e =
      let same : (tree, stage.End, []) ≡ t = cc in
      subst (λ (s : Next). Ok (tree ∷ []) ≡ behind most s) same refl
  whole_some most (Err left) t e = absurd cc

  item_some : (most : ℕ) (r : Result Next ℕ) (t : Next) → (r >>= found) ≡ Ok (Some t) → placed size (r >>= left_behind most) ≡ behind most t
  item_some most (Ok x) t e =
      let same : x ≡ t = cc in
      placed_more size x.0 (left_ahead x.1 most x.2) ∙ ap (behind most) same
  item_some most (Err left) t e = absurd cc

  some_next : (at : Stage) (most : ℕ) (rest : List ℕ) (t : Next) → step_at at (suc most) rest ≡ Ok (Some t)
      → placed size (left_ahead at (suc most) rest) ≡ behind most t
  some_next stage.End most rest t e = absurd (none_some rest t (length rest == 0) e)
  some_next stage.Whole most rest t e = whole_some most (text_at rest) t e
  some_next stage.Items most rest t e = ap (placed size) (item_ahead most rest) ∙ item_some most (item_then rest) t e

  -- a value comes
  pub some_is : (at : Stage) (most fewer : ℕ) (rest : List ℕ) (t : Next) → fewer ≡ most - 1 → step_at at most rest ≡ Ok (Some t)
      → placed size (left_ahead at most rest) ≡ behind fewer t
  some_is stage.End zero fewer rest t same e = absurd (none_some rest t (length rest == 0) e)
  some_is stage.Whole zero fewer rest t same e = absurd (stop_some rest t e)
  some_is stage.Items zero fewer rest t same e = absurd (stop_some rest t e)
  some_is at (suc most) fewer rest t same e =
      let one : most ≡ fewer = omega (arith, same) in
      some_next at most rest t e ∙ ap (λ n. behind n t) one

  at_front : (left : ℕ) (rest : List ℕ) → stop {A = Option Next} rest ≡ Err left → placed {A = List Json} size (stop rest) ≡ Err (size - left)
  at_front left rest e =
      let same : length rest ≡ left = cc in
      ap (λ n. Err (size - n)) same

  end_fault : (left : ℕ) (rest : List ℕ) (none : Bool) → end_or {A = Option Next} None rest none ≡ Err left
      → placed size (end_or {A = List Json} [] rest none) ≡ Err (size - left)
  end_fault left rest true e = absurd cc
  end_fault left rest false e = at_front left rest e

  whole_fault : (left : ℕ) (r : Result Json ℕ) → (r >>= alone) ≡ Err left → placed size (r >>= only) ≡ Err (size - left)
  whole_fault left (Ok tree) e = absurd cc
  whole_fault left (Err k) e =
      let same : k ≡ left = cc in
      ap (λ n. Err (size - n)) same

  item_fault : (most left : ℕ) (r : Result Next ℕ) → (r >>= found) ≡ Err left → placed size (r >>= left_behind most) ≡ Err (size - left)
  item_fault most left (Ok x) e = absurd cc
  item_fault most left (Err k) e =
      let same : k ≡ left = cc in
      ap (λ n. Err (size - n)) same

  fault_next : (at : Stage) (most left : ℕ) (rest : List ℕ) → step_at at most rest ≡ Err left
      → placed size (left_ahead at most rest) ≡ Err (size - left)
  unfolding run_at
  fault_next stage.End most left rest e = end_fault left rest (length rest == 0) e
  fault_next stage.Whole zero left rest e = at_front left rest e
  fault_next stage.Whole (suc most) left rest e = whole_fault left (text_at rest) e
  fault_next stage.Items zero left rest e = at_front left rest e
  fault_next stage.Items (suc most) left rest e = ap (placed size) (item_ahead most rest) ∙ item_fault most left (item_then rest) e

  -- a fault comes
  pub fault_is : (at : Stage) (most left place : ℕ) (rest : List ℕ) (error : ReadStop) → error ≡ stops.Fault left
      → IsFault (cause error) (step_at at most rest) → place ≡ size - left → placed size (left_ahead at most rest) ≡ Err place
  fault_is at most left place rest error is given same =
      let e : step_at at most rest ≡ Err left = subst (λ (s : ReadStop). IsFault (cause s) (step_at at most rest)) is given in
      fault_next at most left rest e ∙ ap Err (sym same)

-- ---- the beginning

abbrev values_read : Json → Result (List Json) ℕ
values_read tree = Ok (values_of tree)

said_by : (bytes : List ℕ) (r : Result Json ℕ) → text_at bytes ≡ r → AreValuesOf bytes (placed (length bytes) (r >>= values_read))
said_by bytes (Ok tree) e = (tree, text_sound bytes tree e, refl)
said_by bytes (Err k) e = (λ tree reads. is_fault bytes k e tree reads, faults_at bytes k (length bytes - k) e refl)

-- what the text gives is right
said : (bytes : List ℕ) (size : ℕ) (given : Result (List Json) ℕ) → size ≡ length bytes → given ≡ (text_at bytes >>= values_read)
    → AreValuesOf bytes (placed size given)
said bytes size given same is =
    let whole : placed (length bytes) (text_at bytes >>= values_read) ≡ placed size given =
    ap (placed (length bytes)) (sym is) ∙ ap (λ n. placed n given) (sym same) in
    subst (AreValuesOf bytes) whole (said_by bytes (text_at bytes) refl)

bracket_stays : (b : ℕ) (rest : List ℕ) → b ≡ 91 → first (skip_white (b ∷ rest)) ≡ 91
unfolding skip_white
bracket_stays b rest e = rw e refl

opens_list : (before word after : List ℕ) → IsWhite before → first word ≡ 91 → first (skip_white (before ++ word ++ after)) ≡ 91
opens_list before [] after white e = absurd (omega (arith, e))
opens_list before (b ∷ word) after white e =
    ap (λ l. first (skip_white l)) (append_assoc before (b ∷ word) after) ∙ ap first (skip_white-append before (b ∷ (word ++ after)) white)
    ∙ bracket_stays b (word ++ after) e

no_list : {tree : Json} {word : List ℕ} → Spells tree word → (before after : List ℕ) → IsWhite before
    → (first (skip_white (before ++ word ++ after)) ≡ 91 → ⊥) → values_of tree ≡ tree ∷ []
unfolding out-Json denote.Hole.Carrier.out
no_list null before after white apart = refl
no_list yes before after white apart = refl
no_list no before after white apart = refl
no_list (number m word r i) before after white apart = refl
no_list (huge m word r i) before after white apart = refl
no_list (text t word q) before after white apart = refl
no_list (list items inside s) before after white apart = absurd (apart (opens_list before _ after white refl))
no_list (object members inside d s) before after white apart = refl

one_value : {tree : Json} {bytes : List ℕ} → SpellsPadded tree bytes → (first (skip_white bytes) ≡ 91 → ⊥) → values_of tree ≡ tree ∷ []
one_value (padded tree before word after white spells behind) apart = no_list spells before after white apart

whole_by : (bytes : List ℕ) (r : Result Json ℕ) → text_at bytes ≡ r → (first (skip_white bytes) ≡ 91 → ⊥) → (r >>= only) ≡ (r >>= values_read)
whole_by bytes (Ok tree) e apart = ap Ok (sym (one_value (text_sound bytes tree e).0 apart))
whole_by bytes (Err k) e apart = refl

-- a text that is no list
pub whole_ahead : (bytes front : List ℕ) (size : ℕ) → size ≡ length bytes → front ≡ skip_white bytes → (first front ≡ 91 → ⊥)
    → AreValuesOf bytes (placed size (left_ahead stage.Whole 1 bytes))
whole_ahead bytes front size same is apart =
    said bytes size (left_ahead stage.Whole 1 bytes) same (whole_by bytes (text_at bytes) refl (λ e. apart (ap first is ∙ e)))

opened : (items : List Json) → values_of (json.List items) ≡ items
opened items = ap (values_in (json.List items)) (ap out-Json (sym (json.rolls-List items)) ∙ out-roll-Json (level.List items))

list_end : (items : List Json) (rest : List ℕ) (none : Bool) → (end_or (json.List items) rest none >>= values_read) ≡ end_or items rest none
list_end items rest true = ap Ok (opened items)
list_end items rest false = refl

abbrev listed : List Json × List ℕ → Read Json
listed items = Ok (json.List items.0, items.1)

abbrev skipped : Json × List ℕ → Read Json
skipped x = Ok (x.0, skip_white x.1)

abbrev text_end : Json × List ℕ → Result Json ℕ
text_end x = end_at x.0 x.1

list_by : (s : Read (List Json)) → ((((s >>= listed) >>= skipped) >>= text_end) >>= values_read) ≡ (s >>= ends)
list_by (Ok (items, rest)) = list_end items (skip_white rest) (length (skip_white rest) == 0)
list_by (Err k) = refl

list_text : (bytes : List ℕ) → first (skip_white bytes) ≡ 91
    → (text_at bytes >>= values_read) ≡ (sequence_at 93 (item_at 127) (drop 1 (skip_white bytes)) >>= ends)
unfolding text_at list_at
list_text bytes e =
    ap (λ (r : Read Json). ((r >>= skipped) >>= text_end) >>= values_read) (list_there 128 (skip_white bytes) (lit≤ tt) e)
    ∙ list_by (sequence_at 93 (item_at 127) (drop 1 (skip_white bytes)))

module _ (bytes front inside rest : List ℕ) (size : ℕ) (same : size ≡ length bytes) (is : front ≡ skip_white bytes) (brackets : first front ≡ 91)
    (drops : inside ≡ drop 1 front) (skips : rest ≡ skip_white inside) where
  whole_list : (text_at bytes >>= values_read) ≡ (sequence_at 93 (item_at 127) inside >>= ends)
  whole_list =
      list_text bytes (ap first (sym is) ∙ brackets)
      ∙ ap (λ b. sequence_at 93 (item_at 127) b >>= ends) (ap (drop 1) (sym is) ∙ sym drops)

  -- a list without items
  pub end_ahead : (most : ℕ) (last : List ℕ) → first rest ≡ 93 → last ≡ skip_white (drop 1 rest)
      → AreValuesOf bytes (placed size (left_ahead stage.End most last))
  end_ahead most last closes e =
      let empty : sequence_at 93 (item_at 127) inside ≡ Ok ([], drop 1 (skip_white inside)) =
      empty_sequence 93 (item_at 127) inside (ap first (sym skips) ∙ closes) in
      said bytes size (end_at [] last) same
      (ap (λ b. end_at {A = List Json} [] b) (e ∙ ap (λ b. skip_white (drop 1 b)) skips)
      ∙ sym (whole_list ∙ ap (λ (s : Read (List Json)). s >>= ends) empty))

  -- a list of some
  pub items_ahead : (most : ℕ) → most ≡ length inside → (first rest ≡ 93 → ⊥) → AreValuesOf bytes (placed size (left_ahead stage.Items most rest))
  items_ahead most count apart =
      let fuel : length inside - 0 ≡ most = omega (arith, count) in
      let begins : run most [] rest ≡ sequence_at 93 (item_at 127) inside =
      ap (λ b. run most [] b) skips ∙ ap (λ n. run n [] (skip_white inside)) (sym fuel)
      ∙ begins_run 93 (item_at 127) inside (λ e. apart (ap first skips ∙ e)) in
      said bytes size (left_ahead stage.Items most rest) same
      (ap (λ (s : Read (List Json)). s >>= ends) begins ∙ sym whole_list)
