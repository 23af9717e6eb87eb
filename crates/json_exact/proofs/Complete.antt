-- What is spelled is read, whatever may follow it.
use Rattle.std.proofs.Common.{◌≡◌, ℕ, zero, suc, ◌<◌, ◌≤◌, true, false, eqb, List, [], ◌∷◌, ◌++◌, length, Ok, Err, ℤ, refl, sym, ap, ◌∙◌}
use Rattle.std.proofs.Common.{append_assoc, arith, inl, inr, ◌⊎◌, ◌||◌}
use Rattle.std.specs.Prelude.{codes, AllPairs}
use Rattle.fixed_num.specs.JsonNumber as numbers
use Rattle.fixed_num.specs.JsonNumber.{decimal_value}
use Rattle.fixed_num.specs.Number.{IsNumber}
use Rattle.std.specs.Char.{is_ascii_digit}
use Rattle.std.specs.List.{list_any}
use Rattle.std.specs.Str.{bytes_eq}
use Rattle.std.proofs.lemmas.Bool.{cond-false}
use Rattle.std.proofs.lemmas.Bool.Decides.{nat_tests}
use Rattle.std.proofs.lemmas.List.{append-nil}
use Rattle.std.proofs.Math.Nat.{le-max_left, le-max_right}
use Rattle.json_exact.specs.declared.json.Json.{Json}
use Rattle.json_exact.specs.declared.json.Json.TheVariants as json
use Rattle.json_exact.specs.declared.json.Member.{Member}
use Rattle.json_exact.specs.Reading.{is_white, IsWhite, IsQuoted, Spells, SpellsPadded, SpellsItems, SpellsMember, SpellsMembers, null, yes}
use Rattle.json_exact.specs.Reading.{no, number, huge, text, list, object, padded, no_item, last_item, more_items, member, no_member}
use Rattle.json_exact.specs.Reading.{last_member, more_members, depth, Reads}
use Rattle.fixed_num.specs.Front.{Read, first, stop, parts_at, whole_at, digits_at, ends_number}
use Rattle.json_exact.specs.inner.Reader.{skip_white, padded_at, after_word, quoted_at, number_at, tree_of, number_tree, run_at}
use Rattle.json_exact.specs.inner.Reader.{sequence_at, list_at, object_at, member_at, nested_at, flat_at, value_from, value_at, text_at}
use Rattle.json_exact.specs.inner.Reader.{names_of}
use Rattle.json_exact.proofs.Depth.{deepest, deepest_value, depth-List, depth-Object}
use Rattle.json_exact.proofs.Parts.{Stops, skip_white-again, ends-append}
use Rattle.fixed_num.proofs.Numerals.{parts_again, parts-first}
use Rattle.fixed_num.proofs.RangeLemmas.{in_range_at_number, in_range_elsewhere}
use Rattle.json_exact.proofs.Quotes.{quoted_again}
use Rattle.json_exact.proofs.Runs.{padded_again, run_last, run_next, IsElement, sequence_again}
use Rattle.json_exact.proofs.Apart.{Differ, fresh}

-- ---- the first byte

-- a number begins with a digit or `-`
abbrev StartsNumber : List ℕ → Type 0
StartsNumber bytes = (first bytes ≡ 45) ⊎ (is_ascii_digit (first bytes) ≡ true)

not_white : (b : ℕ) → is_ascii_digit b ≡ true → is_white b ≡ false
not_white b e = grind (arith, nat_tests)

number-not_white : (bytes : List ℕ) → StartsNumber bytes → is_white (first bytes) ≡ false
number-not_white bytes (inl e) = rw e refl
number-not_white bytes (inr e) = not_white (first bytes) e

quoted-not_white : (t word rest : List ℕ) → IsQuoted word t → is_white (first (word ++ rest)) ≡ false
quoted-not_white t word rest q = rw q.quoted refl

pub starts : {tree : Json} {word : List ℕ} → Spells tree word → (rest : List ℕ) → is_white (first (word ++ rest)) ≡ false
starts null rest = refl
starts yes rest = refl
starts no rest = refl
starts (number m word n k) rest = number-not_white (word ++ rest) (parts-first word rest n.0 n.1)
starts (huge m word n k) rest = number-not_white (word ++ rest) (parts-first word rest n.0 n.1)
starts (text t word q) rest = quoted-not_white t word rest q
starts (list items inside r) rest = refl
starts (object members inside d r) rest = refl

-- ---- values that are neither lists nor objects

value_number : (nested : List ℕ → Read Json) (bytes : List ℕ) → StartsNumber bytes → value_from nested bytes ≡ number_at bytes
unfolding value_from flat_at
value_number nested bytes s =
    let a : (eqb (first bytes) 91 || eqb (first bytes) 123) ≡ false = grind (arith, nat_tests) in
    let b : eqb (first bytes) 34 ≡ false = grind (arith, nat_tests) in
    let c : eqb (first bytes) 110 ≡ false = grind (arith, nat_tests) in
    let d : eqb (first bytes) 116 ≡ false = grind (arith, nat_tests) in
    let e : eqb (first bytes) 102 ≡ false = grind (arith, nat_tests) in
    cond-false _ _ _ a ∙ cond-false _ _ _ b ∙ cond-false _ _ _ c ∙ cond-false _ _ _ d ∙ cond-false _ _ _ e

null_again : (nested : List ℕ → Read Json) (rest : List ℕ) → value_from nested (codes "null" ++ rest) ≡ Ok (json.Null, rest)
unfolding value_from flat_at after_word
null_again nested rest = refl

true_again : (nested : List ℕ → Read Json) (rest : List ℕ) → value_from nested (codes "true" ++ rest) ≡ Ok (json.Flag true, rest)
unfolding value_from flat_at after_word
true_again nested rest = refl

false_again : (nested : List ℕ → Read Json) (rest : List ℕ) → value_from nested (codes "false" ++ rest) ≡ Ok (json.Flag false, rest)
unfolding value_from flat_at after_word
false_again nested rest = refl

value_text : (nested : List ℕ → Read Json) (bytes rest t : List ℕ) → first bytes ≡ 34 → quoted_at [] bytes ≡ Ok (t, rest)
    → value_from nested bytes ≡ Ok (json.Text t, rest)
unfolding value_from flat_at
value_text nested bytes rest t e h = rw (e, h) refl

quoted-first : (t word rest : List ℕ) → IsQuoted word t → first (word ++ rest) ≡ 34
quoted-first t word rest q = rw q.quoted refl

text_again : (nested : List ℕ → Read Json) (t word rest : List ℕ) → IsQuoted word t
    → value_from nested (word ++ rest) ≡ Ok (json.Text t, rest)
text_again nested t word rest q = value_text nested (word ++ rest) rest t (quoted-first t word rest q) (quoted_again [] t word rest q refl)

number_read : (word rest : List ℕ) (m : ℤ) (tree : Json) → numbers.Reads word m → number_tree m ≡ tree → ends_number (first rest) ≡ true
    → number_at (word ++ rest) ≡ Ok (tree, rest)
unfolding number_at
number_read word rest m tree r t e =
    let value : number_tree (decimal_value r.0) ≡ tree = ap number_tree (sym r.2) ∙ t in
    rw (parts_again word rest r.0 r.1 e, value) refl

number_again : (word rest : List ℕ) (m : ℤ) → numbers.Reads word m → IsNumber m → ends_number (first rest) ≡ true
    → number_at (word ++ rest) ≡ Ok (json.Number m, rest)
number_again word rest m r k e = number_read word rest m (json.Number m) r (ap tree_of (in_range_at_number m k)) e

huge_again : (word rest : List ℕ) (m : ℤ) → numbers.Reads word m → (IsNumber m → ⊥) → ends_number (first rest) ≡ true
    → number_at (word ++ rest) ≡ Ok (json.Huge, rest)
huge_again word rest m r k e = number_read word rest m json.Huge r (ap tree_of (in_range_elsewhere m k)) e

-- ---- readers of elements

at_level : (level : ℕ) (bytes : List ℕ) (r : Read Json) → ((nested : List ℕ → Read Json) → value_from nested bytes ≡ r)
    → value_at level bytes ≡ r
unfolding value_at
at_level zero bytes r h = h (λ rest. stop rest)
at_level (suc level) bytes r h = h (nested_at (value_at level))

no_value : (nested : List ℕ → Read Json) (b : ℕ) (rest : List ℕ) → b ≡ 93 → value_from nested (b ∷ rest) ≡ Err (length (b ∷ rest))
unfolding value_from flat_at number_at parts_at whole_at digits_at
no_value nested b rest e = rw e refl

value-refuses : (level : ℕ) (bytes : List ℕ) → first bytes ≡ 93 → value_at level bytes ≡ Err (length bytes)
value-refuses level [] e = absurd cc
value-refuses level (b ∷ rest) e = at_level level (b ∷ rest) (Err (length (b ∷ rest))) (λ nested. no_value nested b rest e)

abbrev pub item_at : ℕ → List Json → List ℕ → Read Json
item_at level out = padded_at (value_at level)

pub item-is : (level : ℕ) → IsElement 93 (item_at level)
item-is level = record {
  skips = λ out bytes. rw (skip_white-again bytes) refl;
  refuses = λ out bytes e. rw (value-refuses level (skip_white bytes) e) refl;
}

pub member-is : (level : ℕ) → IsElement 125 (member_at (value_at level))
unfolding member_at quoted_at
member-is level = record {
  skips = λ out bytes. rw (skip_white-again bytes) refl;
  refuses = λ out bytes e. rw e refl;
}

-- ---- lists and objects

items-kind : {items : List Json} {inside : List ℕ} → SpellsItems items inside → ((items ≡ []) × IsWhite inside) ⊎ (0 < length items)
items-kind (no_item inside w) = inl (refl, w)
items-kind (last_item item inside p) = inr (omega arith)
items-kind (more_items item next others front back p r) = inr (omega arith)

members-kind : {members : List Member} {inside : List ℕ} → SpellsMembers members inside
    → ((members ≡ []) × IsWhite inside) ⊎ (0 < length members)
members-kind (no_member inside w) = inl (refl, w)
members-kind (last_member m inside p) = inr (omega arith)
members-kind (more_members m next others front back p r) = inr (omega arith)

-- the elements between the brackets are read
abbrev RunAgain : {A : Type 0} → ℕ → (List A → List ℕ → Read A) → List A → List ℕ → List ℕ → List A → Type 0
RunAgain close element out inside rest xs =
    0 < length xs → (fuel : ℕ) → length inside < fuel → run_at close element fuel out (inside ++ close ∷ rest) ≡ Ok (out ++ xs, rest)

list_step : (items : List Json) (inside rest : List ℕ) (level : ℕ) → suc (deepest items) ≤ level
    → ((items ≡ []) × IsWhite inside) ⊎ (0 < length items) → ((l : ℕ) → deepest items ≤ l → RunAgain 93 (item_at l) [] inside rest items)
    → value_at level ((91 ∷ inside ++ 93 ∷ []) ++ rest) ≡ Ok (json.List items, rest)
unfolding value_at value_from nested_at list_at
list_step items inside rest zero d kind h = absurd (omega arith)
list_step items inside rest (suc l) d kind h =
    let read : sequence_at 93 (item_at l) (inside ++ 93 ∷ rest) ≡ Ok (items, rest) =
    sequence_again 93 (item_at l) (item-is l) refl inside rest items kind (h l (omega arith)) in
    rw (append_assoc inside (93 ∷ []) rest, read) refl

object_step : (members : List Member) (inside rest : List ℕ) (level : ℕ) → suc (deepest_value members) ≤ level
    → ((members ≡ []) × IsWhite inside) ⊎ (0 < length members)
    → ((l : ℕ) → deepest_value members ≤ l → RunAgain 125 (member_at (value_at l)) [] inside rest members)
    → value_at level ((123 ∷ inside ++ 125 ∷ []) ++ rest) ≡ Ok (json.Object members, rest)
unfolding value_at value_from nested_at object_at
object_step members inside rest zero d kind h = absurd (omega arith)
object_step members inside rest (suc l) d kind h =
    let read = sequence_again 125 (member_at (value_at l)) (member-is l) refl inside rest members kind (h l (omega arith)) in
    rw (append_assoc inside (125 ∷ []) rest, read) refl

member_step : (out : List Member) (m : Member) (before word after value rest : List ℕ) (level : ℕ) → IsWhite before → IsQuoted word m.name
    → IsWhite after → list_any (bytes_eq m.name) (names_of out) ≡ false → padded_at (value_at level) (value ++ rest) ≡ Ok (m.value, rest)
    → member_at (value_at level) out ((before ++ word ++ after ++ 58 ∷ value) ++ rest) ≡ Ok (m, rest)
unfolding member_at
member_step out m before word after value rest level wb q wa new h =
    let name = padded_again (quoted_at (names_of out)) before word after (58 ∷ (value ++ rest)) m.name wb
    (quoted-not_white m.name word (after ++ 58 ∷ (value ++ rest)) q)
    (quoted_again (names_of out) m.name word (after ++ 58 ∷ (value ++ rest)) q new) wa refl in
    ap (member_at (value_at level) out) (append_assoc (before ++ word ++ after) (58 ∷ value) rest) ∙ rw (name, h) refl

stops_93 : {rest : List ℕ} → Stops (93 ∷ rest)
stops_93 = record { no_white = refl; no_number = refl }

stops_125 : {rest : List ℕ} → Stops (125 ∷ rest)
stops_125 = record { no_white = refl; no_number = refl }

stops_44 : {rest : List ℕ} → Stops (44 ∷ rest)
stops_44 = record { no_white = refl; no_number = refl }

mutual
  pub value_again : {tree : Json} {word : List ℕ} → Spells tree word → (level : ℕ) (rest : List ℕ) → depth tree ≤ level
      → ends_number (first rest) ≡ true → value_at level (word ++ rest) ≡ Ok (tree, rest)
  value_again null level rest d e = at_level level (codes "null" ++ rest) (Ok (json.Null, rest)) (λ nested. null_again nested rest)
  value_again yes level rest d e = at_level level (codes "true" ++ rest) (Ok (json.Flag true, rest)) (λ nested. true_again nested rest)
  value_again no level rest d e = at_level level (codes "false" ++ rest) (Ok (json.Flag false, rest)) (λ nested. false_again nested rest)
  value_again (number m word n k) level rest d e =
      at_level level (word ++ rest) (Ok (json.Number m, rest)) (λ nested. value_number nested (word ++ rest) (parts-first word rest n.0 n.1)
      ∙ number_again word rest m n k e)
  value_again (huge m word n k) level rest d e =
      at_level level (word ++ rest) (Ok (json.Huge, rest)) (λ nested. value_number nested (word ++ rest) (parts-first word rest n.0 n.1)
      ∙ huge_again word rest m n k e)
  value_again (text t word q) level rest d e =
      at_level level (word ++ rest) (Ok (json.Text t, rest)) (λ nested. text_again nested t word rest q)
  value_again (list items inside r) level rest d e =
      list_step items inside rest level (rw (← depth-List items) d) (items-kind r) (λ l deep. items_again r l [] rest deep)
  value_again (object members inside apart r) level rest d e =
      object_step members inside rest level (rw (← depth-Object members) d) (members-kind r)
      (λ l deep. members_again r l [] rest deep apart)

  pub padded_value_again : {tree : Json} {word : List ℕ} → SpellsPadded tree word → (level : ℕ) (rest : List ℕ) → depth tree ≤ level
      → Stops rest → padded_at (value_at level) (word ++ rest) ≡ Ok (tree, rest)
  padded_value_again (padded tree before word after wb s wa) level rest d stop =
      padded_again (value_at level) before word after rest tree wb (starts s (after ++ rest))
      (value_again s level (after ++ rest) d (ends-append after rest wa stop.no_number)) wa stop.no_white

  items_again : {items : List Json} {inside : List ℕ} → SpellsItems items inside → (level : ℕ) (out : List Json) (rest : List ℕ)
      → deepest items ≤ level → RunAgain 93 (item_at level) out inside rest items
  items_again (no_item inside w) level out rest d some fuel lt = absurd (omega arith)
  items_again (last_item item inside p) level out rest d some fuel lt =
      run_last 93 (item_at level) fuel out inside rest item refl lt
      (padded_value_again p level (93 ∷ rest) (omega (arith, le-max_left (depth item) 0)) stops_93)
  items_again (more_items item next others front back p r) level out rest d some fuel lt =
      run_next 93 (item_at level) fuel out front back rest item (next ∷ others) lt
      (padded_value_again p level (44 ∷ (back ++ 93 ∷ rest)) (omega (arith, le-max_left (depth item) (deepest (next ∷ others))))
      stops_44) (items_again r level (out ++ item ∷ []) rest
      (omega (arith, le-max_right (depth item) (deepest (next ∷ others)))) (omega arith))

  member_again : {m : Member} {word : List ℕ} → SpellsMember m word → (level : ℕ) (out : List Member) (rest : List ℕ)
      → depth m.value ≤ level → list_any (bytes_eq m.name) (names_of out) ≡ false → Stops rest
      → member_at (value_at level) out (word ++ rest) ≡ Ok (m, rest)
  member_again (member m before word after value wb q wa p) level out rest d new stop =
      member_step out m before word after value rest level wb q wa new (padded_value_again p level rest d stop)

  members_again : {members : List Member} {inside : List ℕ} → SpellsMembers members inside → (level : ℕ) (out : List Member) (rest : List ℕ)
      → deepest_value members ≤ level → AllPairs Differ (out ++ members) → RunAgain 125 (member_at (value_at level)) out inside rest members
  members_again (no_member inside w) level out rest d apart some fuel lt = absurd (omega arith)
  members_again (last_member m inside p) level out rest d apart some fuel lt =
      run_last 125 (member_at (value_at level)) fuel out inside rest m refl lt
      (member_again p level out (125 ∷ rest) (omega (arith, le-max_left (depth m.value) 0)) (fresh out [] m apart) stops_125)
  members_again (more_members m next others front back p r) level out rest d apart some fuel lt =
      run_next 125 (member_at (value_at level)) fuel out front back rest m (next ∷ others) lt
      (member_again p level out (44 ∷ (back ++ 125 ∷ rest)) (omega (arith, le-max_left (depth m.value) (deepest_value (next ∷ others))))
      (fresh out (next ∷ others) m apart) stops_44)
      (members_again r level (out ++ m ∷ []) rest (omega (arith, le-max_right (depth m.value) (deepest_value (next ∷ others))))
      (rw (append_assoc out (m ∷ []) (next ∷ others)) apart) (omega arith))

-- ---- all of the bytes

pub text_again-whole : (bytes : List ℕ) (tree : Json) → Reads bytes tree → text_at bytes ≡ Ok tree
unfolding text_at
text_again-whole bytes tree r =
    let h : padded_at (value_at 128) (bytes ++ []) ≡ Ok (tree, []) =
    padded_value_again r.0 128 [] r.1 (record { no_white = refl; no_number = refl }) in
    let k : padded_at (value_at 128) bytes ≡ Ok (tree, []) = rw (← append-nil bytes) h in
    rw k refl
