-- Trees that are read of bytes: no object in them has a name twice, and they have no more lists and objects than bytes.
use Rattle.std.proofs.Common.{◌≡◌, ℕ, suc, ◌+◌, ◌≤◌, ◌<◌, Bool, true, false, List, [], ◌∷◌, ◌++◌, length, get_or, refl, sym, ap, subst, ◌∙◌, arith}
use Rattle.std.specs.Prelude.{◌≢◌, AllPairs, ◌||◌, bytes_eq}
use Rattle.std.proofs.lemmas.List.{length-append}
use Rattle.std.proofs.lemmas.Slice.Eq.{bytes_eq-Decides}
use Rattle.json_exact.specs.declared.json.Json.{Json, Null, Flag, Number, Huge, Text, List', Object', Row_of-Json, end_of-Json}
use Rattle.json_exact.specs.declared.json.Json.{more_of-Json, items-the_row-Json, items_hidden-the_row-Json-0, Row_of-Member, end_of-Member}
use Rattle.json_exact.specs.declared.json.Json.{more_of-Member, items-the_row-Member, items_hidden-the_row-Member-1}
use Rattle.json_exact.specs.declared.json.Json.TheBlock.{hidden-the_row-Json-0, hidden-the_row-Member-1}
use Rattle.json_exact.specs.declared.json.Json.TheVariants as json
use Rattle.json_exact.specs.declared.json.Member.{Member}
use Rattle.json_exact.specs.Reading.{Spells, SpellsPadded, SpellsItems, SpellsMember, SpellsMembers, null, yes, no, number, huge, text}
use Rattle.json_exact.specs.Reading.{list, object, padded, no_item, last_item, more_items, member, no_member, last_member, more_members}
use Rattle.json_exact.specs.Reading.{Reads}
use Rattle.spec_schema.specs.Layouts.{has_name}
use Rattle.spec_schema.specs.Faults.{members_of as members_opened}
use Rattle.vega_standing.specs.OwnNames.{AreOwn, HasOwnNames, HaveOwnNames, HaveValuesOwnNames}
use Rattle.vega_standing.proofs.Trees.{Each, opened_object}

-- ---- own names

own_rows : {n : _} (row : Row_of-Json n) → Each HasOwnNames (items-the_row-Json n row) → HaveOwnNames row
own_rows end_of-Json each = tt
own_rows (more_of-Json item others) each = (each.0, own_rows others each.1)

own_values : {n : _} (row : Row_of-Member n) → Each (λ (m : Member). HasOwnNames m.value) (items-the_row-Member n row) → HaveValuesOwnNames row
own_values end_of-Member each = tt
own_values (more_of-Member name value others) each = (each.0, own_values others each.1)

own_list : (items : List Json) → Each HasOwnNames items → HasOwnNames (json.List items)
own_list items each = own_rows (hidden-the_row-Json-0 items) (subst (Each HasOwnNames) (sym (items_hidden-the_row-Json-0 items)) each)

none_has : (name : List ℕ) (ms : List Member) → ((i : ℕ) (d : Member) → i < length ms → name ≢ (get_or ms i d).name) → has_name ms name ≡ false
none_has name [] apart = refl
none_has name (m ∷ ms) apart = by_test (bytes_eq m.name name) refl (none_has name ms (λ i d within. apart (suc i) d (one_further i (length ms) within)))
  where
    one_further : (i n : ℕ) → i < n → suc i < suc n
    one_further i n lt = omega arith

    first_place : (n : ℕ) → 0 < suc n
    first_place n = omega arith

    by_test : (b : Bool) → bytes_eq m.name name ≡ b → has_name ms name ≡ false → (b || has_name ms name) ≡ false
    by_test false same rest = rest
    by_test true same rest = absurd (apart 0 m (first_place (length ms)) (sym ((bytes_eq-Decides m.name name).0 same)))

are_own : (ms : List Member) → AllPairs (λ m n. m.name ≢ n.name) ms → AreOwn ms
are_own [] apart = tt
are_own (m ∷ ms) apart = (
  none_has m.name ms (λ i d within. apart 0 (suc i) d (before i) (further i (length ms) within)),
  are_own ms (λ i j d less within. apart (suc i) (suc j) d (further i j less) (further j (length ms) within)),
)
  where
    before : (i : ℕ) → 0 < suc i
    before i = omega arith

    further : (i n : ℕ) → i < n → suc i < suc n
    further i n lt = omega arith

own_object : (ms : List Member) → AllPairs (λ m n. m.name ≢ n.name) ms → Each (λ (m : Member). HasOwnNames m.value) ms → HasOwnNames (json.Object ms)
own_object ms apart each = (
  subst AreOwn (sym (ap members_opened (opened_object ms))) (are_own ms apart),
  own_values (hidden-the_row-Member-1 ms) (subst (Each (λ (m : Member). HasOwnNames m.value)) (sym (items_hidden-the_row-Member-1 ms)) each),
)

mutual
  spelled_own : {tree : Json} {word : List ℕ} → Spells tree word → HasOwnNames tree
  spelled_own null = tt
  spelled_own yes = tt
  spelled_own no = tt
  spelled_own (number m word reads within) = tt
  spelled_own (huge m word reads out) = tt
  spelled_own (text t word quoted) = tt
  spelled_own (list items inside s) = own_list items (items_own s)
  spelled_own (object members inside apart s) = own_object members apart (members_own s)

  padded_own : {tree : Json} {bytes : List ℕ} → SpellsPadded tree bytes → HasOwnNames tree
  padded_own (padded tree before word after w s v) = spelled_own s

  items_own : {items : List Json} {inside : List ℕ} → SpellsItems items inside → Each HasOwnNames items
  items_own (no_item inside w) = tt
  items_own (last_item item inside s) = (padded_own s, tt)
  items_own (more_items item next others front back s r) = (padded_own s, items_own r)

  member_own : {m : Member} {bytes : List ℕ} → SpellsMember m bytes → HasOwnNames m.value
  member_own (member m before word after value w q v s) = padded_own s

  members_own : {ms : List Member} {inside : List ℕ} → SpellsMembers ms inside → Each (λ (m : Member). HasOwnNames m.value) ms
  members_own (no_member inside w) = tt
  members_own (last_member m inside s) = (member_own s, tt)
  members_own (more_members m next others front back s r) = (member_own s, members_own r)

-- no object of a tree that is read has a name twice
pub read_own : (bytes : List ℕ) (tree : Json) → Reads bytes tree → HasOwnNames tree
read_own bytes tree reads = padded_own reads.0

-- ---- lists and objects

abbrev mutual
  -- how many lists and objects there are in a tree
  pub holders : Json → ℕ
  holders Null = 0
  holders (Flag b) = 0
  holders (Number n) = 0
  holders Huge = 0
  holders (Text t) = 0
  holders (List' size items) = suc (held_items items)
  holders (Object' size members) = suc (held_values members)

  pub held_items : {n : _} → Row_of-Json n → ℕ
  held_items end_of-Json = 0
  held_items (more_of-Json item others) = holders item + held_items others

  pub held_values : {n : _} → Row_of-Member n → ℕ
  held_values end_of-Member = 0
  held_values (more_of-Member name value others) = holders value + held_values others

abbrev sum_of : List Json → ℕ
sum_of [] = 0
sum_of (item ∷ items) = holders item + sum_of items

abbrev pub sum_of_values : List Member → ℕ
sum_of_values [] = 0
sum_of_values (m ∷ ms) = holders m.value + sum_of_values ms

row_sum : {n : _} (row : Row_of-Json n) → held_items row ≡ sum_of (items-the_row-Json n row)
row_sum end_of-Json = refl
row_sum (more_of-Json item others) = ap (λ n. holders item + n) (row_sum others)

value_sum : {n : _} (row : Row_of-Member n) → held_values row ≡ sum_of_values (items-the_row-Member n row)
value_sum end_of-Member = refl
value_sum (more_of-Member name value others) = ap (λ n. holders value + n) (value_sum others)

holders-List : (items : List Json) → holders (json.List items) ≡ suc (sum_of items)
holders-List items = ap suc (row_sum (hidden-the_row-Json-0 items) ∙ ap sum_of (items_hidden-the_row-Json-0 items))

pub holders-Object : (ms : List Member) → holders (json.Object ms) ≡ suc (sum_of_values ms)
holders-Object ms = ap suc (value_sum (hidden-the_row-Member-1 ms) ∙ ap sum_of_values (items_hidden-the_row-Member-1 ms))

nothing : (n : ℕ) → 0 ≤ n
nothing n = omega arith

between_marks : (h n a b : ℕ) → h ≡ suc n → n ≤ a → b ≡ a + 1 → h ≤ suc b
between_marks h n a b x y z = omega arith

round_it : (n a b c ab abc : ℕ) → n ≤ b → ab ≡ a + b → abc ≡ ab + c → n ≤ abc
round_it n a b c ab abc x y z = omega arith

two_parts : (m n a b whole : ℕ) → m ≤ a → n ≤ b → whole ≡ a + suc b → m + n ≤ whole
two_parts m n a b whole x y z = omega arith

one_part : (m a : ℕ) → m ≤ a → m + 0 ≤ a
one_part m a x = omega arith

last_part : (n a b : ℕ) → n ≤ b → a ≡ suc b → n ≤ a
last_part n a b x y = omega arith

at_the_end : (n a b whole : ℕ) → n ≤ b → whole ≡ a + suc b → n ≤ whole
at_the_end n a b whole x y = omega arith

mutual
  spelled_size : {tree : Json} {word : List ℕ} → Spells tree word → holders tree ≤ length word
  spelled_size null = nothing _
  spelled_size yes = nothing _
  spelled_size no = nothing _
  spelled_size (number m word reads within) = nothing _
  spelled_size (huge m word reads out) = nothing _
  spelled_size (text t word quoted) = nothing _
  spelled_size (list items inside s) =
      between_marks (holders (json.List items)) (sum_of items) (length inside)
      (length (inside ++ 93 ∷ [])) (holders-List items) (items_size s) (length-append inside (93 ∷ []))
  spelled_size (object members inside apart s) =
      between_marks (holders (json.Object members)) (sum_of_values members) (length inside) (length (inside ++ 125 ∷ []))
      (holders-Object members) (members_size s) (length-append inside (125 ∷ []))

  padded_size : {tree : Json} {bytes : List ℕ} → SpellsPadded tree bytes → holders tree ≤ length bytes
  padded_size (padded tree before word after w s v) =
      round_it (holders tree) (length before) (length word) (length after) (length (before ++ word)) (length (before ++ word ++ after)) (spelled_size s)
      (length-append before word) (length-append (before ++ word) after)

  items_size : {items : List Json} {inside : List ℕ} → SpellsItems items inside → sum_of items ≤ length inside
  items_size (no_item inside w) = nothing _
  items_size (last_item item inside s) = one_part (holders item) (length inside) (padded_size s)
  items_size (more_items item next others front back s r) =
      two_parts (holders item) (sum_of (next ∷ others)) (length front) (length back)
      (length (front ++ 44 ∷ back)) (padded_size s) (items_size r) (length-append front (44 ∷ back))

  member_size : {m : Member} {bytes : List ℕ} → SpellsMember m bytes → holders m.value ≤ length bytes
  member_size (member m before word after value w q v s) =
      at_the_end (holders m.value) (length (before ++ word ++ after)) (length value) (length (before ++ word ++ after ++ 58 ∷ value)) (padded_size s)
      (length-append (before ++ word ++ after) (58 ∷ value))

  members_size : {ms : List Member} {inside : List ℕ} → SpellsMembers ms inside → sum_of_values ms ≤ length inside
  members_size (no_member inside w) = nothing _
  members_size (last_member m inside s) = one_part (holders m.value) (length inside) (member_size s)
  members_size (more_members m next others front back s r) =
      two_parts (holders m.value) (sum_of_values (next ∷ others)) (length front) (length back)
      (length (front ++ 44 ∷ back)) (member_size s) (members_size r) (length-append front (44 ∷ back))

pub read_size : (bytes : List ℕ) (tree : Json) → Reads bytes tree → holders tree ≤ length bytes
read_size bytes tree reads = padded_size reads.0
