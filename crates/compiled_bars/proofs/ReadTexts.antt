-- The texts and the numbers in a tree that was read.
use Rattle.std.proofs.Common.{◌≡◌, ℕ, cond, Bool, true, false, ◌&&◌, List, [], ◌∷◌, refl, sym, ap, subst, ◌∙◌}
use Rattle.std.specs.Prelude.{Option, Some, bytes_eq}
use Rattle.std.specs.Option.{option_map}
use Rattle.std.specs.Str.{IsUtf8}
use Rattle.json_exact.specs.Inside.{text_in, items_in, members_in}
use Rattle.json_exact.specs.Path.{member_value}
use Rattle.json_exact.specs.declared.json.Json.{out-Json, items_shown-the_row-Json-0, items_shown-the_row-Member-1}
use lib.Utf8.{scalars, scalar}
use Rattle.fixed_num.specs.Number.{IsNumber}
use Rattle.json_exact.specs.declared.json.Json.{Json, Null, Flag, Number, Huge, Text, List', Object', Row_of-Json, end_of-Json}
use Rattle.json_exact.specs.declared.json.Json.{more_of-Json}
use Rattle.json_exact.specs.declared.json.Json.{items-the_row-Json, items_hidden-the_row-Json-0, Row_of-Member, end_of-Member}
use Rattle.json_exact.specs.declared.json.Json.{more_of-Member, items-the_row-Member, items_hidden-the_row-Member-1}
use Rattle.json_exact.specs.declared.json.Json.TheBlock.{hidden-the_row-Json-0, hidden-the_row-Member-1, shown-the_row-Json-0}
use Rattle.json_exact.specs.declared.json.Json.TheBlock.{shown-the_row-Member-1}
use Rattle.json_exact.specs.declared.json.Json.TheVariants as json
use Rattle.json_exact.specs.declared.json.Member.{Member}
use Rattle.json_exact.specs.Reading.{AreChars, no_char, more_chars, IsQuoted, Spells, SpellsPadded, SpellsItems, SpellsMember}
use Rattle.json_exact.specs.Reading.{SpellsMembers, null, yes, no, number, huge, text, list, object, padded, no_item, last_item}
use Rattle.json_exact.specs.Reading.{more_items, member, no_member, last_member, more_members, Reads}
use Rattle.json_exact.proofs.Escapes.{char_scalar}

both : (a b : Bool) → a ≡ true → b ≡ true → (a && b) ≡ true
both a b p q = rw (p, q) refl

chars_fine : {inside cs : List ℕ} → AreChars inside cs → scalars cs ≡ true
chars_fine no_char = refl
chars_fine (more_chars front back c cs i r) = both (scalar c) (scalars cs) (char_scalar i) (chars_fine r)

-- what stands between quotes is UTF-8
pub utf8_read : {word t : List ℕ} → IsQuoted word t → IsUtf8 t
utf8_read q = (q.characters, (chars_fine q.stands_for, sym q.encoded))

-- each text in a tree, names too, is UTF-8, and each number is in range
abbrev mutual
  pub IsSound : Json → Type 0
  IsSound Null = Unit {0}
  IsSound (Flag b) = Unit {0}
  IsSound (Number n) = IsNumber n
  IsSound Huge = Unit {0}
  IsSound (Text t) = IsUtf8 t
  IsSound (List' size items) = AreSoundItems items
  IsSound (Object' size members) = AreSoundMembers members

  pub AreSoundItems : {n : _} → Row_of-Json n → Type 0
  AreSoundItems end_of-Json = Unit {0}
  AreSoundItems (more_of-Json item others) = IsSound item × AreSoundItems others

  pub AreSoundMembers : {n : _} → Row_of-Member n → Type 0
  AreSoundMembers end_of-Member = Unit {0}
  AreSoundMembers (more_of-Member name value others) = IsUtf8 name × IsSound value × AreSoundMembers others

-- the same of lists
abbrev pub EachItem : List Json → Type 0
EachItem [] = Unit {0}
EachItem (item ∷ others) = IsSound item × EachItem others

abbrev pub EachMember : List Member → Type 0
EachMember [] = Unit {0}
EachMember (m ∷ others) = IsUtf8 m.name × IsSound m.value × EachMember others

items-are : (n : _) (row : Row_of-Json n) → AreSoundItems row ≡ EachItem (items-the_row-Json n row)
items-are n end_of-Json = refl
items-are n (more_of-Json item others) = ap (λ (rest : Type 0). IsSound item × rest) (items-are _ others)

members-are : (n : _) (row : Row_of-Member n) → AreSoundMembers row ≡ EachMember (items-the_row-Member n row)
members-are n end_of-Member = refl
members-are n (more_of-Member name value others) = ap (λ (rest : Type 0). IsUtf8 name × IsSound value × rest) (members-are _ others)

pub sound-List : (items : List Json) → IsSound (json.List items) ≡ EachItem items
sound-List items = items-are _ (hidden-the_row-Json-0 items) ∙ ap EachItem (items_hidden-the_row-Json-0 items)

pub sound-Object : (members : List Member) → IsSound (json.Object members) ≡ EachMember members
sound-Object members = members-are _ (hidden-the_row-Member-1 members) ∙ ap EachMember (items_hidden-the_row-Member-1 members)

mutual
  value_sound : {tree : Json} {word : List ℕ} → Spells tree word → IsSound tree
  value_sound null = tt
  value_sound yes = tt
  value_sound no = tt
  value_sound (number m word r i) = i
  value_sound (huge m word r past) = tt
  value_sound (text t word q) = utf8_read q
  value_sound (list items inside s) = subst (λ (T : Type 0). T) (sym (sound-List items)) (items_sound s)
  value_sound (object members inside apart s) = subst (λ (T : Type 0). T) (sym (sound-Object members)) (members_sound s)

  padded_sound : {tree : Json} {word : List ℕ} → SpellsPadded tree word → IsSound tree
  padded_sound (padded tree before word after b s a) = value_sound s

  items_sound : {items : List Json} {inside : List ℕ} → SpellsItems items inside → EachItem items
  items_sound (no_item inside w) = tt
  items_sound (last_item item inside p) = (padded_sound p, tt)
  items_sound (more_items item next others front back p r) = (padded_sound p, items_sound r)

  member_sound : {m : Member} {word : List ℕ} → SpellsMember m word → IsUtf8 m.name × IsSound m.value
  member_sound (member m before word after value b q a p) = (utf8_read q, padded_sound p)

  members_sound : {members : List Member} {inside : List ℕ} → SpellsMembers members inside → EachMember members
  members_sound (no_member inside w) = tt
  members_sound (last_member m inside p) = let s = member_sound p in (s.0, s.1, tt)
  members_sound (more_members m next others front back p r) = let s = member_sound p in (s.0, s.1, members_sound r)

-- a tree that was read is sound
pub read_sound : (bytes : List ℕ) (tree : Json) → Reads bytes tree → IsSound tree
read_sound bytes tree r = padded_sound r.0

-- ---- what stands inside

found_sound : (b : Bool) (m : Member) (rest : Option Member) (tree : Json) → IsSound m.value
    → (option_map (λ (n : Member). n.value) rest ≡ Some tree → IsSound tree)
    → option_map (λ (n : Member). n.value) (cond b (Some m) rest) ≡ Some tree → IsSound tree
found_sound true m rest tree here later e = let same : m.value ≡ tree = cc in subst IsSound same here
found_sound false m rest tree here later e = later e

-- the value under a name
pub value_at_sound : (members : List Member) (name : List ℕ) (tree : Json) → EachMember members → member_value members name ≡ Some tree
    → IsSound tree
value_at_sound [] name tree each e = absurd (cc)
value_at_sound (m ∷ ms) name tree each e =
    found_sound (bytes_eq m.name name) m _ tree each.1 (λ later. value_at_sound ms name tree each.2 later) e

-- the text that a tree is
pub text_in_sound : (tree : Json) (t : List ℕ) → IsSound tree → text_in (out-Json tree) ≡ Some t → IsUtf8 t
unfolding out-Json denote.Hole.Carrier.out
text_in_sound Null t s e = absurd (cc)
text_in_sound (Flag b) t s e = absurd (cc)
text_in_sound (Number n) t s e = absurd (cc)
text_in_sound Huge t s e = absurd (cc)
text_in_sound (Text own) t s e = let same : own ≡ t = cc in subst IsUtf8 same s
text_in_sound (List' size items) t s e = absurd (cc)
text_in_sound (Object' size members) t s e = absurd (cc)

-- the members that it has
pub members_in_sound : (tree : Json) (members : List Member) → IsSound tree → members_in (out-Json tree) ≡ Some members
    → EachMember members
unfolding out-Json denote.Hole.Carrier.out
members_in_sound Null members s e = absurd (cc)
members_in_sound (Flag b) members s e = absurd (cc)
members_in_sound (Number n) members s e = absurd (cc)
members_in_sound Huge members s e = absurd (cc)
members_in_sound (Text t) members s e = absurd (cc)
members_in_sound (List' size items) members s e = absurd (cc)
members_in_sound (Object' size row) members s e =
    let same : shown-the_row-Member-1 size row ≡ members = cc in
    subst EachMember (sym (items_shown-the_row-Member-1 size row) ∙ same) (subst (λ (T : Type 0). T) (members-are _ row) s)

-- the items that it has
pub items_in_sound : (tree : Json) (items : List Json) → IsSound tree → items_in (out-Json tree) ≡ Some items → EachItem items
unfolding out-Json denote.Hole.Carrier.out
items_in_sound Null items s e = absurd (cc)
items_in_sound (Flag b) items s e = absurd (cc)
items_in_sound (Number n) items s e = absurd (cc)
items_in_sound Huge items s e = absurd (cc)
items_in_sound (Text t) items s e = absurd (cc)
items_in_sound (List' size row) items s e =
    let same : shown-the_row-Json-0 size row ≡ items = cc in
    subst EachItem (sym (items_shown-the_row-Json-0 size row) ∙ same) (subst (λ (T : Type 0). T) (items-are _ row) s)
items_in_sound (Object' size members) items s e = absurd (cc)
