-- Where a path leads in a tree: JSON Pointer (RFC 6901).
use Rattle.std.specs.Prelude.{◌≡◌, ℕ, List, [], ◌∷◌, codes, refl, Bool, true, false, ◌&&◌, not, ◌==◌, if◌then◌else◌, Option, Some, None}
use Rattle.std.specs.Prelude.{find, slice_get}
use Rattle.std.specs.Option.{option_map, option_and_then}
use Rattle.std.specs.List.{list_all, slice_split}
use Rattle.std.specs.Char.{is_ascii_digit}
use Rattle.std.specs.Str.{bytes_eq}
use Rattle.fixed_num.specs.JsonNumber.{number_of}
use Rattle.json_exact.specs.declared.json.Json.{Json, Json-F, out-Json}
use Rattle.json_exact.specs.declared.json.Json.TheOpen as level
use Rattle.json_exact.specs.declared.json.Member.{Member}

-- the words between slashes
abbrev pub words_of : List ℕ → List (List ℕ)
words_of bytes = slice_split (λ b. b == 47) bytes

-- what an escape stands for, by its second byte: `~0` for `~`, and `~1` for `/`
abbrev pub tilde_escape : ℕ → Option ℕ
tilde_escape c = if c == 48 then Some 126 else (if c == 49 then Some 47 else None)

-- a byte before a text
abbrev pub joined : Option ℕ → Option (List ℕ) → Option (List ℕ)
joined (Some b) (Some text) = Some (b ∷ text)
joined b text = None

-- the name that a word stands for: each byte for itself, but `~` with the byte after it as an escape
unfoldable pub name_of : List ℕ → Option (List ℕ)
name_of [] = Some []
name_of (b ∷ []) = if b == 126 then None else Some (b ∷ [])
name_of (b ∷ c ∷ rest) = if b == 126 then joined (tilde_escape c) (name_of rest) else joined (Some b) (name_of (c ∷ rest))

-- a name is an index where it is one digit, or more of them without a zero in front
abbrev pub is_index : List ℕ → Bool
is_index [] = false
is_index (d ∷ []) = is_ascii_digit d
is_index (d ∷ e ∷ ds) = not (d == 48) && list_all is_ascii_digit (d ∷ e ∷ ds)

-- the item whose index, counted from 0, the name is
abbrev pub item_of : List Json → List ℕ → Option Json
item_of items name = if is_index name then slice_get items (number_of name) else None

-- the value of the first member of this name
abbrev pub member_value : List Member → List ℕ → Option Json
member_value members name = option_map (λ (m : Member). m.value) (find (λ (m : Member). bytes_eq m.name name) members)

-- where a name leads from the top of a tree: in an object to the member of this name, in a list to the item, elsewhere nowhere
abbrev pub child_in : Json-F Json Member → List ℕ → Option Json
child_in (level.List items) name = item_of items name
child_in (level.Object members) name = member_value members name
child_in other name = None

-- the child of a tree to which a word leads
abbrev pub child_of : Json → List ℕ → Option Json
child_of tree word = option_and_then (child_in (out-Json tree)) (name_of word)

-- where the words lead, one after another
unfoldable pub led_by : List (List ℕ) → Json → Option Json
led_by [] tree = Some tree
led_by (word ∷ words) tree = option_and_then (led_by words) (child_of tree word)

-- where a path leads: the empty path to the tree itself, any other by the words after its slash
unfoldable pub at_path : Json → List ℕ → Option Json
at_path tree [] = Some tree
at_path tree (b ∷ rest) = if b == 47 then led_by (words_of rest) tree else None

-- ---- worked examples

slashes : words_of (codes "a//b/") ≡ codes "a" ∷ [] ∷ codes "b" ∷ [] ∷ []
slashes = refl

one_empty_word : words_of [] ≡ [] ∷ []
one_empty_word = refl

slash_in_a_name : name_of (codes "a~1b") ≡ Some (codes "a/b")
unfolding name_of
slash_in_a_name = refl

tilde_before_one : name_of (codes "~01") ≡ Some (codes "~1")
unfolding name_of
tilde_before_one = refl

no_escape : name_of (codes "a~2b") ≡ None
unfolding name_of
no_escape = refl

tilde_at_the_end : name_of (codes "a~") ≡ None
unfolding name_of
tilde_at_the_end = refl

zero_is_an_index : is_index (codes "0") ≡ true
zero_is_an_index = refl

ten_is_an_index : is_index (codes "10") ≡ true
ten_is_an_index = refl

zero_in_front : is_index (codes "01") ≡ false
zero_in_front = refl

minus_is_none : is_index (codes "-") ≡ false
minus_is_none = refl

empty_path : (tree : Json) → at_path tree [] ≡ Some tree
unfolding at_path
empty_path tree = refl

no_slash_in_front : (tree : Json) → at_path tree (codes "foo") ≡ None
unfolding at_path
no_slash_in_front tree = refl

second_item : (first second : Json) → item_of (first ∷ second ∷ []) (codes "1") ≡ Some second
second_item first second = refl

past_the_end : (first second : Json) → item_of (first ∷ second ∷ []) (codes "2") ≡ None
past_the_end first second = refl
