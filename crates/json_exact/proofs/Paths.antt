-- Going along a path word by word, and along a word byte by byte.
use Rattle.std.proofs.Common.{◌≡◌, ℕ, zero, suc, ◌+◌, ◌-◌, ◌*◌, ◌^◌, ◌<◌, ◌≤◌, min, Bool, true, false, not, cond, eqb, ◌&&◌, List, [], ◌∷◌}
use Rattle.std.proofs.Common.{length, get_or, take, drop, Option, Some, None, refl, sym, ap, ◌∙◌, arith}
use Rattle.std.specs.Option.{option_and_then}
use Rattle.std.specs.List.{list_all, onto_first, slice_get}
use Rattle.std.proofs.lemmas.Option.{slice_get_read, slice_get_past}
use Rattle.std.specs.Char.{is_ascii_digit}
use Rattle.std.specs.Str.{bytes_eq}
use Rattle.std.proofs.lemmas.Bool.{cond-true, cond-false, eq-eqb, ne_eqb, eqb-true}
use Rattle.std.proofs.lemmas.List.{take_more, drop_all}
use Rattle.std.proofs.Math.Seq.{drop-cons}
use Rattle.std.proofs.lemmas.List.Splits.{slice_split-cons_yes, slice_split-cons_no}
use Rattle.fixed_num.specs.JsonNumber.{number_of}
use Rattle.fixed_num.proofs.DigitLemmas.{number_append}
use Rattle.json_exact.specs.declared.json.Json.{Json, out-Json, out-roll-Json}
use Rattle.json_exact.specs.declared.json.Json.TheOpen as level
use Rattle.json_exact.specs.declared.json.Json.TheVariants as json
use Rattle.json_exact.specs.declared.json.Json.TheVariants.{rolls-List}
use Rattle.json_exact.specs.Path.{words_of, tilde_escape, joined, name_of, is_index, item_of, child_of, led_by, at_path}
use Rattle.fixed_num.specs.Front.{first}
use Rattle.json_exact.proofs.Front.{next, take-rest}
use Rattle.json_exact.specs.inner.Along.{words_after, is_name, front_of, front_rest}

-- ---- words

abbrev is_slash : ℕ → Bool
is_slash b = eqb b 47

pub word_ends : (bytes : List ℕ) (i : ℕ) → i < length bytes → ((k : ℕ) → k < i → get_or bytes k 0 ≡ 47 → ⊥) → get_or bytes i 0 ≡ 47
    → words_of bytes ≡ take i bytes ∷ words_after (drop i bytes)
word_ends [] i lt before at = absurd (omega arith)
word_ends (b ∷ bytes) zero lt before at = slice_split-cons_yes is_slash b bytes (eq-eqb b 47 at)
word_ends (b ∷ bytes) (suc i) lt before at =
    let other : eqb b 47 ≡ false = ne_eqb b 47 (before 0 (omega arith)) in
    let rest = word_ends bytes i (omega arith) (λ k h. before (suc k) (omega arith)) at in
    slice_split-cons_no is_slash b bytes other ∙ ap (onto_first b) rest

pub word_alone : (bytes : List ℕ) → ((k : ℕ) → k < length bytes → get_or bytes k 0 ≡ 47 → ⊥) → words_of bytes ≡ bytes ∷ []
word_alone [] none = refl
word_alone (b ∷ bytes) none =
    let other : eqb b 47 ≡ false = ne_eqb b 47 (none 0 (omega arith)) in
    let rest = word_alone bytes (λ k h. none (suc k) (omega arith)) in
    slice_split-cons_no is_slash b bytes other ∙ ap (onto_first b) rest

-- ---- numbers

pub number_more : (ds : List ℕ) (i : ℕ) → i < length ds → number_of (take (i + 1) ds) ≡ number_of (take i ds) * 10 + (get_or ds i 0 - 48)
number_more ds i lt = ap number_of (take_more ds i 0 lt) ∙ number_append (take i ds) (get_or ds i 0 ∷ []) ∙ omega arith

pub saturated : (a d most : ℕ) → min (min (min a most * 10) most + d) most ≡ min (a * 10 + d) most
saturated a d most = grind arith

-- ---- bytes of a word

one_byte : (b : ℕ) (t : Bool) → cond t None (Some (b ∷ [])) ≡ joined (cond t None (Some b)) (Some [])
one_byte b true = refl
one_byte b false = refl

two_bytes : (e : Option ℕ) (b : ℕ) (long short : List ℕ) (t : Bool)
    → cond t (joined e (name_of long)) (joined (Some b) (name_of short)) ≡ joined (cond t e (Some b)) (name_of (cond t long short))
two_bytes e b long short true = refl
two_bytes e b long short false = refl

pub name_front : (b : ℕ) (rest : List ℕ) → name_of (b ∷ rest) ≡ joined (front_of (b ∷ rest)) (name_of (front_rest (b ∷ rest)))
unfolding name_of
name_front b [] = one_byte b (eqb b 126)
name_front b (c ∷ rest) = two_bytes (tilde_escape c) b rest (c ∷ rest) (eqb b 126)

joined_same : (o : Option (List ℕ)) (b : ℕ) (name : List ℕ) → is_name (joined (Some b) o) (b ∷ name) ≡ is_name o name
joined_same None b name = refl
joined_same (Some t) b name = ap (λ x. x && bytes_eq t name) (eq-eqb b b refl)

joined_other : (f : Option ℕ) (o : Option (List ℕ)) (b : ℕ) (name : List ℕ) → (f ≡ Some b → ⊥) → is_name (joined f o) (b ∷ name) ≡ false
joined_other None o b name other = refl
joined_other (Some a) None b name other = refl
joined_other (Some a) (Some t) b name other = ap (λ x. x && bytes_eq t name) (ne_eqb a b (λ same. other (ap Some same)))

joined_none : (f : Option ℕ) (o : Option (List ℕ)) → is_name (joined f o) [] ≡ false
joined_none None o = refl
joined_none (Some a) None = refl
joined_none (Some a) (Some t) = refl

pub name_goes_on : (word name : List ℕ) (b : ℕ) → front_of word ≡ Some b
    → is_name (name_of word) (b ∷ name) ≡ is_name (name_of (front_rest word)) name
name_goes_on [] name b front = cc
name_goes_on (a ∷ rest) name b front =
    ap (λ o. is_name o (b ∷ name)) (name_front a rest ∙ ap (λ f. joined f (name_of (front_rest (a ∷ rest)))) front)
    ∙ joined_same (name_of (front_rest (a ∷ rest))) b name

pub name_breaks : (word name : List ℕ) (b : ℕ) → (front_of word ≡ Some b → ⊥) → is_name (name_of word) (b ∷ name) ≡ false
unfolding name_of
name_breaks [] name b other = refl
name_breaks (a ∷ rest) name b other =
    ap (λ o. is_name o (b ∷ name)) (name_front a rest) ∙ joined_other (front_of (a ∷ rest)) (name_of (front_rest (a ∷ rest))) b name other

pub name_ends : (a : ℕ) (rest : List ℕ) → is_name (name_of (a ∷ rest)) [] ≡ false
name_ends a rest = ap (λ o. is_name o []) (name_front a rest) ∙ joined_none (front_of (a ∷ rest)) (name_of (front_rest (a ∷ rest)))

pub name_more : (rest name : List ℕ) (i : ℕ) → i < length name → front_of rest ≡ Some (get_or name i 0)
    → is_name (name_of rest) (drop i name) ≡ is_name (name_of (front_rest rest)) (drop (i + 1) name)
name_more rest name i lt front = rw (next i, drop-cons name i 0 lt) (name_goes_on rest (drop (suc i) name) (get_or name i 0) front)

pub name_other : (rest name : List ℕ) (i : ℕ) → i < length name → (front_of rest ≡ Some (get_or name i 0) → ⊥)
    → is_name (name_of rest) (drop i name) ≡ false
name_other rest name i lt other = rw (drop-cons name i 0 lt) (name_breaks rest (drop (suc i) name) (get_or name i 0) other)

pub empty_by_length : (xs : List ℕ) → length xs ≡ 0 → xs ≡ []
empty_by_length [] e = refl
empty_by_length (x ∷ xs) e = absurd (omega arith)

pub name_end : (rest name : List ℕ) (i : ℕ) (t : Bool) → length name ≤ i → (t ≡ true → rest ≡ []) → (rest ≡ [] → t ≡ true)
    → t ≡ is_name (name_of rest) (drop i name)
unfolding name_of
name_end [] name i t le none all = rw (drop_all i name le) (all refl)
name_end (a ∷ rest) name i true le none all = absurd (let e : a ∷ rest ≡ [] = none refl in cc)
name_end (a ∷ rest) name i false le none all = rw (drop_all i name le) (sym (name_ends a rest))

-- ---- indexes

abbrev are_digits : Option (List ℕ) → Bool
are_digits None = false
are_digits (Some name) = list_all is_ascii_digit name

and_false : (b : Bool) → false ≡ (b && false)
and_false true = refl
and_false false = refl

digit_joined : (b : ℕ) (o : Option (List ℕ)) → are_digits (joined (Some b) o) ≡ (is_ascii_digit b && are_digits o)
digit_joined b None = and_false (is_ascii_digit b)
digit_joined b (Some t) = refl

no_digit : (f : Option ℕ) (o : Option (List ℕ)) → ((b : ℕ) → f ≡ Some b → is_ascii_digit b ≡ false) → are_digits (joined f o) ≡ false
no_digit None o none = refl
no_digit (Some b) None none = refl
no_digit (Some b) (Some t) none = ap (λ x. x && list_all is_ascii_digit t) (none b refl)

picked_no_digit : (t u : Bool) (b : ℕ) → cond t (Some 126) (cond u (Some 47) None) ≡ Some b → is_ascii_digit b ≡ false
picked_no_digit true u b e = let same : 126 ≡ b = cc in ap is_ascii_digit (sym same)
picked_no_digit false true b e = let same : 47 ≡ b = cc in ap is_ascii_digit (sym same)
picked_no_digit false false b e = cc

tilde_no_digit : (rest : List ℕ) (b : ℕ) → front_of (126 ∷ rest) ≡ Some b → is_ascii_digit b ≡ false
tilde_no_digit [] b e = cc
tilde_no_digit (c ∷ rest) b e = picked_no_digit (eqb c 48) (eqb c 49) b e

plain_front : (b : ℕ) (rest : List ℕ) → eqb b 126 ≡ false → (front_of (b ∷ rest) ≡ Some b) × (front_rest (b ∷ rest) ≡ rest)
plain_front b [] e = (cond-false (eqb b 126) None (Some b) e, refl)
plain_front b (c ∷ rest) e = (cond-false (eqb b 126) (tilde_escape c) (Some b) e, cond-false (eqb b 126) rest (c ∷ rest) e)

name_plain : (b : ℕ) (rest : List ℕ) → eqb b 126 ≡ false → name_of (b ∷ rest) ≡ joined (Some b) (name_of rest)
name_plain b rest e =
    let p = plain_front b rest e in
    name_front b rest ∙ ap (λ f. joined f (name_of (front_rest (b ∷ rest)))) p.0 ∙ ap (λ r. joined (Some b) (name_of r)) p.1

digits_at : (b : ℕ) (rest : List ℕ) → are_digits (name_of rest) ≡ list_all is_ascii_digit rest → (t : Bool) → eqb b 126 ≡ t
    → are_digits (name_of (b ∷ rest)) ≡ list_all is_ascii_digit (b ∷ rest)
digits_at b rest same true e =
    let is : b ≡ 126 = eqb-true b 126 e in
    let left : are_digits (name_of (126 ∷ rest)) ≡ false =
    ap are_digits (name_front 126 rest) ∙ no_digit (front_of (126 ∷ rest)) (name_of (front_rest (126 ∷ rest))) (tilde_no_digit rest) in
    ap (λ x. are_digits (name_of (x ∷ rest))) is ∙ left ∙ ap (λ x. is_ascii_digit x && list_all is_ascii_digit rest) (sym is)
digits_at b rest same false e =
    ap are_digits (name_plain b rest e) ∙ digit_joined b (name_of rest) ∙ ap (λ x. is_ascii_digit b && x) same

-- a word and its name are digits together
same_digits : (word : List ℕ) → are_digits (name_of word) ≡ list_all is_ascii_digit word
unfolding name_of
same_digits [] = refl
same_digits (b ∷ rest) = digits_at b rest (same_digits rest) (eqb b 126) refl

both : (a b : Bool) → (a && b) ≡ true → (a ≡ true) × (b ≡ true)
both true b e = (refl, e)
both false b e = cc

-- digits stand for themselves
digits_name : (word : List ℕ) → list_all is_ascii_digit word ≡ true → name_of word ≡ Some word
unfolding name_of
digits_name [] e = refl
digits_name (b ∷ rest) e =
    let p = both (is_ascii_digit b) (list_all is_ascii_digit rest) e in
    let plain : eqb b 126 ≡ false = ne_eqb b 126 (λ same. let t : is_ascii_digit 126 ≡ true = ap is_ascii_digit (sym same) ∙ p.0 in cc) in
    name_plain b rest plain ∙ ap (joined (Some b)) (digits_name rest p.1)

and_right : (a : Bool) → (a && false) ≡ false
and_right true = refl
and_right false = refl

and_left : (a b : Bool) → (a && true) ≡ false → a ≡ false
and_left true b e = cc
and_left false b e = refl

others_no_index : (name : List ℕ) → list_all is_ascii_digit name ≡ false → is_index name ≡ false
others_no_index [] e = refl
others_no_index (d ∷ []) e = and_left (is_ascii_digit d) true e
others_no_index (d ∷ f ∷ ds) e = ap (λ x. not (eqb d 48) && x) e ∙ and_right (not (eqb d 48))

no_item : (items : List Json) (o : Option (List ℕ)) → are_digits o ≡ false → option_and_then (item_of items) o ≡ None
no_item items None e = refl
no_item items (Some name) e = cond-false (is_index name) (slice_get items (number_of name)) None (others_no_index name e)

item_at : (items : List Json) (word : List ℕ) (t : Bool) → list_all is_ascii_digit word ≡ t
    → option_and_then (item_of items) (name_of word) ≡ item_of items word
item_at items word true e = ap (option_and_then (item_of items)) (digits_name word e)
item_at items word false e =
    no_item items (name_of word) (same_digits word ∙ e)
    ∙ sym (cond-false (is_index word) (slice_get items (number_of word)) None (others_no_index word e))

-- the item to which a word leads is the one whose index it writes
pub item_by_word : (items : List Json) (word : List ℕ) → option_and_then (item_of items) (name_of word) ≡ item_of items word
item_by_word items word = item_at items word (list_all is_ascii_digit word) refl

pub item_none : (items : List Json) (word : List ℕ) → is_index word ≡ false → None ≡ option_and_then (item_of items) (name_of word)
item_none items word not_one = sym (item_by_word items word ∙ cond-false (is_index word) (slice_get items (number_of word)) None not_one)

pub item_some : (items : List Json) (word : List ℕ) (n : ℕ) (x : Json) → is_index word ≡ true → n ≡ min (number_of word) (2 ^ 64 - 1)
    → n < length items → length items < 2 ^ 64 → x ≡ get_or items n x → Some x ≡ option_and_then (item_of items) (name_of word)
item_some items word n x one is lt few at =
    let same : n ≡ number_of word = grind arith in
    let found : slice_get items n ≡ Some x = slice_get_read items (length items) n x refl lt at in
    sym (item_by_word items word ∙ cond-true (is_index word) (slice_get items (number_of word)) None one
    ∙ ap (slice_get items) (sym same) ∙ found)

pub item_past : (items : List Json) (word : List ℕ) (n : ℕ) → is_index word ≡ true → n ≡ min (number_of word) (2 ^ 64 - 1)
    → length items ≤ n → None ≡ option_and_then (item_of items) (name_of word)
item_past items word n one is past =
    let far : length items ≤ number_of word = grind arith in
    sym (item_by_word items word ∙ cond-true (is_index word) (slice_get items (number_of word)) None one
    ∙ slice_get_past items (number_of word) far)

-- ---- trees

pub opened_list : (items : List Json) → out-Json (json.List items) ≡ level.List items
opened_list items = ap out-Json (sym (rolls-List items)) ∙ out-roll-Json (level.List items)

-- ---- paths

pub led_ends : (rest : List ℕ) (here : Json) → length rest < 1 → led_by (words_after rest) here ≡ Some here
unfolding led_by
led_ends [] here short = refl
led_ends (b ∷ rest) here short = absurd (omega arith)

pub led_step : (rest word others : List ℕ) (here : Json) → 1 ≤ length rest
    → words_of (take (length rest - 1) (drop 1 rest)) ≡ word ∷ words_after others
    → led_by (words_after rest) here ≡ option_and_then (led_by (words_after others)) (child_of here word)
unfolding led_by
led_step [] word others here some words = absurd (omega arith)
led_step (b ∷ rest) word others here some words = ap (λ ws. led_by ws here) (ap words_of (sym (take-rest (b ∷ rest) 1)) ∙ words)

pub path_empty : (tree : Json) (path : List ℕ) → path ≡ [] → Some tree ≡ at_path tree path
unfolding at_path
path_empty tree [] none = refl
path_empty tree (b ∷ rest) none = cc

pub path_led : (tree : Json) (path : List ℕ) → (path ≡ [] → ⊥) → first path ≡ 47 → led_by (words_after path) tree ≡ at_path tree path
unfolding at_path
path_led tree [] some slash = absurd (some refl)
path_led tree (b ∷ rest) some slash = sym (cond-true (eqb b 47) (led_by (words_of rest) tree) None (eq-eqb b 47 slash))

pub path_none : (tree : Json) (path : List ℕ) → (path ≡ [] → ⊥) → (first path ≡ 47 → ⊥) → None ≡ at_path tree path
unfolding at_path
path_none tree [] some other = absurd (some refl)
path_none tree (b ∷ rest) some other = sym (cond-false (eqb b 47) (led_by (words_of rest) tree) None (ne_eqb b 47 other))
