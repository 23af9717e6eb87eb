-- What stands under a name is read back.
use Rattle.std.proofs.Common.{◌≡◌, ℕ, ℤ, List, [], ◌∷◌, map, refl, ap, sym, ◌∙◌}
use Rattle.std.specs.Prelude.{Bool, Option, Some, None, IfSome}
use Rattle.std.specs.Option.{option_map, option_and_then, unwrap_or}
use Rattle.json_exact.specs.declared.json.Json.{Json, out-Json, out-roll-Json}
use Rattle.json_exact.specs.declared.json.Json.TheVariants as json
use Rattle.json_exact.specs.declared.json.Json.TheVariants.{rolls-Null, rolls-Flag, rolls-Number, rolls-Text, rolls-List, rolls-Object}
use Rattle.json_exact.specs.declared.json.Json.TheOpen as level
use Rattle.json_exact.specs.declared.json.Member.{Member}
use Rattle.json_exact.specs.Inside.{text_in, number_in, items_in, members_in}
use Rattle.json_exact.specs.Path.{member_value}
use Rattle.vega_building.specs.Parts.{Opened, found_at, object_at, list_at, objects_at, members_of, flag_in, flag_at, number_at, text_at}
use Rattle.vega_building.specs.Parts.{text_of, texts_at, needed_text}
use Rattle.vega_building.specs.Names.{named_at, named_in}
use Rattle.vega_writing.specs.declared.slots.Slot.{Slot}
use Rattle.vega_writing.specs.Slots.{present, object}
use Rattle.vega_writing.specs.Trees.{text_tree, flag_tree, number_tree, list_tree}
use Rattle.vega_model.specs.Codes.{Each}

-- ---- trees opened by one level

pub opened_null : out-Json json.Null ≡ level.Null
opened_null = ap out-Json (sym rolls-Null) ∙ out-roll-Json level.Null

pub opened_flag : (flag : Bool) → out-Json (json.Flag flag) ≡ level.Flag flag
opened_flag flag = ap out-Json (sym (rolls-Flag flag)) ∙ out-roll-Json (level.Flag flag)

pub opened_number : (number : ℤ) → out-Json (json.Number number) ≡ level.Number number
opened_number number = ap out-Json (sym (rolls-Number number)) ∙ out-roll-Json (level.Number number)

pub opened_text : (text : List ℕ) → out-Json (json.Text text) ≡ level.Text text
opened_text text = ap out-Json (sym (rolls-Text text)) ∙ out-roll-Json (level.Text text)

pub opened_list : (items : List Json) → out-Json (json.List items) ≡ level.List items
opened_list items = ap out-Json (sym (rolls-List items)) ∙ out-roll-Json (level.List items)

pub opened_object : (slots : List Slot) → out-Json (object slots) ≡ level.Object (present slots)
opened_object slots = ap out-Json (sym (rolls-Object (present slots))) ∙ out-roll-Json (level.Object (present slots))

pub members_back : (slots : List Slot) → members_of (object slots) ≡ present slots
members_back slots = ap (λ o. unwrap_or (members_in o) []) (opened_object slots)

-- ---- lists

pub each : {X : Type 0} (P : X → Type 0) → ((x : X) → P x) → (xs : List X) → Each P xs
each P holds [] = tt
each P holds (x ∷ xs) = (holds x, each P holds xs)

pub map_back : {X : Type 0} (item : Json → X) (tree : X → Json) (xs : List X) → Each (λ x. item (tree x) ≡ x) xs →
    map item (map tree xs) ≡ xs
map_back item tree [] back = refl
map_back item tree (x ∷ xs) back = λ j. back.0 j ∷ map_back item tree xs back.1 j

items_back : {X : Type 0} (of : List Member → X) (slots : X → List Slot) (xs : List X) →
    Each (λ x. of (present (slots x)) ≡ x) xs → Each (λ x. of (members_of (object (slots x))) ≡ x) xs
items_back of slots [] back = tt
items_back of slots (x ∷ xs) back = (ap of (members_back (slots x)) ∙ back.0, items_back of slots xs back.1)

-- ---- what stands under a name

module _ (members : List Member) (name : List ℕ) where
  pub must_found : {A : Type 0} (reading : Opened → Option A) (tree : Json) (x : A) →
      member_value members name ≡ Some tree → reading (out-Json tree) ≡ Some x → found_at reading members name ≡ Some x
  must_found reading tree x here reads = ap (option_and_then (λ t. reading (out-Json t))) here ∙ reads

  pub may_found : {A : Type 0} (reading : Opened → Option A) (tree : A → Json) (o : Option A) →
      member_value members name ≡ option_map tree o → IfSome o (λ x. reading (out-Json (tree x)) ≡ Some x) →
      found_at reading members name ≡ o
  may_found reading tree None here reads = ap (option_and_then (λ t. reading (out-Json t))) here
  may_found reading tree (Some x) here reads = must_found reading (tree x) x here reads

  pub may_found_always : {A : Type 0} (reading : Opened → Option A) (tree : A → Json) (o : Option A) →
      member_value members name ≡ option_map tree o → ((x : A) → reading (out-Json (tree x)) ≡ Some x) → found_at reading members name ≡ o
  may_found_always reading tree None here reads = ap (option_and_then (λ t. reading (out-Json t))) here
  may_found_always reading tree (Some x) here reads = must_found reading (tree x) x here (reads x)

  pub must_text : (text : List ℕ) → member_value members name ≡ Some (text_tree text) → text_at members name ≡ Some text
  must_text text here = must_found text_in (text_tree text) text here (ap text_in (opened_text text))

  pub needed_text_back : (text : List ℕ) → member_value members name ≡ Some (text_tree text) → needed_text members name ≡ text
  needed_text_back text here = ap (λ o. unwrap_or o []) (must_text text here)

  pub may_text : (o : Option (List ℕ)) → member_value members name ≡ option_map text_tree o → text_at members name ≡ o
  may_text o here = may_found_always text_in text_tree o here (λ text. ap text_in (opened_text text))

  pub may_flag : (o : Option Bool) → member_value members name ≡ option_map flag_tree o → flag_at members name ≡ o
  may_flag o here = may_found_always flag_in flag_tree o here (λ flag. ap flag_in (opened_flag flag))

  pub may_number : (o : Option ℤ) → member_value members name ≡ option_map number_tree o → number_at members name ≡ o
  may_number o here = may_found_always number_in number_tree o here (λ number. ap number_in (opened_number number))

  pub must_list : {A : Type 0} (item : Json → A) (tree : A → Json) (xs : List A) →
      member_value members name ≡ Some (list_tree tree xs) → Each (λ x. item (tree x) ≡ x) xs → list_at item members name ≡ Some xs
  must_list item tree xs here back =
      ap (option_map (map item)) (must_found items_in (list_tree tree xs) (map tree xs) here (ap items_in (opened_list (map tree xs))))
      ∙ ap Some (map_back item tree xs back)

  pub may_list : {A : Type 0} (item : Json → A) (tree : A → Json) (o : Option (List A)) →
      member_value members name ≡ option_map (list_tree tree) o → IfSome o (Each (λ x. item (tree x) ≡ x)) → list_at item members name ≡ o
  may_list item tree None here back = ap (λ v. option_map (map item) (option_and_then (λ t. items_in (out-Json t)) v)) here
  may_list item tree (Some xs) here back = must_list item tree xs here back

  pub may_list_always : {A : Type 0} (item : Json → A) (tree : A → Json) (o : Option (List A)) →
      member_value members name ≡ option_map (list_tree tree) o → ((x : A) → item (tree x) ≡ x) → list_at item members name ≡ o
  may_list_always item tree None here back = may_list item tree None here tt
  may_list_always item tree (Some xs) here back = must_list item tree xs here (each (λ x. item (tree x) ≡ x) back xs)

  pub may_object : {A : Type 0} (of : List Member → A) (slots : A → List Slot) (o : Option A) →
      member_value members name ≡ option_map (λ a. object (slots a)) o → IfSome o (λ a. of (present (slots a)) ≡ a) →
      object_at of members name ≡ o
  may_object of slots None here back = ap (λ v. option_map of (option_and_then (λ t. members_in (out-Json t)) v)) here
  may_object of slots (Some a) here back =
      ap (option_map of) (must_found members_in (object (slots a)) (present (slots a)) here (ap members_in (opened_object (slots a))))
      ∙ ap Some back

  pub may_object_always : {A : Type 0} (of : List Member → A) (slots : A → List Slot) (o : Option A) →
      member_value members name ≡ option_map (λ a. object (slots a)) o → ((a : A) → of (present (slots a)) ≡ a) →
      object_at of members name ≡ o
  may_object_always of slots None here back = may_object of slots None here tt
  may_object_always of slots (Some a) here back = may_object of slots (Some a) here (back a)

  pub must_objects : {A : Type 0} (of : List Member → A) (slots : A → List Slot) (xs : List A) →
      member_value members name ≡ Some (list_tree (λ a. object (slots a)) xs) → Each (λ a. of (present (slots a)) ≡ a) xs →
      objects_at of members name ≡ Some xs
  must_objects of slots xs here back = must_list (λ tree. of (members_of tree)) (λ a. object (slots a)) xs here
      (items_back of slots xs back)

  pub may_objects : {A : Type 0} (of : List Member → A) (slots : A → List Slot) (o : Option (List A)) →
      member_value members name ≡ option_map (list_tree (λ a. object (slots a))) o → IfSome o (Each (λ a. of (present (slots a)) ≡ a)) →
      objects_at of members name ≡ o
  may_objects of slots None here back = may_list (λ tree. of (members_of tree)) (λ a. object (slots a)) None here tt
  may_objects of slots (Some xs) here back = must_objects of slots xs here back

  pub may_objects_always : {A : Type 0} (of : List Member → A) (slots : A → List Slot) (o : Option (List A)) →
      member_value members name ≡ option_map (list_tree (λ a. object (slots a))) o → ((a : A) → of (present (slots a)) ≡ a) →
      objects_at of members name ≡ o
  may_objects_always of slots None here back = may_objects of slots None here tt
  may_objects_always of slots (Some xs) here back = must_objects of slots xs here (each (λ a. of (present (slots a)) ≡ a) back xs)

  -- what a name stands for
  pub must_named : {A : Type 0} (named : List ℕ → Option A) (tree : A → Json) (x : A) →
      member_value members name ≡ Some (tree x) → named_in named (tree x) ≡ Some x → named_at named members name ≡ Some x
  must_named named tree x here reads = ap (λ v. option_and_then named (option_and_then (λ t. text_in (out-Json t)) v)) here ∙ reads

  pub may_named : {A : Type 0} (named : List ℕ → Option A) (tree : A → Json) (o : Option A) →
      member_value members name ≡ option_map tree o → ((x : A) → named_in named (tree x) ≡ Some x) → named_at named members name ≡ o
  may_named named tree None here reads = ap (λ v. option_and_then named (option_and_then (λ t. text_in (out-Json t)) v)) here
  may_named named tree (Some x) here reads = must_named named tree x here (reads x)

-- a text that is an item
pub text_back : (text : List ℕ) → text_of (text_tree text) ≡ text
text_back text = ap (λ o. unwrap_or (text_in o) []) (opened_text text)

pub named_word : {A : Type 0} (named : List ℕ → Option A) (word : List ℕ) → named_in named (text_tree word) ≡ named word
named_word named word = ap (λ o. option_and_then named (text_in o)) (opened_text word)

pub may_texts : (members : List Member) (name : List ℕ) (o : Option (List (List ℕ))) →
    member_value members name ≡ option_map (list_tree text_tree) o → texts_at members name ≡ o
may_texts members name o here = may_list_always members name text_of text_tree o here text_back

pub must_texts : (members : List Member) (name : List ℕ) (texts : List (List ℕ)) →
    member_value members name ≡ Some (list_tree text_tree texts) → texts_at members name ≡ Some texts
must_texts members name texts here = must_list members name text_of text_tree texts here
    (each (λ x. text_of (text_tree x) ≡ x) text_back texts)

-- ---- premises that are handed on

pub each_of : {X : Type 0} {P Q : X → Type 0} → ((x : X) → P x → Q x) → (xs : List X) → Each P xs → Each Q xs
each_of f [] holds = tt
each_of f (x ∷ xs) holds = (f x holds.0, each_of f xs holds.1)

pub some_of : {X : Type 0} {P Q : X → Type 0} → ((x : X) → P x → Q x) → (o : Option X) → IfSome o P → IfSome o Q
some_of f None holds = tt
some_of f (Some x) holds = f x holds
