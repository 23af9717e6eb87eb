-- Values of several forms.
use Rattle.std.specs.Prelude.{◌≡◌, refl, ℕ, Option, Some, None, List, [], ◌∷◌, map, codes}
use Rattle.std.specs.Option.{unwrap_or}
use Rattle.json_exact.specs.declared.json.Json.{Json, out-Json}
use Rattle.json_exact.specs.declared.json.Json.TheVariants as json
use Rattle.json_exact.specs.declared.json.Json.TheOpen as level
use Rattle.json_exact.specs.declared.json.Member.{Member}
use Rattle.cell_value.specs.declared.cell.Cell.{Cell}
use Rattle.cell_value.specs.declared.cell.Cell.TheVariants as cell
use Rattle.vl_spec.specs.declared.orders.Texts.{Texts}
use Rattle.vl_spec.specs.declared.orders.Texts.TheVariants as texts
use Rattle.vl_spec.specs.declared.transforms.Names.{Names}
use Rattle.vl_spec.specs.declared.transforms.Names.TheVariants as names
use Rattle.tree_readers.specs.Parts.{Opened, found_at, list_at, text_of}

-- a scalar: null, a truth value, a number or a text
abbrev pub scalar_in : Opened → Option Cell
scalar_in level.Null = Some cell.Null
scalar_in (level.Flag b) = Some (cell.Flag b)
scalar_in (level.Number n) = Some (cell.Number n)
scalar_in (level.Text text) = Some (cell.Text text)
scalar_in other = None

-- the scalar that an item is, null where it is none
abbrev pub scalar_of : Json → Cell
scalar_of tree = unwrap_or (scalar_in (out-Json tree)) cell.Null

-- the scalar under a name
abbrev pub scalar_at : List Member → List ℕ → Option Cell
scalar_at = found_at scalar_in

-- the scalar under a name, null where there is none
abbrev pub needed_scalar : List Member → List ℕ → Cell
needed_scalar members name = unwrap_or (scalar_at members name) cell.Null

-- the scalars of a list under a name
abbrev pub scalars_at : List Member → List ℕ → Option (List Cell)
scalars_at = list_at scalar_of

-- the scalars of a list under a name, none where there is no list
abbrev pub needed_scalars : List Member → List ℕ → List Cell
needed_scalars members name = unwrap_or (scalars_at members name) []

-- a title: null for none, or a text
abbrev pub title_in : Opened → Option (Option (List ℕ))
title_in level.Null = Some None
title_in (level.Text text) = Some (Some text)
title_in other = None

-- the title under a name
abbrev pub title_at : List Member → List ℕ → Option (Option (List ℕ))
title_at = found_at title_in

-- null, or what an object is by its members
abbrev pub nullable_in : {A : Type 0} → (List Member → A) → Opened → Option (Option A)
nullable_in of level.Null = Some None
nullable_in of (level.Object members) = Some (Some (of members))
nullable_in of other = None

-- the same under a name
abbrev pub nullable_at : {A : Type 0} → (List Member → A) → List Member → List ℕ → Option (Option A)
nullable_at of = found_at (nullable_in of)

-- one text, or a list of them
abbrev pub texts_in : Opened → Option Texts
texts_in (level.Text text) = Some (texts.One text)
texts_in (level.List items) = Some (texts.Several (map text_of items))
texts_in other = None

-- the same under a name
abbrev pub one_or_several : List Member → List ℕ → Option Texts
one_or_several = found_at texts_in

-- the two names of a list
abbrev pub both_names : List Json → Option Names
both_names (a ∷ b ∷ []) = Some (names.Two (text_of a) (text_of b))
both_names items = None

-- one name, or two
abbrev pub names_in : Opened → Option Names
names_in (level.Text text) = Some (names.One text)
names_in (level.List items) = both_names items
names_in other = None

-- the same under a name, the empty name where there is none
abbrev pub needed_names : List Member → List ℕ → Names
needed_names members name = unwrap_or (found_at names_in members name) (names.One [])

-- The rules at work.

a_number_out_of_range_is_no_cell : scalar_in level.Huge ≡ None
a_number_out_of_range_is_no_cell = refl

no_title_is_not_an_absent_one : title_in level.Null ≡ Some None
no_title_is_not_an_absent_one = refl

an_item_that_is_no_name_keeps_its_place : both_names (json.Null ∷ json.Text (codes "b") ∷ []) ≡ Some (names.Two [] (codes "b"))
unfolding out-Json denote.Hole.Carrier.out
an_item_that_is_no_name_keeps_its_place = refl

three_names_are_none : both_names (json.Null ∷ json.Null ∷ json.Null ∷ []) ≡ None
three_names_are_none = refl
