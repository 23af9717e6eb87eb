-- Where values stand in a specification, and what their parts are keys of.
use Rattle.std.proofs.Common.{◌≡◌, ℕ, suc, ◌+◌, List, [], ◌∷◌, ◌++◌, map, refl, sym, ap, subst, ◌∙◌, arith}
use Rattle.std.specs.Prelude.{Option, Some, None, true, IfSome, slice_get}
use Rattle.std.specs.Option.{option_map, option_map_or, option_and_then}
use Rattle.std.proofs.lemmas.List.{append_assoc, append-nil}
use Rattle.json_exact.specs.declared.json.Json.{Json, out-Json, Null, Flag, Number, Huge, Text, List', Object'}
use Rattle.json_exact.specs.declared.json.Json.TheVariants.{outs-List', outs-Object'}
use Rattle.json_exact.specs.declared.json.Json.TheOpen as level
use Rattle.json_exact.specs.declared.json.Member.{Member}
use Rattle.spec_schema.specs.declared.form.Form.{Form}
use Rattle.spec_schema.specs.declared.layout.Layout.{Layout}
use Rattle.spec_schema.specs.Values.{Opened}
use Rattle.spec_schema.specs.Layouts.{shape_in}
use Rattle.spec_schema.specs.Forms.{taken_form, items_shape, layout_of}
use Rattle.spec_walk.specs.Walk.{seen_in, seen_members, where_formed, list_parts, object_parts, member_parts}
use Rattle.spec_walk.specs.inner.Inside.{inside}
use Rattle.vega_schema.specs.declared.codes.TheConstants.{TOP}
use Rattle.vega_schema.specs.Schema.{vega_schema}
use Rattle.vega_parts.specs.declared.part.Part.{Part}
use Rattle.vega_parts.specs.Trails.{Trail, noted, place_of}
use Rattle.vega_parts.specs.Parts.{parts_at, parts_of}
use Rattle.vega_rules.specs.declared.nodes.Thing.{Thing}
use Rattle.vega_rules.specs.Nodes.{key, key_of}
use Rattle.vega_standing.proofs.Trees.{Each, Inner, of_each, list_of, object_of}
use Rattle.vega_standing.proofs.Walked.{opened, inside-List, inside-Object}
use Rattle.vega_standing.proofs.Stands.{parts_in, parts_of_items, parts_of_members, parts_open}
use Rattle.vega_standing.proofs.Quiet.{each_append, each_of}
use Rattle.vega_standing.proofs.Rows.{place_child}
use Rattle.vega_standing.proofs.Keys.{suits, IsKeyed, keyed_here}

-- ---- the value at a place

-- a child of a value by its number, with its shape, where the value has a form
abbrev pub child_in : Form → Opened → ℕ → Option (ℕ × Json)
child_in form (level.List items) k = option_and_then (λ inner. option_map (λ v. (inner, v)) (slice_get items k)) (items_shape form)
child_in form (level.Object ms) k =
    option_and_then (λ l. option_and_then (λ (m : Member). option_map (λ inner. (inner, m.value)) (shape_in l m.name)) (slice_get ms k))
    (layout_of vega_schema form ms)
child_in form other k = None

abbrev pub child_of : ℕ → Json → ℕ → Option (ℕ × Json)
child_of shape tree k = option_and_then (λ f. child_in f (out-Json tree) k) (taken_form vega_schema shape (out-Json tree))

-- what stands at a place under a value, with its shape
abbrev pub value_at : ℕ → Json → List ℕ → Option (ℕ × Json)
value_at shape tree [] = Some (shape, tree)
value_at shape tree (k ∷ rest) = option_and_then (λ (c : ℕ × Json). value_at c.0 c.1 rest) (child_of shape tree k)

pub value_child : (shape : ℕ) (tree : Json) (x : List ℕ) (k : ℕ) →
    value_at shape tree (x ++ k ∷ []) ≡ option_and_then (λ (c : ℕ × Json). child_of c.0 c.1 k) (value_at shape tree x)
value_child shape tree [] k = by_child (child_of shape tree k)
  where
    by_child : (o : Option (ℕ × Json)) → option_and_then (λ (c : ℕ × Json). Some (c.0, c.1)) o ≡ o
    by_child None = refl
    by_child (Some c) = refl
value_child shape tree (j ∷ x) k = by_child (child_of shape tree j) (λ inner v. value_child inner v x k)
  where
    by_child : (o : Option (ℕ × Json)) →
        ((inner : ℕ) (v : Json) → value_at inner v (x ++ k ∷ []) ≡ option_and_then (λ (c : ℕ × Json). child_of c.0 c.1 k) (value_at inner v x)) →
        option_and_then (λ (c : ℕ × Json). value_at c.0 c.1 (x ++ k ∷ [])) o
        ≡ option_and_then (λ (c : ℕ × Json). child_of c.0 c.1 k) (option_and_then (λ (c : ℕ × Json). value_at c.0 c.1 x) o)
    by_child None rest = refl
    by_child (Some c) rest = rest c.0 c.1

pub item_child : (shape : ℕ) (tree : Json) (items : List Json) (f : Form) (inner k : ℕ) (v : Json) →
    out-Json tree ≡ level.List items → taken_form vega_schema shape (out-Json tree) ≡ Some f →
    items_shape f ≡ Some inner → slice_get items k ≡ Some v → child_of shape tree k ≡ Some (inner, v)
item_child shape tree items f inner k v is taken asks at =
    ap (λ o. option_and_then (λ f. child_in f (out-Json tree) k) o) taken ∙ ap (λ o. child_in f o k) is
    ∙ ap (λ o. option_and_then (λ inner. option_map (λ v. (inner, v)) (slice_get items k)) o) asks
    ∙ ap (λ o. option_map (λ v. (inner, v)) o) at

pub member_child : (shape : ℕ) (tree : Json) (ms : List Member) (f : Form) (l : Layout) (inner k : ℕ) (m : Member) →
    out-Json tree ≡ level.Object ms → taken_form vega_schema shape (out-Json tree) ≡ Some f →
    layout_of vega_schema f ms ≡ Some l → slice_get ms k ≡ Some m → shape_in l m.name ≡ Some inner → child_of shape tree k ≡ Some (inner, m.value)
member_child shape tree ms f l inner k m is taken laid at ruled =
    ap (λ o. option_and_then (λ f. child_in f (out-Json tree) k) o) taken ∙ ap (λ o. child_in f o k) is
    ∙ ap (λ o. option_and_then (λ l. option_and_then (λ (m : Member). option_map (λ inner. (inner, m.value)) (shape_in l m.name)) (slice_get ms k)) o) laid
    ∙ ap (λ o. option_and_then (λ (m : Member). option_map (λ inner. (inner, m.value)) (shape_in l m.name)) o) at
    ∙ ap (λ o. option_map (λ inner. (inner, m.value)) o) ruled

-- ---- keys

-- a key is that of a thing at a place under a value, which suits the shape of what stands there
abbrev pub Stood : ℕ → Json → List ℕ → List ℕ → Type 0
Stood shape tree place k = (t : Thing) × (rest : List ℕ) × (inner : ℕ) × (v : Json) × (k ≡ key t (place ++ rest))
    × (value_at shape tree rest ≡ Some (inner, v)) × (suits t inner ≡ true)

abbrev HasStood : ℕ → Json → List ℕ → Part → Type 0
HasStood shape tree place p = IfSome (key_of p) (Stood shape tree place)

mapped : (P Q : List ℕ → Type 0) (o : Option (List ℕ)) → ((k : List ℕ) → P k → Q k) → IfSome o P → IfSome o Q
mapped P Q None f a = tt
mapped P Q (Some k) f a = f k a

itself : (shape : ℕ) (tree : Json) (place : List ℕ) (p : Part) → IsKeyed place shape p → HasStood shape tree place p
itself shape tree place p e = mapped _ (Stood shape tree place) (key_of p)
    (λ k a. (a.0, [], shape, tree, a.1 ∙ ap (key a.0) (sym (append-nil place)), refl, a.2)) e

of_child : (shape : ℕ) (tree : Json) (place : List ℕ) (inner k : ℕ) (v : Json) (p : Part) → child_of shape tree k ≡ Some (inner, v) →
    HasStood inner v (place ++ k ∷ []) p → HasStood shape tree place p
of_child shape tree place inner k v p is e = mapped (Stood inner v (place ++ k ∷ [])) (Stood shape tree place) (key_of p)
    (λ q a. let (t, rest, deep, w, same, at, fits) = a in (
      t,
      k ∷ rest,
      deep,
      w,
      same ∙ ap (key t) (append_assoc place (k ∷ []) rest),
      ap (λ o. option_and_then (λ (c : ℕ × Json). value_at c.0 c.1 rest) o) is ∙ at,
      fits,
    )) e

abbrev Within : Json → Type 0
Within tree = (round : Trail) (number shape : ℕ) → Each (HasStood shape tree (place_of (noted number shape tree ∷ round))) (parts_in round number shape tree)

further : (n k : ℕ) → n + suc k ≡ n + 1 + k
further n k = omega arith

from_none : (k : ℕ) → k ≡ 0 + k
from_none k = omega arith

module _ (tree : Json) (round : Trail) (number shape : ℕ) where
  abbrev trail : Trail
  trail = noted number shape tree ∷ round

  abbrev Holds : Part → Type 0
  Holds = HasStood shape tree (place_of trail)

  one_value : (inner n : ℕ) (v : Json) → child_of shape tree n ≡ Some (inner, v) → Within v → Each Holds (parts_in trail n inner v)
  one_value inner n v is w =
      each_of (HasStood inner v (place_of (noted n inner v ∷ trail))) Holds
      (λ p a. of_child shape tree (place_of trail) inner n v p is
      (subst (λ x. HasStood inner v x p) (place_child (noted n inner v) (noted number shape tree) round) a))
      (parts_in trail n inner v) (w trail n inner)

  of_items : (inner n : ℕ) (items : List Json) →
      ((k : ℕ) (v : Json) → slice_get items k ≡ Some v → child_of shape tree (n + k) ≡ Some (inner, v)) → Each Within items →
      Each Holds (parts_of_items trail inner n items)
  of_items inner n [] child each = tt
  of_items inner n (v ∷ items) child each =
      each_append Holds (parts_in trail n inner v) (parts_of_items trail inner (n + 1) items)
      (one_value inner n v (subst (λ m. child_of shape tree m ≡ Some (inner, v)) (none n) (child 0 v refl)) each.0)
      (of_items inner (n + 1) items (λ k w e. subst (λ m. child_of shape tree m ≡ Some (inner, w)) (further n k) (child (suc k) w e)) each.1)
    where
      none : (n : ℕ) → n + 0 ≡ n
      none n = omega arith

  of_members : (l : Layout) (n : ℕ) (ms : List Member) → ((k : ℕ) (m : Member) (inner : ℕ) → slice_get ms k ≡ Some m →
      shape_in l m.name ≡ Some inner → child_of shape tree (n + k) ≡ Some (inner, m.value)) →
      Each (λ (m : Member). Within m.value) ms → Each Holds (parts_of_members trail l n ms)
  of_members l n [] child each = tt
  of_members l n (m ∷ ms) child each =
      each_append Holds (member_parts l trail (n, (m.name, seen_in vega_schema noted parts_at m.value))) (parts_of_members trail l (n + 1) ms)
      (by_shape (shape_in l m.name) refl)
      (of_members l (n + 1) ms (λ k w inner e r. subst (λ i. child_of shape tree i ≡ Some (inner, w.value)) (further n k) (child (suc k) w inner e r)) each.1)
    where
      none : (n : ℕ) → n + 0 ≡ n
      none n = omega arith

      by_shape : (o : Option ℕ) → shape_in l m.name ≡ o → Each Holds (option_map_or (λ shape. parts_in trail n shape m.value) o [])
      by_shape None e = tt
      by_shape (Some inner) e = one_value inner n m.value (subst (λ i. child_of shape tree i ≡ Some (inner, m.value)) (none n) (child 0 m inner refl e)) each.0

  of_list : (xs : List Json) → out-Json tree ≡ level.List xs → Each Within xs → (f : Form) → taken_form vega_schema shape (out-Json tree) ≡ Some f →
      Each Holds (inside vega_schema noted parts_at tree f trail)
  of_list xs is each f taken =
      subst (Each Holds) (sym (ap (λ t. inside vega_schema noted parts_at t f trail) (list_of tree xs is) ∙ inside-List vega_schema noted parts_at xs f trail))
      (by_shape (items_shape f) refl)
    where
      by_shape : (o : Option ℕ) → items_shape f ≡ o → Each Holds (list_parts o (map (seen_in vega_schema noted parts_at) xs) trail)
      by_shape None e = tt
      by_shape (Some inner) e = of_items inner 0 xs
          (λ k v at. subst (λ i. child_of shape tree i ≡ Some (inner, v)) (from_none k) (item_child shape tree xs f inner k v is taken e at)) each

  of_object : (ms : List Member) → out-Json tree ≡ level.Object ms → Each (λ (m : Member). Within m.value) ms →
      (f : Form) → taken_form vega_schema shape (out-Json tree) ≡ Some f →
      Each Holds (inside vega_schema noted parts_at tree f trail)
  of_object ms is each f taken =
      subst (Each Holds)
      (sym (ap (λ t. inside vega_schema noted parts_at t f trail) (object_of tree ms is) ∙ inside-Object vega_schema noted parts_at ms f trail))
      (by_layout (layout_of vega_schema f ms) refl)
    where
      by_layout : (o : Option Layout) → layout_of vega_schema f ms ≡ o → Each Holds (object_parts o (seen_members vega_schema noted parts_at ms) trail)
      by_layout None e = tt
      by_layout (Some l) e = of_members l 0 ms (λ k m inner at ruled. subst (λ i. child_of shape tree i ≡ Some (inner, m.value))
          (from_none k) (member_child shape tree ms f l inner k m is taken e at ruled)) each

of_inside : (tree : Json) → Inner Within tree → (round : Trail) (number shape : ℕ) (f : Form) → taken_form vega_schema shape (out-Json tree) ≡ Some f →
    Each (HasStood shape tree (place_of (noted number shape tree ∷ round))) (inside vega_schema noted parts_at tree f (noted number shape tree ∷ round))
of_inside Null inner round number shape f taken = tt
of_inside (Flag x) inner round number shape f taken = tt
of_inside (Number x) inner round number shape f taken = tt
of_inside Huge inner round number shape f taken = tt
of_inside (Text x) inner round number shape f taken = tt
of_inside (List' size row) inner round number shape f taken =
    of_list (List' size row) round number shape _ (outs-List' size row) (inner.items _ (outs-List' size row)) f taken
of_inside (Object' size row) inner round number shape f taken =
    of_object (Object' size row) round number shape _ (outs-Object' size row) (inner.values _ (outs-Object' size row)) f taken

of_value : (tree : Json) → Inner Within tree → Within tree
of_value tree inner round number shape = by_form (taken_form vega_schema shape (out-Json tree)) refl
  where
    Holds : Part → Type 0
    Holds = HasStood shape tree (place_of (noted number shape tree ∷ round))

    by_form : (f : Option Form) → taken_form vega_schema shape (out-Json tree) ≡ f → Each Holds (parts_in round number shape tree)
    by_form None e =
        subst (Each Holds)
        (sym (opened vega_schema noted parts_at tree number shape round
        ∙ ap (λ o. where_formed o (λ (f : Form). parts_at (noted number shape tree ∷ round) tree
        ++ inside vega_schema noted parts_at tree f (noted number shape tree ∷ round))) e)) tt
    by_form (Some f) e =
        subst (Each Holds) (sym (parts_open round number shape tree f e))
        (each_append Holds (parts_at (noted number shape tree ∷ round) tree) (inside vega_schema noted parts_at tree f (noted number shape tree ∷ round))
        (each_of (IsKeyed (place_of (noted number shape tree ∷ round)) shape) Holds (itself shape tree (place_of (noted number shape tree ∷ round)))
        (parts_at (noted number shape tree ∷ round) tree) (keyed_here number shape tree round))
        (of_inside tree inner round number shape f e))

-- the keys of all parts are those of things that stand in the specification
pub all_stood : (tree : Json) → Each (λ p. IfSome (key_of p) (Stood TOP tree [])) (parts_of tree)
all_stood tree = of_each Within of_value tree [] 0 TOP
