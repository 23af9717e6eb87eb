-- Values that stand in a specification, with their places and parts among all of it.
use Rattle.std.proofs.Common.{◌≡◌, ℕ, zero, suc, ◌+◌, List, [], ◌∷◌, ◌++◌, find, cond, refl, sym, ap, subst, ◌∙◌, arith}
use Rattle.std.specs.Prelude.{Option, Some, None, Bool, true, false, IfSome, slice_get, bytes_eq}
use Rattle.std.specs.List.{enumerate_from}
use Rattle.json_exact.specs.Inside.{text_in}
use Rattle.spec_schema.specs.Faults.{members_of as members_opened}
use Rattle.vega_parts.specs.Members.{named, member_at, text_at as part_text}
use Rattle.std.specs.Option.{option_map, option_map_or, option_and_then, is_some}
use Rattle.std.proofs.lemmas.Slice.Eq.{bytes_eq-Decides}
use Rattle.json_exact.specs.declared.json.Json.{Json, out-Json}
use Rattle.json_exact.specs.declared.json.Json.TheOpen as level
use Rattle.json_exact.specs.declared.json.Member.{Member}
use Rattle.json_exact.specs.Path.{member_value}
use Rattle.spec_schema.specs.declared.form.Form.{Form}
use Rattle.spec_schema.specs.declared.form.Form.TheVariants as form
use Rattle.spec_schema.specs.declared.layout.Layout.{Layout}
use Rattle.spec_schema.specs.Values.{Opened, list_passes, has_length}
use Rattle.spec_schema.specs.Layouts.{shape_in, layout_in}
use Rattle.spec_schema.specs.Forms.{taken_form, items_shape, layout_of}
use Rattle.spec_walk.specs.Walk.{seen_in, member_parts}
use Rattle.vega_schema.specs.declared.codes.TheConstants.{TOP}
use Rattle.vega_schema.specs.Schema.{vega_schema}
use Rattle.vega_schema.specs.Shapes.{MAX_LENGTH}
use Rattle.vega_parts.specs.declared.part.Part.{Part}
use Rattle.vega_parts.specs.Trails.{Trail, noted, place_of}
use Rattle.vega_parts.specs.Parts.{parts_at, parts_of}
use Rattle.vega_standing.proofs.Stands.{EachFrom, Stands, StandsMember, formed, parts_in, parts_of_items, parts_of_members}
use Rattle.vega_standing.proofs.Members.{Laid, laid_out}
use Rattle.vega_standing.proofs.Rows.{place_child}
use Rattle.vega_standing.proofs.Sets.{Listed, listed_as}
use Rattle.vega_standing.proofs.Among.{In, in_front, in_back}
use Rattle.vega_standing.proofs.Seats.{child_of, value_at, value_child, item_child, member_child}

-- a value stands in a tree: it breaks no rule of its own, it is what stands at its place, and its parts are among those of the tree
pub record Seat (tree : Json) (round : Trail) (number shape : ℕ) (v : Json) : Type 0 where
  pub stands : Stands round number shape v
  pub at : value_at TOP tree (place_of (noted number shape v ∷ round)) ≡ Some (shape, v)
  pub among : (p : Part) → In p (parts_in round number shape v) → In p (parts_of tree)

pub top_seat : (tree : Json) → Stands [] 0 TOP tree → Seat tree [] 0 TOP tree
top_seat tree s = record { stands = s; at = refl; among = λ p i. i }

child_seat : (tree : Json) (round : Trail) (number shape : ℕ) (v : Json) (k inner : ℕ) (w : Json) →
    Seat tree round number shape v → child_of shape v k ≡ Some (inner, w) →
    Stands (noted number shape v ∷ round) k inner w →
    ((p : Part) → In p (parts_in (noted number shape v ∷ round) k inner w) → In p (parts_in round number shape v)) →
    Seat tree (noted number shape v ∷ round) k inner w
child_seat tree round number shape v k inner w s is stands inside = record {
  stands = stands;
  at = ap (value_at TOP tree) (place_child (noted k inner w) (noted number shape v) round)
      ∙ value_child TOP tree (place_of (noted number shape v ∷ round)) k
      ∙ ap (λ o. option_and_then (λ (c : ℕ × Json). child_of c.0 c.1 k) o) s.at ∙ is;
  among = λ p i. s.among p (inside p i);
}

-- what a value gives itself is among all parts
pub own_among : (tree : Json) (round : Trail) (number shape : ℕ) (v : Json) (rest : List Part) → Seat tree round number shape v →
    parts_in round number shape v ≡ parts_at (noted number shape v ∷ round) v ++ rest →
    (p : Part) → In p (parts_at (noted number shape v ∷ round) v) → In p (parts_of tree)
own_among tree round number shape v rest s is p i = s.among p (subst (In p) (sym is) (in_front p (parts_at (noted number shape v ∷ round) v) rest i))

further : (n k : ℕ) → n + suc k ≡ n + 1 + k
further n k = omega arith

none : (n : ℕ) → n + 0 ≡ n
none n = omega arith

from_none : (k : ℕ) → 0 + k ≡ k
from_none k = omega arith

-- ---- lists

pub record SeatedItems (tree : Json) (round : Trail) (number shape inner : ℕ) (v : Json) : Type 0 where
  pub items : List Json
  pub is_list : out-Json v ≡ level.List items
  pub each : EachFrom (λ i w. Seat tree (noted number shape v ∷ round) i inner w) 0 items

module _ (tree : Json) (round : Trail) (number shape : ℕ) (v : Json) (s : Seat tree round number shape v) where
  abbrev trail : Trail
  trail = noted number shape v ∷ round

  items_seated : (inner n : ℕ) (items : List Json) → EachFrom (λ i w. Stands trail i inner w) n items →
      ((k : ℕ) (w : Json) → slice_get items k ≡ Some w → child_of shape v (n + k) ≡ Some (inner, w)) →
      ((p : Part) → In p (parts_of_items trail inner n items) → In p (parts_in round number shape v)) → EachFrom (λ i w. Seat tree trail i inner w) n items
  items_seated inner n [] each child inside = tt
  items_seated inner n (w ∷ items) each child inside = (
    child_seat tree round number shape v n inner w s (subst (λ i. child_of shape v i ≡ Some (inner, w)) (none n) (child zero w refl)) each.0
        (λ p i. inside p (in_front p (parts_in trail n inner w) (parts_of_items trail inner (n + 1) items) i)),
    items_seated inner (n + 1) items each.1 (λ k x e. subst (λ i. child_of shape v i ≡ Some (inner, x)) (further n k) (child (suc k) x e))
        (λ p i. inside p (in_back p (parts_in trail n inner w) (parts_of_items trail inner (n + 1) items) i)),
  )

  -- the items of a list stand in the tree
  pub seated_items : (inner : ℕ) → ((o : Opened) (f : Form) → taken_form vega_schema shape o ≡ Some f →
      (list_passes (has_length 0 MAX_LENGTH) o ≡ true) × (form.List 0 MAX_LENGTH inner ≡ f)) →
      SeatedItems tree round number shape inner v
  seated_items inner taken =
      let l : Listed round number shape inner v = listed_as round number shape inner v s.stands taken in
      let f = formed shape v s.stands.fine in
      record {
        items = l.items;
        is_list = l.is_list;
        each = items_seated inner 0 l.items l.each
            (λ k w at. subst (λ i. child_of shape v i ≡ Some (inner, w)) (sym (from_none k))
            (item_child shape v l.items f.0 inner k w l.is_list f.1 (ap items_shape (sym (taken (out-Json v) f.0 f.1).1)) at))
            (λ p i. subst (In p) (sym l.parts) (in_back p (parts_at trail v) (parts_of_items trail inner 0 l.items) i));
      }

  -- ---- objects

  abbrev pub SeatedMember : Layout → ℕ → Member → Type 0
  SeatedMember l i m = (inner : ℕ) × (shape_in l m.name ≡ Some inner) × Seat tree trail i inner m.value

  members_seated : (l : Layout) (n : ℕ) (ms : List Member) → EachFrom (StandsMember trail l) n ms →
      ((k : ℕ) (m : Member) (inner : ℕ) → slice_get ms k ≡ Some m → shape_in l m.name ≡ Some inner → child_of shape v (n + k) ≡ Some (inner, m.value)) →
      ((p : Part) → In p (parts_of_members trail l n ms) → In p (parts_in round number shape v)) → EachFrom (SeatedMember l) n ms
  members_seated l n [] each child inside = tt
  members_seated l n (m ∷ ms) each child inside =
      let here : List Part = member_parts l trail (n, (m.name, seen_in vega_schema noted parts_at m.value)) in
      let is : parts_in trail n each.0.0 m.value ≡ here = ap (λ o. option_map_or (λ shape. parts_in trail n shape m.value) o []) (sym each.0.1) in (
        (
          each.0.0,
          each.0.1,
          child_seat tree round number shape v n each.0.0 m.value s
              (subst (λ i. child_of shape v i ≡ Some (each.0.0, m.value)) (none n) (child zero m each.0.0 refl each.0.1)) each.0.2
              (λ p i. inside p (in_front p here (parts_of_members trail l (n + 1) ms) (subst (In p) is i))),
        ),
        members_seated l (n + 1) ms each.1 (λ k x inner e r. subst (λ i. child_of shape v i ≡ Some (inner, x.value)) (further n k) (child (suc k) x inner e r))
            (λ p i. inside p (in_back p here (parts_of_members trail l (n + 1) ms) i)),
      )

  pub record SeatedObject (object : ℕ) (ms : List Member) : Type 0 where
    pub laid : Laid round number shape object v ms
    pub each : EachFrom (SeatedMember laid.layout) 0 ms

  -- the members of an object stand in the tree
  pub seated_object : (object : ℕ) (ms : List Member) → out-Json v ≡ level.Object ms →
      ((f : Form) → taken_form vega_schema shape (level.Object ms) ≡ Some f →
      (is_some (layout_in vega_schema object ms) ≡ true) × (form.Object object ≡ f)) → SeatedObject object ms
  seated_object object ms is taken =
      let l : Laid round number shape object v ms = laid_out round number shape object v ms s.stands is taken in
      let f = formed shape v s.stands.fine in
      let both = taken f.0 (ap (taken_form vega_schema shape) (sym is) ∙ f.1) in
      record {
        laid = l;
        each = members_seated l.layout 0 ms l.stands.each
            (λ k m inner at ruled. subst (λ i. child_of shape v i ≡ Some (inner, m.value)) (sym (from_none k))
            (member_child shape v ms f.0 l.layout inner k m is f.1 (ap (λ f. layout_of vega_schema f ms) (sym both.1) ∙ l.applies) at ruled))
            (λ p i. subst (In p) (sym l.parts) (in_back p (parts_at trail v) (parts_of_members trail l.layout 0 ms) i));
      }

  -- what a name leads to
  pub seat_from : (l : Layout) (n : ℕ) (ms : List Member) (name : List ℕ) (inner : ℕ) (w : Json) →
      EachFrom (SeatedMember l) n ms → shape_in l name ≡ Some inner → member_value ms name ≡ Some w →
      (i : ℕ) × Seat tree trail i inner w
  seat_from l n [] name inner w each ruled e = absurd cc
  seat_from l n (m ∷ ms) name inner w each ruled e = by_name (bytes_eq m.name name) refl e (seat_from l (n + 1) ms name inner w each.1 ruled)
    where
      by_name : (b : Bool) → bytes_eq m.name name ≡ b →
          option_map (λ (m : Member). m.value) (cond b (Some m) (find (λ (m : Member). bytes_eq m.name name) ms)) ≡ Some w →
          (member_value ms name ≡ Some w → (i : ℕ) × Seat tree trail i inner w) → (i : ℕ) × Seat tree trail i inner w
      by_name true same f rest =
          let named : m.name ≡ name = (bytes_eq-Decides m.name name).0 same in
          let rule : shape_in l m.name ≡ Some inner = ap (shape_in l) named ∙ ruled in
          let shaped : each.0.0 ≡ inner = let a = each.0.1 in cc in
          let valued : m.value ≡ w = cc in
          (n, subst (λ x. Seat tree trail n inner x) valued (subst (λ c. Seat tree trail n c m.value) shaped each.0.2))
      by_name false same f rest = rest f

  -- the same with the number of the first member of the name
  pub seat_numbered : (l : Layout) (n : ℕ) (ms : List Member) (name : List ℕ) (inner : ℕ) (c : ℕ × Json) →
      EachFrom (SeatedMember l) n ms → shape_in l name ≡ Some inner →
      option_map (λ (m : ℕ × Member). (m.0, m.1.value)) (find (λ (m : ℕ × Member). bytes_eq m.1.name name) (enumerate_from n ms)) ≡ Some c →
      Seat tree trail c.0 inner c.1
  seat_numbered l n [] name inner c each ruled e = absurd cc
  seat_numbered l n (m ∷ ms) name inner c each ruled e = by_name (bytes_eq m.name name) refl e (seat_numbered l (n + 1) ms name inner c each.1 ruled)
    where
      by_name : (b : Bool) → bytes_eq m.name name ≡ b →
          option_map (λ (m : ℕ × Member). (m.0, m.1.value))
          (cond b (Some (n, m)) (find (λ (m : ℕ × Member). bytes_eq m.1.name name) (enumerate_from (n + 1) ms))) ≡ Some c →
          (option_map (λ (m : ℕ × Member). (m.0, m.1.value)) (find (λ (m : ℕ × Member). bytes_eq m.1.name name) (enumerate_from (n + 1) ms))
          ≡ Some c → Seat tree trail c.0 inner c.1) →
          Seat tree trail c.0 inner c.1
      by_name true same f rest =
          let named : m.name ≡ name = (bytes_eq-Decides m.name name).0 same in
          let rule : shape_in l m.name ≡ Some inner = ap (shape_in l) named ∙ ruled in
          let shaped : each.0.0 ≡ inner = let a = each.0.1 in cc in
          let there : Seat tree trail n inner m.value = subst (λ c. Seat tree trail n c m.value) shaped each.0.2 in
          subst (λ o. IfSome o (λ (c : ℕ × Json). Seat tree trail c.0 inner c.1)) f there
      by_name false same f rest = rest f

  -- a text under a name stands in the tree by its number
  pub text_seat : (l : Layout) (ms : List Member) (name : List ℕ) (inner : ℕ) (m : ℕ × List ℕ) →
      EachFrom (SeatedMember l) 0 ms → shape_in l name ≡ Some inner → out-Json v ≡ level.Object ms →
      part_text name v ≡ Some m → (w : Json) × Seat tree trail m.0 inner w
  text_seat l ms name inner m each ruled is e =
      by_member (member_at name v) refl e
    where
      by_text : (c : ℕ × Json) (o : Option (List ℕ)) → option_map (λ text. (c.0, text)) o ≡ Some m → c.0 ≡ m.0
      by_text c None f = absurd cc
      by_text c (Some x) f = ap (λ o. option_map_or (λ (m : ℕ × List ℕ). m.0) o 0) f

      by_member : (o : Option (ℕ × Json)) → member_at name v ≡ o →
          option_and_then (λ (m : ℕ × Json). option_map (λ text. (m.0, text)) (text_in (out-Json m.1))) o ≡ Some m →
          (w : Json) × Seat tree trail m.0 inner w
      by_member None same f = absurd cc
      by_member (Some c) same f =
          let found : named name ms ≡ Some c = ap (λ o. named name (members_opened o)) (sym is) ∙ same in
          (c.1, subst (λ i. Seat tree trail i inner c.1) (by_text c (text_in (out-Json c.1)) f) (seat_numbered l 0 ms name inner c each ruled found))
