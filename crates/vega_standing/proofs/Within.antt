-- What the parts of a value keep, by what each value gives itself.
use Rattle.std.proofs.Common.{◌≡◌, ℕ, ◌+◌, List, [], ◌∷◌, ◌++◌, map, refl, sym, ap, subst, ◌∙◌}
use Rattle.std.specs.Prelude.{Option, Some, None, Bool, true}
use Rattle.std.specs.Option.{option_map_or}
use Rattle.json_exact.specs.declared.json.Json.{Json, out-Json, Null, Flag, Number, Huge, Text, List', Object'}
use Rattle.json_exact.specs.declared.json.Json.TheVariants.{outs-List', outs-Object'}
use Rattle.json_exact.specs.declared.json.Json.TheOpen as level
use Rattle.json_exact.specs.declared.json.Member.{Member}
use Rattle.spec_schema.specs.declared.form.Form.{Form}
use Rattle.spec_schema.specs.declared.layout.Layout.{Layout}
use Rattle.spec_schema.specs.Values.{Opened}
use Rattle.spec_schema.specs.Layouts.{shape_in}
use Rattle.spec_schema.specs.Forms.{taken_form, items_shape, layout_of}
use Rattle.spec_walk.specs.Walk.{seen_in, seen_members, where_formed, list_parts, object_parts, member_parts}
use Rattle.spec_walk.specs.inner.Inside.{inside}
use Rattle.vega_schema.specs.Schema.{vega_schema}
use Rattle.vega_parts.specs.declared.part.Part.{Part}
use Rattle.vega_parts.specs.declared.around.Around.{Around}
use Rattle.vega_parts.specs.Trails.{Trail, noted}
use Rattle.vega_parts.specs.Parts.{parts_at}
use Rattle.vega_standing.proofs.Trees.{Each, Inner, of_each, list_of, object_of}
use Rattle.vega_standing.proofs.Walked.{opened, inside-List, inside-Object}
use Rattle.vega_standing.proofs.Stands.{parts_in, parts_of_items, parts_of_members, parts_open}
use Rattle.vega_standing.proofs.Quiet.{each_append, each_of}

-- shapes of which all that stands in their values is such again
pub record IsClosed (ok : ℕ → Bool) : Type 0 where
  pub items : (shape : ℕ) (o : Opened) (f : Form) (inner : ℕ) → ok shape ≡ true →
      taken_form vega_schema shape o ≡ Some f → items_shape f ≡ Some inner → ok inner ≡ true
  pub members : (shape : ℕ) (o : Opened) (f : Form) (ms : List Member) (l : Layout) (name : List ℕ) (inner : ℕ) → ok shape ≡ true →
      taken_form vega_schema shape o ≡ Some f → layout_of vega_schema f ms ≡ Some l → shape_in l name ≡ Some inner → ok inner ≡ true

module _ (ok : ℕ → Bool) (Holds : Trail → Part → Type 0) (closed : IsClosed ok)
    (own : (round : Trail) (number shape : ℕ) (tree : Json) → ok shape ≡ true →
    Each (Holds (noted number shape tree ∷ round)) (parts_at (noted number shape tree ∷ round) tree))
    (outward : (here : Around) (round : Trail) (p : Part) → Holds (here ∷ round) p → Holds round p) where
  abbrev Within : Json → Type 0
  Within tree = (round : Trail) (number shape : ℕ) → ok shape ≡ true → Each (Holds (noted number shape tree ∷ round)) (parts_in round number shape tree)

  one_value : (trail : Trail) (n shape : ℕ) (v : Json) → ok shape ≡ true → Within v → Each (Holds trail) (parts_in trail n shape v)
  one_value trail n shape v o w =
      each_of (Holds (noted n shape v ∷ trail)) (Holds trail) (outward (noted n shape v) trail) (parts_in trail n shape v) (w trail n shape o)

  of_items : (trail : Trail) (inner n : ℕ) (items : List Json) → ok inner ≡ true → Each Within items → Each (Holds trail) (parts_of_items trail inner n items)
  of_items trail inner n [] o each = tt
  of_items trail inner n (v ∷ items) o each =
      each_append (Holds trail) (parts_in trail n inner v) (parts_of_items trail inner (n + 1) items)
      (one_value trail n inner v o each.0) (of_items trail inner (n + 1) items o each.1)

  of_members : (trail : Trail) (l : Layout) (n : ℕ) (ms : List Member) → ((name : List ℕ) (inner : ℕ) → shape_in l name ≡ Some inner → ok inner ≡ true) →
      Each (λ (m : Member). Within m.value) ms → Each (Holds trail) (parts_of_members trail l n ms)
  of_members trail l n [] oks each = tt
  of_members trail l n (m ∷ ms) oks each =
      each_append (Holds trail) (member_parts l trail (n, (m.name, seen_in vega_schema noted parts_at m.value))) (parts_of_members trail l (n + 1) ms)
      (by_shape (shape_in l m.name) refl) (of_members trail l (n + 1) ms oks each.1)
    where
      by_shape : (o : Option ℕ) → shape_in l m.name ≡ o → Each (Holds trail) (option_map_or (λ shape. parts_in trail n shape m.value) o [])
      by_shape None e = tt
      by_shape (Some shape) e = one_value trail n shape m.value (oks m.name shape e) each.0

  of_list : (tree : Json) (xs : List Json) → out-Json tree ≡ level.List xs → Each Within xs → (trail : Trail) (f : Form) →
      ((inner : ℕ) → items_shape f ≡ Some inner → ok inner ≡ true) → Each (Holds trail) (inside vega_schema noted parts_at tree f trail)
  of_list tree xs is each trail f oks =
      subst (Each (Holds trail))
      (sym (ap (λ t. inside vega_schema noted parts_at t f trail) (list_of tree xs is) ∙ inside-List vega_schema noted parts_at xs f trail))
      (by_shape (items_shape f) refl)
    where
      by_shape : (o : Option ℕ) → items_shape f ≡ o → Each (Holds trail) (list_parts o (map (seen_in vega_schema noted parts_at) xs) trail)
      by_shape None e = tt
      by_shape (Some inner) e = of_items trail inner 0 xs (oks inner e) each

  of_object : (tree : Json) (ms : List Member) → out-Json tree ≡ level.Object ms → Each (λ (m : Member). Within m.value) ms → (trail : Trail) (f : Form) →
      ((l : Layout) (name : List ℕ) (inner : ℕ) → layout_of vega_schema f ms ≡ Some l → shape_in l name ≡ Some inner → ok inner ≡ true) →
      Each (Holds trail) (inside vega_schema noted parts_at tree f trail)
  of_object tree ms is each trail f oks =
      subst (Each (Holds trail))
      (sym (ap (λ t. inside vega_schema noted parts_at t f trail) (object_of tree ms is) ∙ inside-Object vega_schema noted parts_at ms f trail))
      (by_layout (layout_of vega_schema f ms) refl)
    where
      by_layout : (o : Option Layout) → layout_of vega_schema f ms ≡ o → Each (Holds trail) (object_parts o (seen_members vega_schema noted parts_at ms) trail)
      by_layout None e = tt
      by_layout (Some l) e = of_members trail l 0 ms (λ name inner ruled. oks l name inner e ruled) each

  of_inside : (tree : Json) → Inner Within tree → (trail : Trail) (f : Form) → ((inner : ℕ) → items_shape f ≡ Some inner → ok inner ≡ true) →
      ((ms : List Member) (l : Layout) (name : List ℕ) (inner : ℕ) → layout_of vega_schema f ms ≡ Some l → shape_in l name ≡ Some inner → ok inner ≡ true) →
      Each (Holds trail) (inside vega_schema noted parts_at tree f trail)
  of_inside Null inner trail f a b = tt
  of_inside (Flag x) inner trail f a b = tt
  of_inside (Number x) inner trail f a b = tt
  of_inside Huge inner trail f a b = tt
  of_inside (Text x) inner trail f a b = tt
  of_inside (List' size row) inner trail f a b =
      of_list (List' size row) _ (outs-List' size row) (inner.items _ (outs-List' size row)) trail f a
  of_inside (Object' size row) inner trail f a b =
      of_object (Object' size row) _ (outs-Object' size row) (inner.values _ (outs-Object' size row)) trail f (b _)

  of_value : (tree : Json) → Inner Within tree → Within tree
  of_value tree inner round number shape o = by_form (taken_form vega_schema shape (out-Json tree)) refl
    where
      by_form : (f : Option Form) → taken_form vega_schema shape (out-Json tree) ≡ f →
          Each (Holds (noted number shape tree ∷ round)) (parts_in round number shape tree)
      by_form None e =
          subst (Each (Holds (noted number shape tree ∷ round)))
          (sym (opened vega_schema noted parts_at tree number shape round
          ∙ ap (λ o. where_formed o (λ (f : Form). parts_at (noted number shape tree ∷ round) tree
          ++ inside vega_schema noted parts_at tree f (noted number shape tree ∷ round))) e)) tt
      by_form (Some f) e =
          subst (Each (Holds (noted number shape tree ∷ round))) (sym (parts_open round number shape tree f e))
          (each_append (Holds (noted number shape tree ∷ round)) (parts_at (noted number shape tree ∷ round) tree)
          (inside vega_schema noted parts_at tree f (noted number shape tree ∷ round)) (own round number shape tree o)
          (of_inside tree inner (noted number shape tree ∷ round) f (λ i is. closed.items shape (out-Json tree) f i o e is)
          (λ ms l name i laid ruled. closed.members shape (out-Json tree) f ms l name i o e laid ruled)))

  -- what all that values give themselves keeps, all their parts keep
  pub all_within : (tree : Json) → Within tree
  all_within tree = of_each Within of_value tree
