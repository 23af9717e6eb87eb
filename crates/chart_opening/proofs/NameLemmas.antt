-- The sources of a specification have the names of its sources.
use Rattle.std.proofs.Common.{◌≡◌, ℕ, Bool, true, false, Option, Some, None, List, [], ◌∷◌, ◌++◌, map, flat_map, refl, sym, ap, subst}
use Rattle.std.proofs.Common.{◌∙◌, if◌then◌else◌}
use Rattle.std.specs.Prelude.{IfSome, is_some, unwrap_or}
use Rattle.std.proofs.lemmas.List.{map-append}
use Rattle.vega_spec.specs.declared.data.DataSet.{DataSet}
use Rattle.vega_spec.specs.declared.spec.Group.{Group, Group', out-Group, outs-Group', map-Group}
use Rattle.vega_spec.specs.declared.spec.Group.{fold_out-Group, Held-Group-marks, None', Some', Row_of-VgMark, end_of-VgMark}
use Rattle.vega_spec.specs.declared.spec.Group.{more_of-VgMark, items-the_row-VgMark, items_shown-the_row-VgMark-0, view-Group-marks}
use Rattle.vega_spec.specs.declared.spec.Group.TheShapes.{former-Group-marks}
use Rattle.vega_spec.specs.declared.spec.VgMark.{VgMark, VgMark', out-VgMark, outs-VgMark', map-VgMark, fold_out-VgMark}
use Rattle.vega_spec.specs.declared.spec.VgSpec.{VgSpec}
use Rattle.vega_spec.specs.Names.{own_source, own_sources, sources_here, mark_sources_here, sources_in, mark_sources, sources_of}
use Rattle.chart_opening.specs.Sources.{own_set, own_sets, sets_here, mark_sets_here, sets_in, mark_sets, source_sets}

abbrev name_of : DataSet → List ℕ
name_of set = set.name

by_source : (set : DataSet) (b : Bool) → map name_of (if b then [] else set ∷ []) ≡ (if b then [] else set.name ∷ [])
by_source set true = refl
by_source set false = refl

own_name : (set : DataSet) → map name_of (own_set set) ≡ own_source set
own_name set = by_source set (is_some set.source)

own_names : (sets : List DataSet) → map name_of (own_sets sets) ≡ own_sources sets
own_names [] = refl
own_names (set ∷ sets) = map-append name_of (own_set set) (own_sets sets) ∙ (λ i. own_name set i ++ own_names sets i)

abbrev NamesAgree : VgMark → Type 0
NamesAgree m = map name_of (mark_sets m) ≡ mark_sources m

-- each element has the property
abbrev Each : {X : Type 0} → (X → Type 0) → List X → Type 0
Each P [] = Unit {0}
Each P (x ∷ xs) = P x × Each P xs

names_below : (marks : List VgMark) → Each NamesAgree marks
    → map name_of (flat_map (λ sets. sets) (map mark_sets marks)) ≡ flat_map (λ names. names) (map mark_sources marks)
names_below [] each = refl
names_below (m ∷ ms) each =
    map-append name_of (mark_sets m) (flat_map (λ sets. sets) (map mark_sets ms))
    ∙ (λ i. each.0 i ++ names_below ms each.1 i)

names_here : (sets : List DataSet) (marks : Option (List VgMark)) → IfSome marks (Each NamesAgree)
    → map name_of (own_sets sets ++ flat_map (λ sets. sets) (unwrap_or (former-Group-marks.map VgMark (List DataSet) mark_sets marks) []))
    ≡ own_sources sets ++ flat_map (λ names. names) (unwrap_or (former-Group-marks.map VgMark (List (List ℕ)) mark_sources marks) [])
names_here sets None each = map-append name_of (own_sets sets) [] ∙ (λ i. own_names sets i ++ [])
names_here sets (Some marks) each =
    map-append name_of (own_sets sets) (flat_map (λ sets. sets) (map mark_sets marks))
    ∙ (λ i. own_names sets i ++ names_below marks each i)

sets_open : (g : Group)
    → sets_in g ≡ sets_here (map-Group Group VgMark (List DataSet) (List DataSet) sets_in mark_sets (out-Group g))
sets_open g = fold_out-Group (List DataSet) (List DataSet) sets_here mark_sets_here g

names_open : (g : Group)
    → sources_in g ≡ sources_here (map-Group Group VgMark (List (List ℕ)) (List (List ℕ)) sources_in mark_sources (out-Group g))
names_open g = fold_out-Group (List (List ℕ)) (List (List ℕ)) sources_here mark_sources_here g

mark_open : (m : VgMark)
    → mark_sets m ≡ mark_sets_here (map-VgMark Group VgMark (List DataSet) (List DataSet) sets_in mark_sets (out-VgMark m))
mark_open m = fold_out-VgMark (List DataSet) (List DataSet) sets_here mark_sets_here m

mark_names_open : (m : VgMark)
    → mark_sources m ≡ mark_sources_here (map-VgMark Group VgMark (List (List ℕ)) (List (List ℕ)) sources_in mark_sources (out-VgMark m))
mark_names_open m = fold_out-VgMark (List (List ℕ)) (List (List ℕ)) sources_here mark_sources_here m

mutual
  group_names : (g : Group) → map name_of (sets_in g) ≡ sources_in g
  group_names (Group' ds ss sc la marks ax le ti) =
      ap (map name_of) (sets_open (Group' ds ss sc la marks ax le ti)
      ∙ ap (λ x. sets_here (map-Group Group VgMark (List DataSet) (List DataSet) sets_in mark_sets x)) (outs-Group' ds ss sc la marks ax le ti))
      ∙ names_here (unwrap_or ds []) (view-Group-marks marks) (held_names marks)
      ∙ sym (names_open (Group' ds ss sc la marks ax le ti)
      ∙ ap (λ x. sources_here (map-Group Group VgMark (List (List ℕ)) (List (List ℕ)) sources_in mark_sources x))
      (outs-Group' ds ss sc la marks ax le ti))

  held_names : (held : Held-Group-marks) → IfSome (view-Group-marks held) (Each NamesAgree)
  held_names None' = tt
  held_names (Some' shape row) = subst (Each NamesAgree) (sym (items_shown-the_row-VgMark-0 shape row)) (row_names row)

  row_names : {n : _} (row : Row_of-VgMark n) → Each NamesAgree (items-the_row-VgMark n row)
  row_names end_of-VgMark = tt
  row_names (more_of-VgMark m others) = (mark_names m, row_names others)

  mark_names : (m : VgMark) → NamesAgree m
  mark_names (VgMark' t n f e s g) =
      ap (map name_of) (mark_open (VgMark' t n f e s g)
      ∙ ap (λ x. mark_sets_here (map-VgMark Group VgMark (List DataSet) (List DataSet) sets_in mark_sets x)) (outs-VgMark' t n f e s g))
      ∙ group_names g
      ∙ sym (mark_names_open (VgMark' t n f e s g)
      ∙ ap (λ x. mark_sources_here (map-VgMark Group VgMark (List (List ℕ)) (List (List ℕ)) sources_in mark_sources x))
      (outs-VgMark' t n f e s g))

-- the names of the sources are those that the specification names
pub source_names : (g : VgSpec) → map (λ (set : DataSet). set.name) (source_sets g) ≡ sources_of g
source_names g = group_names g.group
