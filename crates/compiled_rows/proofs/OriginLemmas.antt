-- Why the sources of a compiled specification are those of the specification.
use Rattle.std.proofs.Common.{◌≡◌, ℕ, cond, List, [], ◌∷◌, ◌++◌, All, map, flat_map, filter, refl, sym, ap, ap₂, ◌∙◌}
use Rattle.std.proofs.Common.{append_assoc, append-nil}
use Rattle.std.proofs.lemmas.List.Elements.{All-head, All-tail}
use Rattle.vega_spec.specs.declared.data.DataSet.{DataSet}
use Rattle.vega_spec.specs.declared.spec.Group.{fold-roll-Group, roll-Group}
use Rattle.vega_spec.specs.declared.spec.VgMark.{VgMark, fold-roll-VgMark}
use Rattle.vega_spec.specs.Names.{mark_sources, mark_sources_here, own_source, own_sources, sources_here, sources_in}
use Rattle.vl_spec.specs.declared.sources.SourceOf.{SourceOf}
use Rattle.plan_kit.specs.declared.plan.Plan.{Plan}
use Rattle.vega_assemble.specs.Assembled.{begun_list, begun_lists, held_at_top, is_begun, lists_made, made, none_list, unit_list}
use Rattle.vega_assemble.specs.Made.{AGroup, AMark, Made, MadeMark, MadeObject, NoMarks, group_of, group_parts, mark_parts, mark_rolled, no_parts}
use Rattle.vega_assemble.specs.Made.{parts_of}
use Rattle.vega_assemble.specs.Made.{rolled}
use Rattle.vega_assemble.specs.Sources.{source_written}
use Rattle.compiled_rows.specs.Lists.{scale_lists, grid_lists, drag_lists}
use Rattle.compiled_rows.specs.Origins.{SourcesAreWritten}
use Rattle.compiled_rows.proofs.BareLemmas.{IsBare, all_bare}
use Rattle.compiled_rows.proofs.SignalLemmas.{list_back}
use Rattle.compiled_rows.proofs.StandLemmas.{Other, scales_other, grids_other, drags_other}

-- ---- lists without a source among them

abbrev NoneIn : List DataSet → Type 0
NoneIn sets = own_sources sets ≡ []

parted : (xs ys : List DataSet) → own_sources (xs ++ ys) ≡ own_sources xs ++ own_sources ys
parted [] ys = refl
parted (x ∷ xs) ys = ap (λ l. own_source x ++ l) (parted xs ys) ∙ sym (append_assoc (own_source x) (own_sources xs) (own_sources ys))

both_none : (xs ys : List DataSet) → NoneIn xs → NoneIn ys → NoneIn (xs ++ ys)
both_none xs ys a b = parted xs ys ∙ ap₂ (λ l m. l ++ m) a b

all_none : {A : Type 0} (f : A → DataSet) → ((x : A) → own_source (f x) ≡ []) → (xs : List A) → NoneIn (map f xs)
all_none f each [] = refl
all_none f each (x ∷ xs) = ap₂ (λ l m. l ++ m) (each x) (all_none f each xs)

module _ (stem : List ℕ) where
  others_none : (sets : List DataSet) → All (Other stem) sets → NoneIn sets
  others_none [] h = refl
  others_none (set ∷ sets) h =
      ap₂ (λ l m. l ++ m) (ap (λ b. cond b [] (set.name ∷ [])) (All-head (Other stem) set sets h).1) (others_none sets (All-tail (Other stem) set sets h))

  lists_none : (p : Plan) → NoneIn (lists_made stem p)
  lists_none p =
      let units = map (unit_list stem) p.units in
      let begun = begun_lists stem p in
      let scales = scale_lists stem p in
      let grids = grid_lists stem p in
      both_none (units ++ begun ++ scales ++ grids) (drag_lists stem p)
      (both_none (units ++ begun ++ scales) grids
      (both_none (units ++ begun) scales
      (both_none units begun (all_none (unit_list stem) (λ x. refl) p.units) (all_none (begun_list stem) (λ x. refl) (filter (is_begun p) p.units)))
      (others_none scales (scales_other stem p)))
      (others_none grids (grids_other stem p)))
      (others_none (drag_lists stem p) (drags_other stem p))

sources_first : (ss : List SourceOf) (others : List DataSet) → NoneIn others
    → own_sources (map source_written ss ++ others) ≡ map (λ (source : SourceOf). source.name) ss
sources_first [] others e = e
sources_first (s ∷ ss) others e = ap (λ l. s.name ∷ l) (sources_first ss others e)

-- ---- objects

abbrev sources_made : Made → List (List ℕ)
sources_made NoMarks = []
sources_made (AMark m others) = sources_made others
sources_made (AGroup o inside others) = (own_sources o.sets ++ sources_made inside) ++ sources_made others

abbrev all_sources : List VgMark → List (List ℕ)
all_sources marks = flat_map (λ names. names) (map mark_sources marks)

bare_none : sources_in (roll-Group no_parts) ≡ []
bare_none = fold-roll-Group (List (List ℕ)) (List (List ℕ)) sources_here mark_sources_here no_parts

mark_none : (m : MadeMark) → mark_sources (mark_rolled m) ≡ []
mark_none m = fold-roll-VgMark (List (List ℕ)) (List (List ℕ)) sources_here mark_sources_here (mark_parts m) ∙ bare_none

group_sources : (o : MadeObject) (marks : List VgMark) → sources_in (group_of o marks) ≡ own_sources o.sets ++ all_sources marks
group_sources o [] =
    fold-roll-Group (List (List ℕ)) (List (List ℕ)) sources_here mark_sources_here (parts_of o [])
    ∙ ap (λ sets. own_sources sets ++ []) (list_back o.sets)
group_sources o (m ∷ marks) =
    fold-roll-Group (List (List ℕ)) (List (List ℕ)) sources_here mark_sources_here (parts_of o (m ∷ marks))
    ∙ ap (λ sets. own_sources sets ++ all_sources (m ∷ marks)) (list_back o.sets)

rolled_sources : (m : Made) → all_sources (rolled m) ≡ sources_made m
rolled_sources NoMarks = refl
rolled_sources (AMark m others) = ap₂ (λ l k. l ++ k) (mark_none m) (rolled_sources others)
rolled_sources (AGroup o inside others) =
    ap₂ (λ l k. l ++ k)
    (fold-roll-VgMark (List (List ℕ)) (List (List ℕ)) sources_here mark_sources_here (group_parts o (rolled inside))
    ∙ group_sources o (rolled inside) ∙ ap (λ k. own_sources o.sets ++ k) (rolled_sources inside))
    (rolled_sources others)

-- ---- views

bare_sources : (m : Made) → IsBare m → sources_made m ≡ []
bare_sources NoMarks h = refl
bare_sources (AMark m others) h = bare_sources others h
bare_sources (AGroup o inside others) h =
    ap₂ (λ l k. l ++ k) (ap₂ (λ sets l. own_sources sets ++ l) h.0 (bare_sources inside h.2)) (bare_sources others h.3)

pub sources_are_written : SourcesAreWritten
sources_are_written stem s p =
    let names = map (λ (source : SourceOf). source.name) s.sources in
    group_sources ((made stem s p).object) (rolled (made stem s p).marks)
    ∙ ap₂ (λ l m. l ++ m) (sources_first s.sources (none_list stem s.sources ∷ lists_made stem p) (lists_none stem p))
    (rolled_sources (made stem s p).marks ∙ bare_sources (made stem s p).marks (all_bare stem p p.view (held_at_top stem p)).2)
    ∙ append-nil names
