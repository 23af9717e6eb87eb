-- There are at most 32 marks other than groups.
use Rattle.std.proofs.Common.{◌≡◌, ℕ, ◌+◌, ◌<◌, ◌≤◌, ◌^◌, suc, List, [], ◌∷◌, ◌++◌, length, refl, sym, ap, ◌∙◌, ◌⊎◌, inl, inr, arith}
use Rattle.std.specs.Prelude.{Option, Some, None, Bool, true, false, codes, unwrap_or, bytes_eq, slice_get, get_or, option_to_list, option_map, if◌then◌else◌}
use Rattle.std.specs.Option.{option_map_or, option_and_then}
use Rattle.std.specs.List.{filter_map, cons_option}
use Rattle.std.proofs.lemmas.Option.{slice_get_cases}
use Rattle.json_exact.specs.declared.json.Json.{Json, out-Json}
use Rattle.json_exact.specs.declared.json.Json.TheOpen as level
use Rattle.json_exact.specs.declared.json.Member.{Member}
use Rattle.spec_schema.specs.declared.spec_error.SpecKind.TheVariants.{Wrong}
use Rattle.json_exact.specs.Inside.{text_in}
use Rattle.json_exact.specs.Path.{member_value}
use Rattle.spec_schema.specs.declared.layout.Layout.{Layout}
use Rattle.spec_schema.specs.Values.{text_passes}
use Rattle.spec_schema.specs.Layouts.{shape_in}
use Rattle.vega_schema.specs.declared.codes.TheConstants.{MARK, MARKS, DATA_LIST}
use Rattle.vega_parts.specs.declared.part.Part.{Part}
use Rattle.vega_parts.specs.Trails.{Trail, noted, place_of}
use Rattle.vega_parts.specs.Marks.{plot_parts, mark_faults}
use Rattle.vega_parts.specs.Members.{says_text}
use Rattle.vega_parts.specs.Parts.{parts_at}
use Rattle.vega_rules.specs.Faults.{fault_at}
use Rattle.vega_rules.specs.Limits.{plain_mark, plot, one_too_many, limits}
use Rattle.vega_spec.specs.declared.marks.MarkType.TheVariants as mark
use Rattle.vega_spec.specs.declared.spec.Group.{Group, Group-F, out-Group}
use Rattle.vega_spec.specs.declared.spec.VgMark.{VgMark, VgMark-F, out-VgMark}
use Rattle.vega_building.specs.Parts.{text_at}
use Rattle.vega_building.specs.Names.{mark_type_named}
use Rattle.vega_building.specs.Spec.{mark_with, marks_at}
use Rattle.vega_copies.specs.Outlines.{count_marks}
use Rattle.vega_copies.specs.inner.Outlined.{is_group, is_group_type, marks_of}
use Rattle.vega_copies.specs.inner.Outlined as outlined
use Rattle.vega_copies.proofs.OutlineLemmas.{plain_counted, group_counted, counted_first}
use Rattle.vega_standing.proofs.Stands.{StandsObject, parts_of_members}
use Rattle.vega_standing.proofs.Members.{text_is}
use Rattle.vega_standing.proofs.Transforms.{says_member}
use Rattle.vega_standing.proofs.Marks.{group_opened, mark_opened}
use Rattle.vega_standing.proofs.Weights.{weight, total, zero_more, object_weighs}

none_of : {X : Type 0} (xs ys : List X) → xs ++ ys ≡ [] → (xs ≡ []) × (ys ≡ [])
none_of [] ys e = (refl, e)
none_of (x ∷ xs) ys e = absurd cc

-- a mark other than a group counts
abbrev pub one_mark : Part → ℕ
one_mark p = option_map_or (λ (at : List ℕ). 1) (plain_mark p) 0

one_longer : (n m : ℕ) → n ≡ m → 1 + n ≡ suc m
one_longer n m e = omega arith

one_more : (o : Option (List ℕ)) (ys : List (List ℕ)) (n : ℕ) → n ≡ length ys → option_map_or (λ (at : List ℕ). 1) o 0 + n ≡ length (cons_option o ys)
one_more None ys n e = sym (zero_more n) ∙ e
one_more (Some at) ys n e = one_longer n (length ys) e

counted : (parts : List Part) → weight one_mark parts ≡ length (filter_map plain_mark parts)
counted [] = refl
counted (p ∷ ps) = one_more (plain_mark p) (filter_map plain_mark ps) (weight one_mark ps) (counted ps)

none_there : (o : Option (List ℕ)) → option_to_list (option_map (λ at. fault_at Wrong at) o) ≡ [] → o ≡ None
none_there None e = refl
none_there (Some at) e = absurd cc

-- where no limit is passed, 32 count at most
pub few_count : (parts : List Part) → limits parts ≡ [] → weight one_mark parts ≤ 32
few_count parts e =
    let marks = none_of (one_too_many (filter_map plain_mark parts)) (one_too_many (filter_map plot parts)) e in
    at_most (filter_map plain_mark parts) (counted parts) (none_there (slice_get (filter_map plain_mark parts) 32) marks.0)
  where
    few : (n m : ℕ) → n ≡ m → m ≤ 32 → n ≤ 32
    few n m a b = omega arith

    at_most : (xs : List (List ℕ)) → weight one_mark parts ≡ length xs → slice_get xs 32 ≡ None → weight one_mark parts ≤ 32
    at_most xs same none = by_place (slice_get_cases xs 32).1
      where
        by_place : ((x : List ℕ) × (32 < length xs) × (slice_get xs 32 ≡ Some x) × (get_or xs 32 x ≡ x))
            ⊎ ((length xs ≤ 32) × (slice_get xs 32 ≡ None)) → weight one_mark parts ≤ 32
        by_place (inl there) = absurd (let f = there.2 in cc)
        by_place (inr past) = few (weight one_mark parts) (length xs) same past.0

-- ---- marks

abbrev pub marks_of_one : VgMark → ℕ
marks_of_one m = count_marks (marks_of (m ∷ []))

pub total_marks : (ms : List VgMark) → count_marks (marks_of ms) ≡ total marks_of_one ms
total_marks [] = refl
total_marks (m ∷ ms) = counted_first m ms ∙ ap (λ n. marks_of_one m + n) (total_marks ms)

said : (text : List ℕ) (o : Option Json) → option_map_or (λ v. text_passes (bytes_eq text) (out-Json v)) o false ≡ true →
    option_and_then (λ v. text_in (out-Json v)) o ≡ Some text
said text None e = absurd cc
said text (Some v) e = text_is text (out-Json v) e

module _ (round : Trail) (number : ℕ) (tree : Json) (ms : List Member) (is : out-Json tree ≡ level.Object ms) where
  abbrev own : VgMark
  own = mark_with ms (marks_at ms (codes "marks"))

  named_group : text_at ms (codes "type") ≡ Some (codes "group") → is_group (out-VgMark own) ≡ true
  named_group e =
      ap (λ (m : VgMark-F Group VgMark). is_group_type m.type_) (mark_opened ms (marks_at ms (codes "marks")))
      ∙ ap (λ o. is_group_type (unwrap_or (option_and_then mark_type_named o) mark.Rect)) e

  no_group : (b : Bool) → says_text (codes "type") (codes "group") tree ≡ b →
      is_group (out-VgMark own) ≡ false → says_text (codes "type") (codes "group") tree ≡ false
  no_group false e other = e
  no_group true e other =
      let group : is_group (out-VgMark own) ≡ true =
      named_group (said (codes "group") (member_value ms (codes "type")) (sym (says_member tree ms is (codes "type") (codes "group")) ∙ e)) in
      absurd cc

  one_least : (b : Bool) (at : List ℕ) (rest : ℕ) → b ≡ false → 1 ≤ option_map_or (λ (at : List ℕ). 1) (if b then None else Some at) 0 + rest
  one_least false at rest e = omega arith
  one_least true at rest e = absurd cc

  weighs_one : says_text (codes "type") (codes "group") tree ≡ false → 1 ≤ weight one_mark (parts_at (noted number MARK tree ∷ round) tree)
  weighs_one e = one_least (says_text (codes "type") (codes "group") tree) (place_of (noted number MARK tree ∷ round))
      (weight one_mark (plot_parts (noted number MARK tree ∷ round) ++ mark_faults (noted number MARK tree ∷ round) tree)) e

  alone : (f inside here rest : ℕ) → f ≡ inside + 0 → inside ≡ rest → f ≤ here + 0 + rest
  alone f inside here rest a b = omega arith

  single : (f here rest : ℕ) → f ≡ suc 0 → 1 ≤ here → f ≤ here + 0 + rest
  single f here rest a b = omega arith

  marks_inside : outlined.marks_in (out-Group (out-VgMark own).group) ≡ unwrap_or (marks_at ms (codes "marks")) []
  marks_inside = ap (λ (m : VgMark-F Group VgMark). outlined.marks_in (out-Group m.group)) (mark_opened ms (marks_at ms (codes "marks")))
      ∙ ap (λ (g : Group-F Group VgMark). unwrap_or g.marks []) (group_opened ms (marks_at ms (codes "marks")))

  heavy : marks_of_one own
      ≤ weight one_mark (parts_at (noted number MARK tree ∷ round) tree) + 0 + total marks_of_one (unwrap_or (marks_at ms (codes "marks")) [])
  heavy = by_type (is_group (out-VgMark own)) refl
    where
      by_type : (b : Bool) → is_group (out-VgMark own) ≡ b →
          marks_of_one own ≤ weight one_mark (parts_at (noted number MARK tree ∷ round) tree)
          + 0 + total marks_of_one (unwrap_or (marks_at ms (codes "marks")) [])
      by_type true e =
          alone (marks_of_one own) (count_marks (marks_of (outlined.marks_in (out-Group (out-VgMark own).group))))
          (weight one_mark (parts_at (noted number MARK tree ∷ round) tree))
          (total marks_of_one (unwrap_or (marks_at ms (codes "marks")) [])) (group_counted own [] e)
          (ap (λ xs. count_marks (marks_of xs)) marks_inside ∙ total_marks (unwrap_or (marks_at ms (codes "marks")) []))
      by_type false e =
          single (marks_of_one own) (weight one_mark (parts_at (noted number MARK tree ∷ round) tree))
          (total marks_of_one (unwrap_or (marks_at ms (codes "marks")) []))
          (plain_counted own [] e) (weighs_one (no_group (says_text (codes "type") (codes "group") tree) refl e))

-- the marks of an object are at most as many as count among its parts
pub few_marks : (trail : Trail) (l : Layout) (ms : List Member) (here whole : List Part) →
    StandsObject trail l ms → shape_in l (codes "data") ≡ Some DATA_LIST →
    shape_in l (codes "marks") ≡ Some MARKS → whole ≡ here ++ parts_of_members trail l 0 ms → limits whole ≡ [] →
    count_marks (marks_of (unwrap_or (marks_at ms (codes "marks")) [])) < 2 ^ 32
few_marks trail l ms here whole s sets marks is none =
    few (count_marks (marks_of (unwrap_or (marks_at ms (codes "marks")) [])))
    (total marks_of_one (unwrap_or (marks_at ms (codes "marks")) [])) (weight one_mark whole)
    (total_marks (unwrap_or (marks_at ms (codes "marks")) []))
    (object_weighs one_mark marks_of_one (λ ms. 0) (λ round number tree ms s is l applies o. heavy round number tree ms is) (λ trail l ms s ruled. nothing _)
    trail l ms here whole s sets marks is) (few_count whole none)
  where
    nothing : (n : ℕ) → 0 ≤ n
    nothing n = omega arith

    few : (a b c : ℕ) → a ≡ b → 0 + b ≤ c → c ≤ 32 → a < 2 ^ 32
    few a b c x y z = omega arith
