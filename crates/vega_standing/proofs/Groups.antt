-- A specification has no more groups than its tree has lists and objects.
use Rattle.std.proofs.Common.{◌≡◌, ℕ, suc, ◌+◌, ◌≤◌, ◌<◌, ◌^◌, Bool, true, false, List, [], ◌∷◌, length, find, cond, refl, sym, ap, subst, ◌∙◌, arith}
use Rattle.std.specs.Prelude.{Option, Some, None, codes, unwrap_or, bytes_eq, option_map, if◌then◌else◌}
use Rattle.std.specs.Option.{option_and_then}
use Rattle.json_exact.specs.declared.json.Json.{Json, out-Json, Null, Flag, Number, Huge, Text, List', Object', Row_of-Json, end_of-Json}
use Rattle.json_exact.specs.declared.json.Json.{more_of-Json, Row_of-Member, end_of-Member, more_of-Member}
use Rattle.json_exact.specs.declared.json.Json.TheOpen as level
use Rattle.json_exact.specs.declared.json.Member.{Member}
use Rattle.json_exact.specs.Inside.{members_in}
use Rattle.json_exact.specs.Path.{member_value}
use Rattle.json_exact.specs.Reading.{Reads}
use Rattle.vega_spec.specs.declared.spec.Group.{Group, Group-F, out-Group}
use Rattle.vega_spec.specs.declared.spec.VgMark.{VgMark, VgMark-F, out-VgMark}
use Rattle.vega_spec.specs.declared.spec.VgSpec.{VgSpec}
use Rattle.vega_building.specs.Parts.{members_of}
use Rattle.vega_building.specs.Spec.{mark_of, mark_with, marks_in, mark_items, marks_among, marks_at, spec_with, spec_of}
use Rattle.vega_copies.specs.Outlines.{count_groups, count_marks, numbered, Marks, NoMarks, AMark, AGroup, outline_of, opened}
use Rattle.vega_copies.specs.inner.Outlined.{is_group, is_group_type, marks_of}
use Rattle.vega_copies.specs.inner.Outlined as outlined
use Rattle.vega_copies.proofs.OutlineLemmas.{plain_grouped, group_grouped, grouped_first, opened_marks}
use Rattle.vega_standing.proofs.Trees.{object_of}
use Rattle.vega_standing.proofs.Marks.{mark_opened, group_opened}
use Rattle.vega_standing.proofs.Weights.{total}
use Rattle.vega_standing.proofs.ReadTrees.{holders, held_items, held_values, sum_of_values, holders-Object, read_size}

abbrev groups_of_one : VgMark → ℕ
groups_of_one m = count_groups (marks_of (m ∷ []))

total_groups : (ms : List VgMark) → count_groups (marks_of ms) ≡ total groups_of_one ms
total_groups [] = refl
total_groups (m ∷ ms) = grouped_first m ms ∙ ap (λ n. groups_of_one m + n) (total_groups ms)

module _ (ms : List Member) (marks : Option (List VgMark)) where
  abbrev own : VgMark
  own = mark_with ms marks

  marks_inside : outlined.marks_in (out-Group (out-VgMark own).group) ≡ unwrap_or marks []
  marks_inside = ap (λ (m : VgMark-F Group VgMark). outlined.marks_in (out-Group m.group)) (mark_opened ms marks)
      ∙ ap (λ (g : Group-F Group VgMark). unwrap_or g.marks []) (group_opened ms marks)

  one_group : (n inside t : ℕ) → n ≡ suc (inside + 0) → inside ≡ t → n ≤ suc t
  one_group n inside t a b = omega arith

  no_group : (n t : ℕ) → n ≡ 0 → n ≤ suc t
  no_group n t a = omega arith

  -- a mark is a group at most, besides those in it
  with_inside : groups_of_one own ≤ suc (total groups_of_one (unwrap_or marks []))
  with_inside = by_type (is_group (out-VgMark own)) refl
    where
      by_type : (b : Bool) → is_group (out-VgMark own) ≡ b → groups_of_one own ≤ suc (total groups_of_one (unwrap_or marks []))
      by_type true e = one_group (groups_of_one own)
          (count_groups (marks_of (outlined.marks_in (out-Group (out-VgMark own).group)))) (total groups_of_one (unwrap_or marks []))
          (group_grouped own [] e) (ap (λ xs. count_groups (marks_of xs)) marks_inside ∙ total_groups (unwrap_or marks []))
      by_type false e = no_group (groups_of_one own) (total groups_of_one (unwrap_or marks [])) (plain_grouped own [] e)

-- a value without members is no group
empty_mark : groups_of_one (mark_with [] None) ≡ 0
empty_mark = plain_grouped (mark_with [] None) [] (ap (λ (m : VgMark-F Group VgMark). is_group_type m.type_) (mark_opened [] None))

no_more : (n m : ℕ) → n ≡ 0 → n ≤ m
no_more n m e = omega arith

nothing : (n : ℕ) → 0 ≤ n
nothing n = omega arith

through : (a b c : ℕ) → a ≤ suc b → b ≤ c → a ≤ suc c
through a b c x y = omega arith

longer : (a b : ℕ) → a ≤ b → a ≤ suc b
longer a b x = omega arith

both_sums : (a b c d : ℕ) → a ≤ c → b ≤ d → a + b ≤ c + d
both_sums a b c d x y = omega arith

on_left : (a c d : ℕ) → a ≤ c → a ≤ c + d
on_left a c d x = omega arith

on_right : (a c d : ℕ) → a ≤ d → a ≤ c + d
on_right a c d x = omega arith

this_or : (b : Bool) (here others : Option (List VgMark)) (m n : ℕ) →
    total groups_of_one (unwrap_or here []) ≤ m → total groups_of_one (unwrap_or others []) ≤ n →
    total groups_of_one (unwrap_or (if b then here else others) []) ≤ m + n
this_or true here others m n x y = on_left (total groups_of_one (unwrap_or here [])) m n x
this_or false here others m n x y = on_right (total groups_of_one (unwrap_or others [])) m n y

mutual
  mark_groups : (tree : Json) → groups_of_one (mark_of tree) ≤ holders tree
  mark_groups Null = no_more _ 0 empty_mark
  mark_groups (Flag b) = no_more _ 0 empty_mark
  mark_groups (Number n) = no_more _ 0 empty_mark
  mark_groups Huge = no_more _ 0 empty_mark
  mark_groups (Text t) = no_more _ 0 empty_mark
  mark_groups (List' size items) = no_more _ (suc (held_items items)) empty_mark
  mark_groups (Object' size members) =
      through (groups_of_one (mark_with (members_of (Object' size members)) (marks_among members)))
      (total groups_of_one (unwrap_or (marks_among members) [])) (held_values members)
      (with_inside (members_of (Object' size members)) (marks_among members)) (among_groups members)

  list_groups : (tree : Json) → total groups_of_one (unwrap_or (marks_in tree) []) ≤ holders tree
  list_groups Null = nothing 0
  list_groups (Flag b) = nothing 0
  list_groups (Number n) = nothing 0
  list_groups Huge = nothing 0
  list_groups (Text t) = nothing 0
  list_groups (List' size items) = longer (total groups_of_one (mark_items items)) (held_items items) (items_groups items)
  list_groups (Object' size members) = nothing (suc (held_values members))

  items_groups : {n : _} (row : Row_of-Json n) → total groups_of_one (mark_items row) ≤ held_items row
  items_groups end_of-Json = nothing 0
  items_groups (more_of-Json item others) =
      both_sums (groups_of_one (mark_of item)) (total groups_of_one (mark_items others))
      (holders item) (held_items others) (mark_groups item) (items_groups others)

  among_groups : {n : _} (row : Row_of-Member n) → total groups_of_one (unwrap_or (marks_among row) []) ≤ held_values row
  among_groups end_of-Member = nothing 0
  among_groups (more_of-Member name value others) =
      this_or (bytes_eq name (codes "marks")) (marks_in value) (marks_among others)
      (holders value) (held_values others) (list_groups value) (among_groups others)

-- ---- the whole

itself : (n : ℕ) → n ≤ n
itself n = omega arith

value_size : (ms : List Member) (name : List ℕ) (v : Json) → member_value ms name ≡ Some v → holders v ≤ sum_of_values ms
value_size [] name v e = absurd cc
value_size (m ∷ ms) name v e = by_name (bytes_eq m.name name) e (value_size ms name v)
  where
    by_name : (b : Bool) → option_map (λ (m : Member). m.value) (cond b (Some m) (find (λ (m : Member). bytes_eq m.name name) ms)) ≡ Some v →
        (member_value ms name ≡ Some v → holders v ≤ sum_of_values ms) → holders v ≤ holders m.value + sum_of_values ms
    by_name true f rest = let same : m.value ≡ v = cc in subst (λ x. holders x ≤ holders m.value + sum_of_values ms) same
        (on_left (holders m.value) (holders m.value) (sum_of_values ms) (itself (holders m.value)))
    by_name false f rest = on_right (holders v) (holders m.value) (sum_of_values ms) (rest f)

at_most : (a b c : ℕ) → a ≤ b → b ≤ c → a ≤ c
at_most a b c x y = omega arith

members_groups : (ms : List Member) → total groups_of_one (unwrap_or (marks_at ms (codes "marks")) []) ≤ sum_of_values ms
members_groups ms = by_value (member_value ms (codes "marks")) refl
  where
    by_value : (o : Option Json) → member_value ms (codes "marks") ≡ o → total groups_of_one (unwrap_or (option_and_then marks_in o) []) ≤ sum_of_values ms
    by_value None e = nothing (sum_of_values ms)
    by_value (Some v) e = at_most (total groups_of_one (unwrap_or (marks_in v) [])) (holders v)
        (sum_of_values ms) (list_groups v) (value_size ms (codes "marks") v e)

numbered_groups : (unit number : ℕ) (marks : Marks) → count_groups (numbered unit number marks) ≡ count_groups marks
numbered_groups unit number NoMarks = refl
numbered_groups unit number (AMark old m others) = numbered_groups (suc unit) number others
numbered_groups unit number (AGroup o inside others) =
    λ i. suc (numbered_groups unit (suc number) inside i + numbered_groups (unit + count_marks inside) (suc number + count_groups inside) others i)

spec_groups : (ms : List Member) → count_groups (outline_of (spec_with ms)).marks ≡ total groups_of_one (unwrap_or (marks_at ms (codes "marks")) [])
spec_groups ms =
    let g : VgSpec = spec_with ms in
    numbered_groups 0 1 (opened g.group).marks
    ∙ ap count_groups
    (opened_marks g.group ∙ ap (λ (x : Group-F Group VgMark). marks_of (unwrap_or x.marks [])) (group_opened ms (marks_at ms (codes "marks"))))
    ∙ total_groups (unwrap_or (marks_at ms (codes "marks")) [])

-- the groups of a specification that a file says can be numbered in 32 bits
pub few_groups : (bytes : List ℕ) (tree : Json) (ms : List Member) → Reads bytes tree → length bytes ≤ 2 ^ 24 → out-Json tree ≡ level.Object ms →
    1 + count_groups (outline_of (spec_of tree)).marks < 2 ^ 32
few_groups bytes tree ms reads small is =
    let same : members_of tree ≡ ms = ap (λ o. unwrap_or (members_in o) []) is in
    let size : holders tree ≡ suc (sum_of_values ms) = ap holders (object_of tree ms is) ∙ holders-Object ms in
    subst (λ m. 1 + count_groups (outline_of (spec_with m)).marks < 2 ^ 32) (sym same)
    (few (count_groups (outline_of (spec_with ms)).marks)
    (total groups_of_one (unwrap_or (marks_at ms (codes "marks")) [])) (sum_of_values ms) (holders tree) (length bytes)
    (spec_groups ms) (members_groups ms) size (read_size bytes tree reads) small)
  where
    few : (a b c d e : ℕ) → a ≡ b → b ≤ c → d ≡ suc c → d ≤ e → e ≤ 2 ^ 24 → 1 + a < 2 ^ 32
    few a b c d e p q r s t = omega arith
