-- Marks of a specification as outlines.
use Rattle.std.proofs.Common.{◌≡◌, ℕ, zero, suc, ◌+◌, Bool, true, false, Option, Some, None, List, [], ◌∷◌, refl, ap, ◌∙◌, arith}
use Rattle.std.specs.Prelude.{unwrap_or}
use native.Mathlib.Numerals.{unary_clauses}
use Rattle.vega_spec.specs.declared.marks.MarkType.TheVariants as mark
use Rattle.vega_spec.specs.declared.spec.Group.{Group, out-Group, map-Group, fold_out-Group}
use Rattle.vega_spec.specs.declared.spec.Group.TheShapes.{former-Group-marks}
use Rattle.vega_spec.specs.declared.spec.VgMark.{VgMark, VgMark-F, out-VgMark, map-VgMark, fold_out-VgMark}
use Rattle.vega_copies.specs.Outlines.{Opened, Before, Marks, NoMarks, AMark, AGroup, object_here, group_here, mark_here, mark_of_type}
use Rattle.vega_copies.specs.Outlines.{opened, in_a_row, facet_in, PlainMark, numbered, count_marks, count_groups, first_unit}
use Rattle.vega_spec.specs.declared.marks.MarkType.{MarkType}
use Rattle.std.specs.Option.{option_or}
use Rattle.vega_copies.specs.inner.Outlined.{marks_in, is_group, is_group_type, before_of, marks_of, marks_from, plain_of, group_object}

-- the marks of an object behind each other
marks_behind : (o : Option (List VgMark)) → in_a_row (unwrap_or (former-Group-marks.map VgMark Before before_of o) []) ≡ marks_of (unwrap_or o [])
marks_behind None = refl
marks_behind (Some marks) = refl

opened_is : (g : Group) → opened g ≡ group_here (map-Group Group VgMark Opened Before opened before_of (out-Group g))
opened_is g = fold_out-Group Opened Before group_here mark_here g

pub opened_object : (g : Group) → (opened g).object ≡ object_here (out-Group g)
opened_object g = ap (λ (o : Opened). o.object) (opened_is g)

pub opened_marks : (g : Group) → (opened g).marks ≡ marks_of (marks_in (out-Group g))
opened_marks g = ap (λ (o : Opened). o.marks) (opened_is g) ∙ marks_behind (out-Group g).marks

mark_before : (m : VgMark) (others : Marks)
    → before_of m others ≡ mark_of_type (out-VgMark m).type_ (map-VgMark Group VgMark Opened Before opened before_of (out-VgMark m)) others
mark_before m others = ap (λ (b : Before). b others) (fold_out-VgMark Opened Before group_here mark_here m)

-- a mark of a type, by what it shows
shows : {A B : Type 0} → MarkType → VgMark-F A B → PlainMark
shows t m = record { type = t; from = m.from; encode = m.encode; sort = m.sort }

plain_type : (t : MarkType) (m : VgMark-F Opened Before) (others : Marks) → is_group_type t ≡ false
    → mark_of_type t m others ≡ AMark 0 (record { type = t; from = m.from; encode = m.encode; sort = m.sort }) others
plain_type mark.Rect m others e = refl
plain_type mark.Symbol m others e = refl
plain_type mark.Line m others e = refl
plain_type mark.Area m others e = refl
plain_type mark.Rule m others e = refl
plain_type mark.Text m others e = refl
plain_type mark.Group m others e = absurd (cc)

group_type : (t : MarkType) (m : VgMark-F Opened Before) (others : Marks) → is_group_type t ≡ true
    → mark_of_type t m others ≡ AGroup (record (m.group.object) { facet = facet_in m.from; sort = m.sort; encode = m.encode }) m.group.marks others
group_type mark.Rect m others e = absurd (cc)
group_type mark.Symbol m others e = absurd (cc)
group_type mark.Line m others e = absurd (cc)
group_type mark.Area m others e = absurd (cc)
group_type mark.Rule m others e = absurd (cc)
group_type mark.Text m others e = absurd (cc)
group_type mark.Group m others e = refl

-- a mark other than a group, and then others
pub plain_first : (m : VgMark) (others : Marks) → is_group (out-VgMark m) ≡ false → before_of m others ≡ AMark 0 (plain_of (out-VgMark m)) others
plain_first m others e =
    mark_before m others
    ∙ plain_type (out-VgMark m).type_ (map-VgMark Group VgMark Opened Before opened before_of (out-VgMark m)) others e

-- a group with the marks in it, and then others
pub group_first : (m : VgMark) (others : Marks) → is_group (out-VgMark m) ≡ true
    → before_of m others ≡ AGroup (group_object 0 (out-VgMark m)) (marks_of (marks_in (out-Group (out-VgMark m).group))) others
group_first m others e =
    mark_before m others
    ∙ group_type (out-VgMark m).type_ (map-VgMark Group VgMark Opened Before opened before_of (out-VgMark m)) others e
    ∙ (λ i. AGroup (record (opened_object (out-VgMark m).group i)
    { facet = facet_in (out-VgMark m).from; sort = (out-VgMark m).sort; encode = (out-VgMark m).encode })
    (opened_marks (out-VgMark m).group i) others)

-- the same with numbers
pub plain_from : (unit number : ℕ) (m : VgMark) (ms : List VgMark) → is_group (out-VgMark m) ≡ false
    → marks_from unit number (m ∷ ms) ≡ AMark unit (plain_of (out-VgMark m)) (marks_from (suc unit) number ms)
plain_from unit number m ms e = ap (numbered unit number) (plain_first m (marks_of ms) e)

pub group_from : (unit number : ℕ) (m : VgMark) (ms : List VgMark) → is_group (out-VgMark m) ≡ true
    → (let inside = marks_of (marks_in (out-Group (out-VgMark m).group)) in
    marks_from unit number (m ∷ ms) ≡ AGroup (group_object number (out-VgMark m)) (numbered unit (suc number) inside)
    (marks_from (unit + count_marks inside) (suc number + count_groups inside) ms))
group_from unit number m ms e = ap (numbered unit number) (group_first m (marks_of ms) e)

-- how many marks and groups there are
pub plain_counted : (m : VgMark) (ms : List VgMark) → is_group (out-VgMark m) ≡ false → count_marks (marks_of (m ∷ ms)) ≡ suc (count_marks (marks_of ms))
plain_counted m ms e = ap count_marks (plain_first m (marks_of ms) e)

pub group_counted : (m : VgMark) (ms : List VgMark) → is_group (out-VgMark m) ≡ true
    → count_marks (marks_of (m ∷ ms)) ≡ count_marks (marks_of (marks_in (out-Group (out-VgMark m).group))) + count_marks (marks_of ms)
group_counted m ms e = ap count_marks (group_first m (marks_of ms) e)

pub plain_grouped : (m : VgMark) (ms : List VgMark) → is_group (out-VgMark m) ≡ false → count_groups (marks_of (m ∷ ms)) ≡ count_groups (marks_of ms)
plain_grouped m ms e = ap count_groups (plain_first m (marks_of ms) e)

pub group_grouped : (m : VgMark) (ms : List VgMark) → is_group (out-VgMark m) ≡ true
    → count_groups (marks_of (m ∷ ms)) ≡ suc (count_groups (marks_of (marks_in (out-Group (out-VgMark m).group))) + count_groups (marks_of ms))
group_grouped m ms e = ap count_groups (group_first m (marks_of ms) e)

-- marks are as many as the first and the others
regroup : (inside rest : ℕ) {whole first : ℕ} → whole ≡ inside + rest → first ≡ inside + 0 → whole ≡ first + rest
regroup inside rest a b = omega arith

regroup_one : {whole first rest : ℕ} → whole ≡ suc rest → first ≡ suc 0 → whole ≡ first + rest
regroup_one a b = omega arith

regroup_group : (inside rest : ℕ) {whole first : ℕ} → whole ≡ suc (inside + rest) → first ≡ suc (inside + 0) → whole ≡ first + rest
regroup_group inside rest a b = omega arith

regroup_none : {whole first rest : ℕ} → whole ≡ rest → first ≡ 0 → whole ≡ first + rest
regroup_none a b = omega arith

pub counted_first : (m : VgMark) (ms : List VgMark) → count_marks (marks_of (m ∷ ms)) ≡ count_marks (marks_of (m ∷ [])) + count_marks (marks_of ms)
counted_first m ms = by_type (is_group (out-VgMark m)) refl
  where
    by_type : (b : Bool) → is_group (out-VgMark m) ≡ b → count_marks (marks_of (m ∷ ms)) ≡ count_marks (marks_of (m ∷ [])) + count_marks (marks_of ms)
    by_type true e = regroup (count_marks (marks_of (marks_in (out-Group (out-VgMark m).group))))
        (count_marks (marks_of ms)) (group_counted m ms e) (group_counted m [] e)
    by_type false e = regroup_one (plain_counted m ms e) (plain_counted m [] e)

pub grouped_first : (m : VgMark) (ms : List VgMark) → count_groups (marks_of (m ∷ ms)) ≡ count_groups (marks_of (m ∷ [])) + count_groups (marks_of ms)
grouped_first m ms = by_type (is_group (out-VgMark m)) refl
  where
    by_type : (b : Bool) → is_group (out-VgMark m) ≡ b → count_groups (marks_of (m ∷ ms)) ≡ count_groups (marks_of (m ∷ [])) + count_groups (marks_of ms)
    by_type true e = regroup_group (count_groups (marks_of (marks_in (out-Group (out-VgMark m).group))))
        (count_groups (marks_of ms)) (group_grouped m ms e) (group_grouped m [] e)
    by_type false e = regroup_none (plain_grouped m ms e) (plain_grouped m [] e)

-- a group alone, by the marks in it
nothing_behind : {whole inside n : ℕ} → whole ≡ inside + 0 → n ≡ inside → n ≡ whole
nothing_behind a b = omega arith

nothing_behind_group : {whole inside n : ℕ} → whole ≡ suc (inside + 0) → n ≡ inside → 1 + n ≡ whole
nothing_behind_group a b = omega arith

pub counted_alone : (m : VgMark) (inside : List VgMark) (n : ℕ) → is_group (out-VgMark m) ≡ true → inside ≡ marks_in (out-Group (out-VgMark m).group)
    → n ≡ count_marks (marks_of inside) → n ≡ count_marks (marks_of (m ∷ []))
counted_alone m inside n e there counted = nothing_behind (group_counted m [] e) (counted ∙ ap (λ ms. count_marks (marks_of ms)) there)

pub grouped_alone : (m : VgMark) (inside : List VgMark) (n : ℕ) → is_group (out-VgMark m) ≡ true → inside ≡ marks_in (out-Group (out-VgMark m).group)
    → n ≡ count_groups (marks_of inside) → 1 + n ≡ count_groups (marks_of (m ∷ []))
grouped_alone m inside n e there counted = nothing_behind_group (group_grouped m [] e) (counted ∙ ap (λ ms. count_groups (marks_of ms)) there)

-- the least number
abbrev pub none_or : Option ℕ → ℕ → ℕ → Option ℕ
none_or o zero unit = o
none_or o (suc n) unit = Some unit

past_nothing : (b unit : ℕ) → option_or None (none_or None b (unit + 0)) ≡ none_or None (0 + b) unit
past_nothing zero unit = refl
past_nothing (suc b) unit = simp unary_clauses

past_some : (a b unit : ℕ) → Some unit ≡ none_or None (suc a + b) unit
past_some a b unit = ap (λ n. none_or None n unit) (more a b)
  where
    more : (a b : ℕ) → suc (a + b) ≡ suc a + b
    more a b = omega arith

none_or_joined : (a b unit : ℕ) → option_or (none_or None a unit) (none_or None b (unit + a)) ≡ none_or None (a + b) unit
none_or_joined zero b unit = past_nothing b unit
none_or_joined (suc a) b unit = past_some a b unit

pub first_is : (unit number : ℕ) (marks : Marks) → first_unit (numbered unit number marks) ≡ none_or None (count_marks marks) unit
first_is unit number NoMarks = refl
first_is unit number (AMark old m others) = refl
first_is unit number (AGroup o inside others) =
    ap (λ x. option_or x (first_unit (numbered (unit + count_marks inside) (suc number + count_groups inside) others))) (first_is unit (suc number) inside)
    ∙ ap (λ y. option_or (none_or None (count_marks inside) unit) y) (first_is (unit + count_marks inside) (suc number + count_groups inside) others)
    ∙ none_or_joined (count_marks inside) (count_marks others) unit
