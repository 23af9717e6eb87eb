-- Why the distinct cells of lists are those of the distinct cells of each.
use Rattle.std.proofs.Common.{◌≡◌, ◌||◌, ◌++◌, Bool, true, false, if◌then◌else◌, List, [], ◌∷◌, refl, sym, ap, ◌∙◌}
use Rattle.std.specs.List.{list_any}
use Rattle.std.proofs.lemmas.Bool.{false≢true}
use Rattle.std.proofs.lemmas.List.{append_assoc, append-nil}
use Rattle.cell_value.specs.declared.cell.Cell.{Cell}
use Rattle.cell_value.specs.Cell.{same_cells}
use Rattle.cell_value.specs.inner.CellOrder.{same_cells_tell}
use Rattle.plain_groups.specs.Groups.{firsts_behind}
use Rattle.domain_kit.specs.Cells.{in_first_order}
use Rattle.domain_kit.specs.Laws.{FirstsAreOfFirsts}

-- whether a cell is among those before
abbrev is_seen : List Cell → Cell → Bool
is_seen before c = list_any (λ b. same_cells b c) before

-- the cells that are like none before them
abbrev new_in : List Cell → List Cell → List Cell
new_in before cells = firsts_behind same_cells before cells

either_or : (a b c : Bool) → (a || (b || c)) ≡ ((a || b) || c)
either_or true b c = refl
either_or false b c = refl

or_false : (a : Bool) → (a || false) ≡ a
or_false true = refl
or_false false = refl

seen_in_both : (xs ys : List Cell) (c : Cell) → is_seen (xs ++ ys) c ≡ (is_seen xs c || is_seen ys c)
seen_in_both [] ys c = refl
seen_in_both (x ∷ xs) ys c =
    ap (λ b. same_cells x c || b) (seen_in_both xs ys c) ∙ either_or (same_cells x c) (is_seen xs c) (is_seen ys c)

-- a cell more that was seen already adds nothing
absorbed : (old now : Bool) → (now ≡ true → old ≡ true) → (old || now) ≡ old
absorbed true now h = refl
absorbed false true h = sym (h refl)
absorbed false false h = refl

seen_again : (before : List Cell) (x c : Cell) → is_seen before x ≡ true → is_seen (before ++ x ∷ []) c ≡ is_seen before c
seen_again before x c h =
    seen_in_both before (x ∷ []) c ∙ ap (λ b. is_seen before c || b) (or_false (same_cells x c))
    ∙ absorbed (is_seen before c) (same_cells x c) (λ e. ap (is_seen before) (sym ((same_cells_tell x c).0 e)) ∙ h)

-- which cells are new is told by which were seen before
new_alike : (before other cells : List Cell) → ((c : Cell) → is_seen before c ≡ is_seen other c) → new_in before cells ≡ new_in other cells
new_alike before other [] same = refl
new_alike before other (x ∷ xs) same =
    let later : new_in (before ++ x ∷ []) xs ≡ new_in (other ++ x ∷ []) xs =
    new_alike (before ++ x ∷ []) (other ++ x ∷ []) xs
    (λ c. seen_in_both before (x ∷ []) c ∙ ap (λ b. b || is_seen (x ∷ []) c) (same c) ∙ sym (seen_in_both other (x ∷ []) c)) in
    λ i. if same x i then later i else x ∷ later i

wider : (a b d : Bool) → (a ≡ true → b ≡ true) → (a || d) ≡ true → (b || d) ≡ true
wider true b d h e = ap (λ b. b || d) (h refl)
wider false true d h e = refl
wider false false d h e = e

-- what was seen in a part of what was seen before stays so with a cell more
more_within : (before part : List Cell) (x : Cell) → ((c : Cell) → is_seen part c ≡ true → is_seen before c ≡ true)
    → (c : Cell) → is_seen (part ++ x ∷ []) c ≡ true → is_seen (before ++ x ∷ []) c ≡ true
more_within before part x within c h =
    seen_in_both before (x ∷ []) c
    ∙ wider (is_seen part c) (is_seen before c) (is_seen (x ∷ []) c) (within c) (sym (seen_in_both part (x ∷ []) c) ∙ h)

twice_by : (before : List Cell) (x : Cell) (front back : List Cell) (p b : Bool) → is_seen before x ≡ b → (p ≡ true → is_seen before x ≡ true)
    → new_in (before ++ x ∷ []) front ≡ back
    → new_in before (if p then front else x ∷ front) ≡ (if b then back else x ∷ back)
twice_by before x front back true true e within rest =
    new_alike before (before ++ x ∷ []) front (λ c. sym (seen_again before x c e)) ∙ rest
twice_by before x front back true false e within rest = absurd (false≢true (sym e ∙ within refl))
twice_by before x front back false b e within rest =
    λ i. if e i then rest i else x ∷ rest i

-- leaving out what was seen in a part of what was seen before leaves the same
new_twice : (before part cells : List Cell) → ((c : Cell) → is_seen part c ≡ true → is_seen before c ≡ true)
    → new_in before (new_in part cells) ≡ new_in before cells
new_twice before part [] within = refl
new_twice before part (x ∷ xs) within =
    twice_by before x (new_in (part ++ x ∷ []) xs) (new_in (before ++ x ∷ []) xs) (is_seen part x) (is_seen before x) refl (within x)
    (new_twice (before ++ x ∷ []) (part ++ x ∷ []) xs (more_within before part x within))

seen_by : (before : List Cell) (x c : Cell) (later xs : List Cell) (b : Bool) → is_seen before x ≡ b
    → is_seen ((before ++ x ∷ []) ++ later) c ≡ is_seen ((before ++ x ∷ []) ++ xs) c
    → is_seen (before ++ (if b then later else x ∷ later)) c ≡ is_seen (before ++ x ∷ xs) c
seen_by before x c later xs true e rest =
    seen_in_both before later c
    ∙ ap (λ b. b || is_seen later c) (sym (seen_again before x c e))
    ∙ sym (seen_in_both (before ++ x ∷ []) later c)
    ∙ rest ∙ ap (λ l. is_seen l c) (append_assoc before (x ∷ []) xs)
seen_by before x c later xs false e rest =
    ap (λ l. is_seen l c) (sym (append_assoc before (x ∷ []) later))
    ∙ rest ∙ ap (λ l. is_seen l c) (append_assoc before (x ∷ []) xs)

-- what was seen, and what is new behind it, are all that there is
seen_with_new : (before cells : List Cell) (c : Cell) → is_seen (before ++ new_in before cells) c ≡ is_seen (before ++ cells) c
seen_with_new before [] c = refl
seen_with_new before (x ∷ xs) c =
    seen_by before x c (new_in (before ++ x ∷ []) xs) xs (is_seen before x) refl (seen_with_new (before ++ x ∷ []) xs c)

append_by : (b : Bool) (x : Cell) (whole front back : List Cell) → whole ≡ front ++ back
    → (if b then whole else x ∷ whole) ≡ (if b then front else x ∷ front) ++ back
append_by true x whole front back h = h
append_by false x whole front back h = ap (λ r. x ∷ r) h

-- what is new in two lists, one behind the other
new_append : (before xs ys : List Cell) → new_in before (xs ++ ys) ≡ new_in before xs ++ new_in (before ++ xs) ys
new_append before [] ys = ap (λ b. new_in b ys) (sym (append-nil before))
new_append before (x ∷ xs) ys =
    append_by (is_seen before x) x (new_in (before ++ x ∷ []) (xs ++ ys)) (new_in (before ++ x ∷ []) xs) (new_in (before ++ x ∷ xs) ys)
    (new_append (before ++ x ∷ []) xs ys
    ∙ ap (λ b. new_in (before ++ x ∷ []) xs ++ new_in b ys) (append_assoc before (x ∷ []) xs))

pub firsts_are_of_firsts : FirstsAreOfFirsts
firsts_are_of_firsts cs ds =
    new_append [] (in_first_order cs) (in_first_order ds)
    ∙ ap (λ l. l ++ new_in (in_first_order cs) (in_first_order ds)) (new_twice [] [] cs (λ c h. h))
    ∙ ap (λ r. in_first_order cs ++ r)
    (new_alike (in_first_order cs) cs (in_first_order ds) (seen_with_new [] cs)
    ∙ new_twice cs [] ds (λ c h. absurd (false≢true h)))
    ∙ sym (new_append [] cs ds)
