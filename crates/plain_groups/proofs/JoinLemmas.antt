-- What is given at the leaders of groups is given of each row's group.
use Rattle.std.proofs.Common.{◌≡◌, ℕ, ◌+◌, ◌<◌, Bool, List, [], ◌∷◌, map, drop, length, get_or, Option, Some, Ok, Err, arith, refl, sym, ap, ap₂, ◌∙◌, subst}
use Rattle.std.specs.Option.{option_map}
use Rattle.std.proofs.lemmas.List.{drop_more, length-drop, length-map, get_or_default, get_or-map}
use Rattle.std.proofs.lemmas.List.Elements.{filter_agree}
use Rattle.fixed_num.specs.Ranges.{◌>>=◌, all_found}
use Rattle.cell_value.specs.declared.cell.Cell.{Cell}
use Rattle.cell_value.specs.declared.state.Keyed.{Keyed}
use Rattle.cell_value.specs.Datum.{cell_at}
use Rattle.expr_eval.specs.declared.error.EvalError.{EvalError}
use Rattle.expr_eval.specs.declared.error.EvalError.TheVariants.{Overflow, Memory}
use Rattle.expr_eval.specs.Answers.{Evaluates}
use Rattle.expr_eval.proofs.Several.{none_behind}
use Rattle.plain_rows.specs.declared.transforms.GroupOf.{GroupOf}
use Rattle.plain_rows.specs.Lookups.{with_cells}
use Rattle.plain_rows.proofs.Lists.{seen_twice}
use Rattle.plain_groups.specs.Groups.{alike, group_of}
use Rattle.plain_groups.specs.GroupRows.{op_cells, join_aggregated}
use Rattle.plain_groups.specs.inner.Places.{key_cells, same_keys, leader_of, leaders, members_from, row_at, rows_at}
use Rattle.plain_groups.specs.inner.GroupPlaces.{head_cells, AreGiven, joined_rows}
use Rattle.plain_groups.proofs.PlaceLemmas.{alike_keys, same_are_equal, passes_there, leads, leads_within}
use Rattle.plain_groups.proofs.MemberLemmas.{group_led}

module _ (g : GroupOf) (rows : List Keyed) (members : List (List ℕ))
    (told : (p : ℕ) → p < length rows → get_or members p [] ≡ members_from p 0 (leaders (map (key_cells g.groupby) rows))) where
  abbrev f : Keyed → List Cell
  f = key_cells g.groupby

  abbrev like : Keyed → Keyed → Bool
  like = alike cell_at g.groupby

  abbrev lead : Keyed → ℕ
  lead x = leader_of (map f rows) (f x)

  seen : leaders (map f rows) ≡ map lead rows
  seen = seen_twice (leader_of (map f rows)) f rows

  -- the leader of a row at a place
  leader_at : (p : ℕ) (y : Keyed) → p < length rows → y ≡ get_or rows p y → get_or (leaders (map f rows)) p 0 ≡ lead y
  leader_at p y below is =
      ap (λ l. get_or l p 0) seen
      ∙ get_or-map lead rows p y 0 below ∙ ap lead (sym is)

  -- what is given over the group of a row that leads itself
  head_group : (p : ℕ) (y : Keyed) → p < length rows → y ≡ get_or rows p y → lead y ≡ p
      → head_cells g.ops rows members p ≡ op_cells cell_at g.ops (group_of cell_at g.groupby rows y)
  head_group p y below is itself =
      ap (op_cells cell_at g.ops)
      (ap (rows_at rows) (told p below ∙ ap (members_from p 0) seen) ∙ group_led f like (alike_keys cell_at g.groupby) rows p y below is itself)

  -- the leader of each row leads itself and has the row's group
  record Leads (x : Keyed) : Type 0 where
    within : lead x < length rows
    itself : get_or (leaders (map f rows)) (lead x) 0 ≡ lead x
    group : head_cells g.ops rows members (lead x) ≡ op_cells cell_at g.ops (group_of cell_at g.groupby rows x)

  leads_group : (i : ℕ) (x : Keyed) → i < length rows → x ≡ get_or rows i x → Leads x
  leads_group i x below is =
      let within : lead x < length rows = subst (λ k. k < length rows) (leads rows i x below is f) (leads_within rows i x below is f) in
      let y : Keyed = get_or rows (lead x) x in
      let at : y ≡ get_or rows (lead x) y = get_or_default rows (lead x) x y within in
      let same : f y ≡ f x =
      same_are_equal (f y) (f x)
      (ap (λ key. same_keys key (f x)) (sym (get_or-map f rows (lead x) x (f x) within))
      ∙ passes_there (λ other. same_keys other (f x)) 0 (length (map f rows)) (lead x) (map f rows) (f x)
      (omega arith) (omega (arith, length-map rows f, within)) (omega arith)) in
      let itself : lead y ≡ lead x = ap (leader_of (map f rows)) same in
      record {
        within = within;
        itself = leader_at (lead x) y within at ∙ itself;
        group = head_group (lead x) y within at itself
            ∙ ap (op_cells cell_at g.ops) (filter_agree (like y) (like x)
            (λ z. sym (alike_keys cell_at g.groupby y z) ∙ ap (λ key. same_keys key (f z)) same ∙ alike_keys cell_at g.groupby x z) rows);
      }

  abbrev joined : Keyed → Option Keyed
  joined row = option_map (with_cells row) (op_cells cell_at g.ops (group_of cell_at g.groupby rows row))

  joined_all : (given : List (List (List ℕ × Cell)))
      → ((p : ℕ) → p < length rows → get_or (leaders (map f rows)) p 0 ≡ p → head_cells g.ops rows members p ≡ Some (get_or given p []))
      → (i : ℕ) (rest : List Keyed) → rest ≡ drop i rows → all_found (map joined rest) ≡ Some (joined_rows given rest (map lead rest))
  joined_all given cells i [] e = refl
  joined_all given cells i (x ∷ rest) e =
      let below : i < length rows = omega (arith, ap length e, length-drop i rows) in
      let parts : x ∷ rest ≡ get_or rows i x ∷ drop (i + 1) rows = e ∙ drop_more rows i x below in
      let is : x ≡ get_or rows i x = cc in
      let others : rest ≡ drop (i + 1) rows = cc in
      let led : Leads x = leads_group i x below is in
      let here : joined x ≡ Some (with_cells x (get_or given (lead x) [])) =
      ap (option_map (with_cells x)) (sym led.group ∙ cells (lead x) led.within led.itself) in
      ap₂ (λ (o : Option Keyed) os. o >>= λ y. os >>= λ ys. Some (y ∷ ys)) here (joined_all given cells (i + 1) rest others)

  pub joined_given : (given : List (List (List ℕ × Cell)))
      → AreGiven g.ops rows (leaders (map f rows)) members (Ok given) → length (leaders (map f rows)) ≡ length rows
      → join_aggregated g rows ≡ Some (joined_rows given rows (leaders (map f rows)))
  joined_given given are long =
      joined_all given (λ p below itself. are.1 p (omega (arith, long, below)) itself) 0 rows refl
      ∙ ap (λ l. Some (joined_rows given rows l)) (sym seen)

  pub stops_given : (e : EvalError) → AreGiven g.ops rows (leaders (map f rows)) members (Err e) → length (leaders (map f rows)) ≡ length rows
      → Evaluates {X = List Keyed} (Err e) (join_aggregated g rows)
  stops_given Overflow (p, within, itself, none) long =
      let below : p < length rows = omega (arith, long, within) in
      let y : Keyed = row_at rows p in
      let at : y ≡ get_or rows p y = get_or_default rows p _ y below in
      none_behind joined rows p y below at
      (ap (option_map (with_cells y)) (sym (head_group p y below at (sym (leader_at p y below at) ∙ itself)) ∙ none))
  stops_given Memory h long = tt
