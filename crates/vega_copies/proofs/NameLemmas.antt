-- What levels of names stand for.
use Rattle.std.proofs.Common.{◌≡◌, ℕ, Bool, true, false, cond, ◌||◌, Option, Some, None, List, [], ◌∷◌, map, refl, sym, ap, ◌∙◌, subst}
use Rattle.std.specs.Prelude.{is_none, unwrap_or, ◌<◌, ◌+◌, length, Result, Ok, Err, drop, get_or}
use Rattle.std.specs.List.{list_any}
use Rattle.std.proofs.lemmas.List.{drop_more}
use Rattle.std.proofs.lemmas.List.Elements.{All-head, All-tail}
use Rattle.std.specs.Option.{option_map, option_or, option_map_or}
use Rattle.std.specs.Str.{bytes_eq}
use Rattle.std.specs.Borrow.{Bor}
use Rattle.cell_value.specs.declared.cell.Cell.{Cell}
use Rattle.cell_value.specs.declared.cell.Cell.TheVariants.{Null}
use Rattle.cell_value.specs.Datum.{CellAt}
use Rattle.cell_value.specs.declared.state.Keyed.{Keyed}
use Rattle.cell_value.specs.declared.state.Named.{Named}
use Rattle.cell_value.specs.declared.state.StoreOf.{StoreOf}
use Rattle.vega_lists.specs.declared.held.Lists.{Lists}
use Rattle.vega_lists.specs.Inside.{RowsByName, rows_held, GivesInside}
use Rattle.cell_value.specs.State.{dataset_of}
use Rattle.expr_eval.specs.Answers.{Evaluates, RisesBy}
use Rattle.expr_eval.specs.declared.error.EvalError.{EvalError}
use Rattle.expr_eval.specs.declared.error.EvalError.TheVariants.{Overflow, Memory}
use Rattle.expr_eval.specs.Stores.{values_of_stores}
use Rattle.plain_rows.specs.Rows.{AreRows}
use Rattle.vega_lists.specs.Held.{AreAllRows, scope_read}
use Rattle.vega_lists.specs.Scopes.{Scope}
use Rattle.vega_lists.specs.Lists.{lists_of}
use Rattle.vega_signals.specs.Extents.{Settled}
use Rattle.vega_signals.specs.Lacking.{lacks, set_lacks}
use Rattle.vega_signals.specs.Settling.{first_named, is_own, Valued, settled_own, values_inside}
use Rattle.vega_copies.specs.Outlines.{Object}
use Rattle.vega_copies.specs.Scopes.{Names, names_with}
use Rattle.vega_copies.specs.declared.names.NamesAt.{NamesAt}
use Rattle.vega_copies.specs.declared.names.Level.{Level}
use Rattle.vega_copies.specs.inner.Levels.{part_named, parts_over, rows_here, rows_at, values_at, names_over, names_with_lists, names_with_parts, AreParts}
use Rattle.vega_copies.specs.inner.Results.{result_map}

-- the rows of a part, or those round it
pub part_found : (parts : List Named) (rows : RowsByName) (name : List ℕ)
    → parts_over parts rows name ≡ option_map_or (λ (part : Named). part.rows) (part_named parts name) (rows name)
part_found [] rows name = refl
part_found (part ∷ others) rows name = here (bytes_eq part.name name) (part_named others name) (part_found others rows name)
  where
    here : (b : Bool) (o : Option Named) {found : List Keyed} → found ≡ option_map_or (λ (part : Named). part.rows) o (rows name)
        → cond b part.rows found ≡ option_map_or (λ (part : Named). part.rows) (cond b (Some part) o) (rows name)
    here true o e = refl
    here false o e = e

-- the rows that a level has under a name itself, or those round it
pub here_or_outside : (sources : List Named) (level : Bor Level) (outer : List (Bor Level)) (name : List ℕ)
    → rows_at sources (level ∷ outer) name ≡ unwrap_or (rows_here sources level.now name) (rows_at sources outer name)
here_or_outside sources level outer name =
    ap (unwrap_or (rows_held sources level.now.lists name)) (part_found level.now.parts (rows_at sources outer) name)
    ∙ both (rows_held sources level.now.lists name) (part_named level.now.parts name)
  where
    both : (a : Option (List Keyed)) (b : Option Named)
        → unwrap_or a (option_map_or (λ (part : Named). part.rows) b (rows_at sources outer name))
        ≡ unwrap_or (option_or a (option_map (λ (part : Named). part.rows) b)) (rows_at sources outer name)
    both None None = refl
    both None (Some b) = refl
    both (Some a) b = refl

-- ---- what is read of stores where these are the levels

-- whether one of some levels has a signal of the name
abbrev pub is_own_in : List ℕ → List (Bor Level) → Bool
is_own_in name levels = list_any (λ (level : Bor Level). is_own level.now.signals name) levels

module _ (stores : List StoreOf) where
  -- a signal of a level hides the ends of a selection
  pub member_at : (levels : List (Bor Level)) (name field : List ℕ)
      → cond (is_own_in name levels) Null ((values_of_stores stores).member name field) ≡ (values_at stores levels).member name field
  member_at [] name field = refl
  member_at (level ∷ outer) name field = here (is_own level.now.signals name) (is_own_in name outer) (member_at outer name field)
    where
      here : (own more : Bool) → cond more Null ((values_of_stores stores).member name field) ≡ (values_at stores outer).member name field
          → cond (own || more) Null ((values_of_stores stores).member name field) ≡ cond own Null ((values_at stores outer).member name field)
      here true more e = refl
      here false more e = e

  pub hidden_member : (levels : List (Bor Level)) (name field : List ℕ) → is_own_in name levels ≡ true → Null ≡ (values_at stores levels).member name field
  hidden_member levels name field own =
      sym (ap (λ b. cond b Null ((values_of_stores stores).member name field)) own) ∙ member_at levels name field

  pub outer_member : (levels : List (Bor Level)) (name field : List ℕ) → is_own_in name levels ≡ false
      → (values_of_stores stores).member name field ≡ (values_at stores levels).member name field
  outer_member levels name field own =
      sym (ap (λ b. cond b Null ((values_of_stores stores).member name field)) own) ∙ member_at levels name field

  -- all else is read as it is of the stores
  pub stored_at : (levels : List (Bor Level)) (store : List ℕ) → (values_of_stores stores).stored store ≡ (values_at stores levels).stored store
  stored_at [] store = refl
  stored_at (level ∷ outer) store = stored_at outer store

  pub selects_at : (levels : List (Bor Level)) (store : List ℕ) (row : CellAt)
      → (values_of_stores stores).selects store row ≡ (values_at stores levels).selects store row
  selects_at [] store row = refl
  selects_at (level ∷ outer) store row = selects_at outer store row

  pub fields_at : (levels : List (Bor Level)) (store : List ℕ) → (values_of_stores stores).fields store ≡ (values_at stores levels).fields store
  fields_at [] store = refl
  fields_at (level ∷ outer) store = fields_at outer store

  -- as many steps as a store has fields, at most
  pub few_steps_at : (levels : List (Bor Level)) (store : List ℕ) (old new : ℕ) → RisesBy (length ((values_of_stores stores).fields store)) old new
      → RisesBy (length ((values_at stores levels).fields store)) old new
  few_steps_at levels store old new few = subst (λ fields. RisesBy (length fields) old new) (fields_at levels store) few

  pub no_length : (levels : List (Bor Level)) (scale : List ℕ) → 0 ≡ (values_at stores levels).domain_length scale
  no_length [] scale = refl
  no_length (level ∷ outer) scale = no_length outer scale

  -- the values of signals are the same as without stores
  values_the_same : (levels : List (Bor Level)) (name : List ℕ) → (values_at [] levels).value name ≡ (values_at stores levels).value name
  values_the_same [] name = refl
  values_the_same (level ∷ outer) name =
      ap (option_map_or (λ (entry : List ℕ × Option Cell). entry.1) (first_named level.now.signals name)) (values_the_same outer name)

  pub lacks_the_same : (levels : List (Bor Level)) (name : List ℕ) → lacks (values_at stores levels) name ≡ lacks (values_at [] levels) name
  lacks_the_same levels name = sym (ap is_none (values_the_same levels name))

-- the rows for which a name stands from one level on
pub here_or_more : (sources : List Named) (levels : List (Bor Level)) (i : ℕ) (level : Bor Level) (name : List ℕ) → i < length levels
    → level ≡ get_or levels i level
    → rows_at sources (drop i levels) name ≡ unwrap_or (rows_here sources level.now name) (rows_at sources (drop (i + 1) levels) name)
here_or_more sources levels i level name below is =
    ap (λ ls. rows_at sources ls name) (drop_more levels i level below)
    ∙ ap (λ l. rows_at sources (l ∷ drop (i + 1) levels) name) (sym is)
    ∙ here_or_outside sources level (drop (i + 1) levels) name

-- parts over lists of rows are lists of rows
pub parts_are_rows : (parts : List Named) (rows : RowsByName) → AreParts parts → AreAllRows rows → AreAllRows (parts_over parts rows)
parts_are_rows [] rows each round name = round name
parts_are_rows (part ∷ others) rows each round name =
    here (bytes_eq part.name name) part.rows (parts_over others rows name) (All-head (λ (p : Named). AreRows p.rows) part others each)
    (parts_are_rows others rows (All-tail (λ (p : Named). AreRows p.rows) part others each) round name)
  where
    here : (b : Bool) (own outside : List Keyed) → AreRows own → AreRows outside → AreRows (cond b own outside)
    here true own outside x y = x
    here false own outside x y = y

-- the names of an object in others, by the values of its own signals
module _ (outer : NamesAt) (parts : List Named) (o : Object) (own : Settled) where
  abbrev pub read_as : Scope → Names
  read_as lists = record { lists = lists; values = values_inside own (values_at outer.stores.now outer.levels.now) }

  abbrev pub lists_found : Option Scope
  lists_found =
      lists_of (values_inside own (values_at outer.stores.now outer.levels.now)) (map dataset_of outer.sources.now)
      (scope_read (parts_over parts (rows_at outer.sources.now outer.levels.now))) o.sets

  -- by whether a data set mentions a signal without value
  pub names_by : (found : Bool) → found ≡ list_any (set_lacks (values_inside own (values_at outer.stores.now outer.levels.now))) o.sets
      → names_with (map dataset_of outer.sources.now) (names_over outer parts) o own ≡ cond found None (option_map read_as lists_found)
  names_by found any = ap (λ b. cond b None (option_map read_as lists_found)) (sym any)

  -- by the lists that its data sets give
  pub names_listed : (result : Result Lists EvalError)
      → GivesInside outer.sources.now (parts_over parts (rows_at outer.sources.now outer.levels.now)) result lists_found
      → Evaluates (result_map (names_with_lists outer parts own) result) (option_map read_as lists_found)
  names_listed (Ok lists) given = ap (option_map read_as) given
  names_listed (Err Overflow) none = ap (option_map read_as) none
  names_listed (Err Memory) none = tt

  -- where the signals are settled
  pub names_settled : (given : Valued)
      → own ≡ settled_own (map dataset_of outer.sources.now) (scope_read (parts_over parts (rows_at outer.sources.now outer.levels.now)))
      (values_at outer.stores.now outer.levels.now) given o.signals o.sets
      → names_with_parts outer parts o given ≡ names_with (map dataset_of outer.sources.now) (names_over outer parts) o own
  names_settled given settled = ap (names_with (map dataset_of outer.sources.now) (names_over outer parts) o) (sym settled)
