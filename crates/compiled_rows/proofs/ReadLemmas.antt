-- Data sets that are read one after the other.
use Rattle.std.proofs.Common.{◌≡◌, refl, sym, ap, ◌∙◌, ℕ, ◌≢◌, Bool, true, false, if◌then◌else◌, Option, Some, None, List, [], ◌∷◌, ◌++◌}
use Rattle.std.proofs.Common.{map, All, bytes_eq, cond, find}
use Rattle.std.specs.Option.{option_map_or}
use Rattle.std.proofs.lemmas.List.Elements.{All-head, All-tail}
use Rattle.std.proofs.lemmas.Slice.Eq.{bytes_eq-Decides}
use Rattle.fixed_num.specs.Ranges.{◌>>=◌, all_found}
use Rattle.cell_value.specs.Datum.{Datum}
use Rattle.cell_value.specs.State.{Dataset}
use Rattle.expr_eval.specs.Values.{Values}
use Rattle.vega_spec.specs.declared.data.DataSet.{DataSet}
use Rattle.vega_lists.specs.Lists.{list_of, and_its_list, lists_of}
use Rattle.vega_lists.specs.Scopes.{Scope, with_list, list_named}
use Rattle.chart_meaning.specs.Rows.{rows_named}
use Rattle.compiled_rows.specs.Lists.{with_all}

-- ---- names

pub differ : (a b : List ℕ) → a ≢ b → bytes_eq a b ≡ false
differ a b apart = by (bytes_eq a b) refl
  where
    by : (t : Bool) → bytes_eq a b ≡ t → t ≡ false
    by true e = absurd (apart ((bytes_eq-Decides a b).0 e))
    by false e = refl

-- a list under another name changes nothing at a name
pub elsewhere : (name other : List ℕ) (rows : List Datum) (scope : Scope) → name ≢ other → with_list name rows scope other ≡ scope other
elsewhere name other rows scope apart = ap (λ b. if b then rows else scope other) (differ name other apart)

pub there : (name : List ℕ) (rows : List Datum) (scope : Scope) → with_list name rows scope name ≡ rows
there name rows scope = ap (λ b. if b then rows else scope name) ((bytes_eq-Decides name name).1 refl)

-- ---- sources

-- both sides read the same rows of a source
pub rows_are_listed : (sources : List Dataset) (name : List ℕ) → rows_named sources name ≡ list_named sources name
rows_are_listed [] name = refl
rows_are_listed (s ∷ sources) name = by (bytes_eq s.name name) refl (rows_are_listed sources name)
  where
    by : (b : Bool) → bytes_eq s.name name ≡ b → rows_named sources name ≡ list_named sources name
        → rows_named (s ∷ sources) name ≡ list_named (s ∷ sources) name
    by true e rest =
        ap (λ b. option_map_or (λ (d : Dataset). d.rows) (cond b (Some s) (find (λ (d : Dataset). bytes_eq d.name name) sources)) []) e
        ∙ sym (ap (λ b. if b then s.rows else list_named sources name) e)
    by false e rest =
        ap (λ b. option_map_or (λ (d : Dataset). d.rows) (cond b (Some s) (find (λ (d : Dataset). bytes_eq d.name name) sources)) []) e
        ∙ rest
        ∙ sym (ap (λ b. if b then s.rows else list_named sources name) e)

-- a name that no source has
pub no_source : (sources : List Dataset) (name : List ℕ) → All (λ other. other ≢ name) (map (λ (s : Dataset). s.name) sources)
    → list_named sources name ≡ []
no_source [] name apart = refl
no_source (s ∷ sources) name apart =
    elsewhere s.name name s.rows (list_named sources) (All-head (λ other. other ≢ name) s.name (map (λ (d : Dataset). d.name) sources) apart)
    ∙ no_source sources name (All-tail (λ other. other ≢ name) s.name (map (λ (d : Dataset). d.name) sources) apart)

-- ---- one after the other

pub in_two : (values : Values) (sources : List Dataset) (scope : Scope) (first second : List DataSet)
    → lists_of values sources scope (first ++ second) ≡ (lists_of values sources scope first >>= λ after. lists_of values sources after second)
in_two values sources scope [] second = refl
in_two values sources scope (set ∷ first) second = by (and_its_list values sources scope set) (λ next. in_two values sources next first second)
  where
    by : (o : Option Scope)
        → ((next : Scope) → lists_of values sources next (first ++ second)
        ≡ (lists_of values sources next first >>= λ after. lists_of values sources after second))
        → (o >>= λ next. lists_of values sources next (first ++ second))
        ≡ ((o >>= λ next. lists_of values sources next first) >>= λ after. lists_of values sources after second)
    by None rest = refl
    by (Some next) rest = rest next

-- A data set gives this in every scope that keeps a fact, and with its list the scope still keeps it.
pub record EachGives {U : Type 0} (values : Values) (sources : List Dataset) (set_of : U → DataSet) (rows_of : U → Option (List Datum)) (Keeps : Scope → Type 0)
    (u : U) : Type 0 where
  pub gives : (scope : Scope) → Keeps scope → list_of values sources scope (set_of u) ≡ rows_of u
  pub keeps : (scope : Scope) (rows : List Datum) → Keeps scope → Keeps (with_list (set_of u).name rows scope)

module _ {U : Type 0} (values : Values) (sources : List Dataset) (set_of : U → DataSet) (rows_of : U → Option (List Datum)) (Keeps : Scope → Type 0) where
  abbrev Each : U → Type 0
  Each u = EachGives values sources set_of rows_of Keeps u

  abbrev names_of : List U → List (List ℕ)
  names_of us = map (λ u. (set_of u).name) us

  -- what is read where the first gives this
  read_on : (u : U) (us : List U) (scope : Scope) → Each u
      → ((rows : List Datum) → lists_of values sources (with_list (set_of u).name rows scope) (map set_of us)
      ≡ (all_found (map rows_of us) >>= λ lists. Some (with_all (names_of us) lists (with_list (set_of u).name rows scope))))
      → Keeps scope
      → lists_of values sources scope (map set_of (u ∷ us)) ≡ (all_found (map rows_of (u ∷ us)) >>= λ lists. Some (with_all (names_of (u ∷ us)) lists scope))
  read_on u us scope each others keeps =
      ap (λ o. (o >>= λ rows. Some (with_list (set_of u).name rows scope)) >>= λ next. lists_of values sources next (map set_of us)) (each.gives scope keeps)
      ∙ by (rows_of u)
    where
      at : (rows : List Datum) (found : Option (List (List Datum)))
          → (found >>= λ lists. Some (with_all (names_of us) lists (with_list (set_of u).name rows scope)))
          ≡ ((found >>= λ lists. Some (rows ∷ lists)) >>= λ lists. Some (with_all (names_of (u ∷ us)) lists scope))
      at rows None = refl
      at rows (Some lists) = refl

      by : (o : Option (List Datum))
          → ((o >>= λ rows. Some (with_list (set_of u).name rows scope)) >>= λ next. lists_of values sources next (map set_of us))
          ≡ ((o >>= λ rows. all_found (map rows_of us) >>= λ lists. Some (rows ∷ lists)) >>= λ lists. Some (with_all (names_of (u ∷ us)) lists scope))
      by None = refl
      by (Some rows) = others rows ∙ at rows (all_found (map rows_of us))

  pub all_read : (us : List U) (scope : Scope) → All Each us → Keeps scope
      → lists_of values sources scope (map set_of us) ≡ (all_found (map rows_of us) >>= λ lists. Some (with_all (names_of us) lists scope))
  all_read [] scope each keeps = refl
  all_read (u ∷ us) scope each keeps =
      let first = All-head Each u us each in
      read_on u us scope first (λ rows. all_read us (with_list (set_of u).name rows scope) (All-tail Each u us each) (first.keeps scope rows keeps)) keeps

  -- and the fact is kept behind them
  pub all_keep : (us : List U) (lists : List (List Datum)) (scope : Scope) → All Each us → Keeps scope → Keeps (with_all (names_of us) lists scope)
  all_keep [] lists scope each keeps = keeps
  all_keep (u ∷ us) [] scope each keeps = keeps
  all_keep (u ∷ us) (rows ∷ lists) scope each keeps =
      all_keep us lists (with_list (set_of u).name rows scope) (All-tail Each u us each) ((All-head Each u us each).keeps scope rows keeps)
