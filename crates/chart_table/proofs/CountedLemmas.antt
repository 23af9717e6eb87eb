-- Why rows whose ids count from 1 are rows of a source.
use Rattle.std.proofs.Common.{◌≡◌, ℕ, ◌+◌, ◌<◌, ◌≤◌, ◌^◌, ◌⊎◌, inl, inr, List, [], ◌∷◌, ◌++◌, length, get_or, subst, sym, ap, ◌∙◌, refl, arith}
use Rattle.std.proofs.Common.{length-append}
use Rattle.std.proofs.Math.Nat.{eq-or-lt_of_le}
use Rattle.std.proofs.lemmas.List.{length-map, get_or_append_left, get_or_push}
use Rattle.std.proofs.lemmas.List.Elements.{All-nil, All-push, All-weaker}
use Rattle.cell_value.specs.declared.state.Key.{Key}
use Rattle.cell_value.specs.declared.state.Keyed.{Keyed}
use Rattle.cell_value.specs.declared.state.Named.{Named}
use Rattle.cell_value.specs.State.{greatest_id}
use Rattle.plain_rows.specs.Rows.{AreKeys, AreRows, IsBefore, keys_of}
use Rattle.vega_lists.specs.Products.{KeysFit}
use Rattle.vega_lists.specs.Held.{AreSources}
use Rattle.chart_table.specs.Counted.{AreCounted, AreAllCounted}

abbrev counted : ℕ → Key
counted i = record { id = i + 1; branch = 0 }

abbrev AreKeysCounted : List Key → ℕ → Type 0
AreKeysCounted keys n = (i : ℕ) (d : Key) → i < n → get_or keys i d ≡ counted i

as_many : (rows : List Keyed) → length (keys_of rows) ≡ length rows
as_many rows = length-map rows (λ (keyed : Keyed). keyed.key)

pub none : AreCounted []
none = record { few = omega arith; keys = λ i d within. absurd (omega (arith, within)) }

at_more : (keys : List Key) (key : Key) (n : ℕ) → length keys ≡ n → key ≡ counted n → AreKeysCounted keys n
    → (i : ℕ) (d : Key) → (i ≡ n) ⊎ (i < n) → get_or (keys ++ key ∷ []) i d ≡ counted i
at_more keys key n long last so i d (inl e) = get_or_push keys key d i (long ∙ sym e) ∙ last ∙ ap counted (sym e)
at_more keys key n long last so i d (inr less) = get_or_append_left keys (key ∷ []) d i (omega (arith, long, less)) ∙ so i d less

keys_of_more : (rows : List Keyed) (row : Keyed) → keys_of (rows ++ row ∷ []) ≡ keys_of rows ++ row.key ∷ []
keys_of_more [] row = refl
keys_of_more (first ∷ rows) row = ap (λ (keys : List Key). first.key ∷ keys) (keys_of_more rows row)

pub one_more : (rows new : List Keyed) (row : Keyed) → AreCounted rows → length rows < 2 ^ 16 → row.key ≡ counted (length rows) → new ≡ rows ++ row ∷ []
    → AreCounted new
one_more rows new row so few key e =
    let long : length (rows ++ row ∷ []) ≡ length rows + 1 = length-append rows (row ∷ []) in
    let all : AreCounted (rows ++ row ∷ []) = record {
      few = omega (arith, long, few);
      keys = λ i d within.
          let here = at_more (keys_of rows) row.key (length rows) (as_many rows) key so.keys i d (eq-or-lt_of_le (omega (arith, long, within))) in
          subst (λ (keys : List Key). get_or keys i d ≡ counted i) (sym (keys_of_more rows row)) here;
    } in
    subst AreCounted (sym e) all

pub one_source_more : (sources new : List Named) (name : List ℕ) (rows : List Keyed) → AreAllCounted sources → AreCounted rows
    → new ≡ sources ++ record { name = name; rows = rows } ∷ [] → AreAllCounted new
one_source_more sources new name rows all so e =
    subst AreAllCounted (sym e) (All-push (λ (source : Named). AreCounted source.rows) sources (record { name = name; rows = rows }) all so)

pub none_yet : AreAllCounted []
none_yet = All-nil (λ (source : Named). AreCounted source.rows)

are_keys : (rows : List Keyed) → AreCounted rows → AreKeys (keys_of rows)
are_keys rows so = record {
  rise = λ i j d less within.
      let later = so.keys j d (omega (arith, as_many rows, within)) in
      let earlier = so.keys i d (omega (arith, as_many rows, within, less)) in
      let before : IsBefore (counted i) (counted j) = inl (omega (arith, less)) in
      subst (IsBefore (get_or (keys_of rows) i d)) (sym later) (subst (λ (key : Key). IsBefore key (counted j)) (sym earlier) before);
  small_ids = λ i d within.
      subst (λ (key : Key). key.id ≤ greatest_id) (sym (so.keys i d (omega (arith, as_many rows, within)))) (omega (arith, as_many rows, within, so.few));
  few = omega (arith, as_many rows, so.few);
}

keys_fit : (rows : List Keyed) → AreCounted rows → KeysFit 1 (keys_of rows)
keys_fit rows so = record {
  few = omega (arith, as_many rows, so.few);
  branches = λ i d within.
      subst (λ (key : Key). key.branch < 1) (sym (so.keys i d (omega (arith, as_many rows, within)))) (omega arith);
}

pub are_sources : (sources : List Named) → AreAllCounted sources → AreSources sources
are_sources sources all =
    All-weaker (λ (source : Named). AreCounted source.rows) (λ (source : Named). AreRows source.rows × KeysFit 1 (keys_of source.rows))
    (λ source so. (are_keys source.rows so, keys_fit source.rows so)) sources all
