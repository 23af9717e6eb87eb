-- How entries under strings become those of a row.
use Rattle.std.proofs.Common.{◌≡◌, ℕ, T, true, false, Bool, ◌&&◌, List, [], ◌∷◌, map, refl, sym, ap, subst, ◌∙◌}
use Rattle.std.specs.Prelude.{String, string_bytes, string_cmp}
use Rattle.std.specs.declared.alloc.Global.{Global}
use Rattle.std.specs.declared.cmp.Ordering.TheVariants.{Less, Equal, Greater}
use Rattle.std.specs.Ordering.{nat_cmp, is_lt, match_ordering}
use Rattle.std.specs.Cmp.Lexicographic.{slice_cmp, nat_list_cmp_total}
use Rattle.std.specs.List.{AllByRecursion, fold}
use Rattle.std.specs.List.Sorted.{IsStrictlySortedBy}
use Rattle.std.specs.BTreeMap.{insert_entry}
use Rattle.std.specs.FinMap.{is_sorted, put, insert, empty}
use Rattle.std.specs.FinMap.Entries.{below_all, by_order}
use Rattle.cell_value.specs.declared.cell.Cell.{Cell}
use Rattle.cell_value.specs.Row.{Cells}
use Rattle.cell_value.specs.inner.Gather.{named, seen_row}
use Rattle.cell_value.proofs.Place.{from_put, none_seen}

named_put : (es : List (String Global × Cell)) (k : String Global) (v : Cell)
    → map named (insert_entry string_cmp es k v) ≡ put (slice_cmp nat_cmp) (string_bytes k) v (map named es)
named_put [] k v = refl
named_put (e ∷ es) k v =
    elim (string_cmp k e.0) as (λ r. map named (match_ordering r ((k, v) ∷ e ∷ es) ((e.0, v) ∷ es) (e ∷ insert_entry string_cmp es k v))
    ≡ by_order r ((string_bytes k, v) ∷ named e ∷ map named es) ((string_bytes e.0, v) ∷ map named es)
    (named e ∷ put (slice_cmp nat_cmp) (string_bytes k) v (map named es))) [
      | Less ↦ refl
      | Equal ↦ refl
      | Greater ↦ ap (λ l. named e ∷ l) (named_put es k v)
    ]

two : (a b : Bool) → T a → T b → T (a && b)
two true b p q = q
two false b p q = absurd p

named_below : (k : String Global) (es : List (String Global × Cell)) → AllByRecursion (λ y. string_cmp k y ≡ Less) (map (λ e. e.0) es)
    → T (below_all (slice_cmp nat_cmp) (string_bytes k) (map named es))
named_below k [] h = tt
named_below k (e ∷ es) h = two _ _ (subst (λ r. T (is_lt r)) (sym h.0) tt) (named_below k es h.1)

-- keys that rise as strings rise as bytes
pub named_sorted : (es : List (String Global × Cell)) → IsStrictlySortedBy string_cmp (map (λ e. e.0) es)
    → T (is_sorted (slice_cmp nat_cmp) (map named es))
unfolding IsStrictlySortedBy
named_sorted [] h = tt
named_sorted (e ∷ es) h = two _ _ (named_below e.0 es h.0) (named_sorted es h.1)

-- a cell that is put under a string is one that is set in the row
pub named_insert : (es fs : List (String Global × Cell)) (k : String Global) (name : List ℕ) (v : Cell)
    → IsStrictlySortedBy string_cmp (map (λ e. e.0) es)
    → fs ≡ insert_entry string_cmp es k v → string_bytes k ≡ name → seen_row fs ≡ insert (seen_row es) name v
named_insert es fs k name v h e n =
    ap seen_row e ∙ (from_put nat_list_cmp_total (map named es) _ (string_bytes k) v (named_sorted es h) (named_put es k v)).1
    ∙ ap (λ q. insert (seen_row es) q v) n

pub none_seen_yet : (es : List (String Global × Cell)) → es ≡ [] → seen_row es ≡ empty
none_seen_yet es e = ap seen_row e ∙ none_seen (slice_cmp nat_cmp)

-- one more of the entries that are left
pub one_more : (row next : Cells) (name : List ℕ) (c : Cell) (left rest : List (List ℕ × Cell)) (whole : Cells)
    → next ≡ insert row name c → left ≡ (name, c) ∷ rest → fold (λ r e. insert r e.0 e.1) row left ≡ whole
    → fold (λ r e. insert r e.0 e.1) next rest ≡ whole
one_more row next name c left rest whole n l h =
    ap (λ r. fold (λ r e. insert r e.0 e.1) r rest) n ∙ ap (fold (λ r e. insert r e.0 e.1) row) (sym l) ∙ h
