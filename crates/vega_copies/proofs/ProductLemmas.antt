-- How products are put under names, and what levels of them give.
use Rattle.std.proofs.Common.{◌≡◌, ℕ, zero, suc, ◌+◌, ◌<◌, ◌≤◌, min, Bool, true, false, cond, List, [], ◌∷◌, Option, Some, None, map, length, drop, get_or}
use Rattle.std.proofs.Common.{unwrap_or, refl, sym, ap, ◌∙◌, arith}
use Rattle.std.specs.Prelude.{zip}
use Rattle.std.specs.Option.{option_map, option_map_or}
use Rattle.std.specs.Borrow.{Bor}
use Rattle.std.specs.BTreeMap as tree
use Rattle.std.specs.Ordering.{nat_cmp}
use Rattle.std.specs.Cmp.Lexicographic.{slice_cmp}
use Rattle.std.specs.String.{string_cmp, string_bytes}
use Rattle.std.specs.Str.{bytes_eq}
use Rattle.std.proofs.Math.Seq.{drop-nil}
use Rattle.std.proofs.lemmas.List.{drop_more}
use Rattle.std.proofs.lemmas.Map.Text.{btree_map_updates_text}
use Rattle.fixed_num.specs.Ranges.{◌>>=◌}
use Rattle.vega_spec.specs.declared.data.DataSet.{DataSet}
use Rattle.vega_lists.specs.Transforms.{transforms_of}
use Rattle.vega_lists.specs.Products.{Products, no_folds, with_product, begun_product}
use Rattle.vega_copies.specs.Outlines.{Marks}
use Rattle.vega_copies.specs.Fitting.{fitted, products_fitted, with_part_products, folds_fit_in, folds_fit}
use Rattle.vega_copies.specs.inner.Tested.{Places, own_product, products_over, products_at}

either : (b : Bool) (product outer : ℕ) (old : Option ℕ) → unwrap_or (cond b (Some product) old) outer ≡ cond b product (unwrap_or old outer)
either true product outer old = refl
either false product outer old = refl

-- a product put under a name
pub product_put : (bytes name : List ℕ) (old new : Places) (product : ℕ) → bytes ≡ name
    → tree.UpdatesBy string_cmp (λ k. slice_cmp nat_cmp bytes (string_bytes k)) old new (Some product)
    → (outer : Products) → products_over new outer ≡ with_product name product (products_over old outer)
product_put bytes name old new product same h outer = λ i other. at other i
  where
    at : (other : List ℕ) → products_over new outer other ≡ with_product name product (products_over old outer) other
    at other =
        ap (λ o. unwrap_or o (outer other)) (btree_map_updates_text bytes old new (Some product) h other)
        ∙ either (bytes_eq bytes other) product (outer other) (tree.get_by_text old other)
        ∙ ap (λ n. cond (bytes_eq n other) product (products_over old outer other)) same

-- the product that a name has from one level on
pub here_or_more : (levels : List (Bor Places)) (i : ℕ) (level : Bor Places) (name : List ℕ) → i < length levels → level ≡ get_or levels i level
    → products_at (map (λ (level : Bor Places). level.now) (drop i levels)) name
    ≡ unwrap_or (own_product level.now name) (products_at (map (λ (level : Bor Places). level.now) (drop (i + 1) levels)) name)
here_or_more levels i level name within is =
    ap (λ ls. products_at (map (λ (level : Bor Places). level.now) ls) name)
    (drop_more levels i level within ∙ ap (λ l. l ∷ drop (i + 1) levels) (sym is))

-- the pair at a place, and those behind it
pub pairs_from : {X Y : Type 0} (xs : List X) (ys : List Y) (at : ℕ) (x : X) (y : Y) → at < length xs → at < length ys
    → drop at (zip xs ys) ≡ (get_or xs at x, get_or ys at y) ∷ drop (suc at) (zip xs ys)
pairs_from [] ys at x y h k = absurd (omega (arith, h))
pairs_from (a ∷ xs) [] at x y h k = absurd (omega (arith, k))
pairs_from (a ∷ xs) (b ∷ ys) zero x y h k = refl
pairs_from (a ∷ xs) (b ∷ ys) (suc at) x y h k = pairs_from xs ys at x y (omega (arith, h)) (omega (arith, k))

-- behind all pairs is none
pub no_more_pairs : {X Y : Type 0} (xs : List X) (ys : List Y) (n : ℕ) → min (length xs) (length ys) ≤ n → drop n (zip xs ys) ≡ []
no_more_pairs [] ys n h = drop-nil n
no_more_pairs (x ∷ xs) [] n h = drop-nil n
no_more_pairs (x ∷ xs) (y ∷ ys) zero h = absurd (grind (arith, h))
no_more_pairs (x ∷ xs) (y ∷ ys) (suc n) h = no_more_pairs xs ys n (grind (arith, h))

-- before any part is put
pub no_part_yet : (names lists : List (List ℕ)) (n : ℕ) (outer : Products) → n ≡ min (length names) (length lists)
    → outer ≡ with_part_products (drop n (zip names lists)) outer
no_part_yet names lists n outer e = sym (ap (λ pairs. with_part_products pairs outer) (no_more_pairs names lists n (omega (arith, e))))

-- one part more, before those that were put
pub part_put : (names lists : List (List ℕ)) (at next : ℕ) (name list : List ℕ) (old new : Places) (outer : Products)
    → next ≡ suc at → at < length names → at < length lists
    → products_over old outer ≡ with_part_products (drop next (zip names lists)) outer
    → products_over new outer ≡ with_product (get_or names at name) (outer (get_or lists at list)) (products_over old outer)
    → products_over new outer ≡ with_part_products (drop at (zip names lists)) outer
part_put names lists at next name list old new outer after h k rest put =
    put
    ∙ ap (with_product (get_or names at name) (outer (get_or lists at list)))
    (rest ∙ ap (λ n. with_part_products (drop n (zip names lists)) outer) after)
    ∙ sym (ap (λ pairs. with_part_products pairs outer) (pairs_from names lists at name list h k))

-- one data set more
pub set_more : (sets : List DataSet) (i : ℕ) (set : DataSet) (product : ℕ) (now next : Products) (whole : Option Products) → i < length sets
    → set ≡ get_or sets i set → Some product ≡ fitted (begun_product now set) (transforms_of set) → next ≡ with_product set.name product now
    → products_fitted now (drop i sets) ≡ whole → products_fitted next (drop (i + 1) sets) ≡ whole
set_more sets i set product now next whole within is found put rest =
    ap (λ products. products_fitted products (drop (i + 1) sets)) put
    ∙ ap (λ (o : Option ℕ). option_map (λ p. with_product set.name p now) o >>= λ products. products_fitted products (drop (i + 1) sets)) found
    ∙ sym (ap (products_fitted now) (drop_more sets i set within ∙ ap (λ one. one ∷ drop (i + 1) sets) (sym is)))
    ∙ rest

-- whether folds fit, by the products that are found
pub fits_by : (sets given : List DataSet) (marks : Marks) (begun : Places) (found : Option Places) → products_over begun no_folds ≡ no_folds
    → given ≡ sets → option_map (λ own. products_over own no_folds) found ≡ products_fitted (products_over begun no_folds) given
    → option_map_or (λ own. folds_fit_in (products_over own no_folds) marks) found false ≡ folds_fit sets marks
fits_by sets given marks begun found none same e =
    seen found
    ∙ ap (λ (o : Option Products). option_map_or (λ next. folds_fit_in next marks) o false) (e ∙ (λ i. products_fitted (none i) (same i)))
  where
    seen : (found : Option Places) → option_map_or (λ own. folds_fit_in (products_over own no_folds) marks) found false
        ≡ option_map_or (λ next. folds_fit_in next marks) (option_map (λ own. products_over own no_folds) found) false
    seen None = refl
    seen (Some own) = refl
