-- Three rows whose keys rise.
use Rattle.std.proofs.Common.{◌≡◌, ◌≤◌, ℕ, ◌^◌, [], ◌∷◌, inl, lit<, lit≤, subst, sym, arith}
use Rattle.std.proofs.lemmas.List.Kept.{AllPairs-cons}
use Rattle.std.proofs.lemmas.List.Elements.{All-cons, All-nil}
use Rattle.cell_value.specs.declared.state.Key.{Key}
use Rattle.cell_value.specs.declared.state.Keyed.{Keyed}
use Rattle.cell_value.specs.State.{greatest_id}
use Rattle.plain_rows.specs.Rows.{AreRows, AreKeys, IsBefore}

abbrev pub numbered : ℕ → Key
numbered id = record { id = id; branch = 0 }

abbrev last : Key
last = numbered (10 ^ 15)

abbrev IsSmall : Key → Type 0
IsSmall key = key.id ≤ greatest_id

three_keys : AreKeys (numbered 1 ∷ numbered 2 ∷ last ∷ [])
three_keys = record {
  rise =
      AllPairs-cons IsBefore (numbered 1) (numbered 2 ∷ last ∷ [])
      (All-cons (IsBefore (numbered 1)) (numbered 2) (last ∷ []) (inl (lit< tt))
      (All-cons (IsBefore (numbered 1)) last [] (inl (lit< tt)) (All-nil (IsBefore (numbered 1)))))
      (AllPairs-cons IsBefore (numbered 2) (last ∷ [])
      (All-cons (IsBefore (numbered 2)) last [] (inl (lit< tt)) (All-nil (IsBefore (numbered 2))))
      (AllPairs-cons IsBefore last [] (All-nil (IsBefore last)) (λ i j d less within. absurd (omega (arith, within)))));
  small_ids = All-cons IsSmall (numbered 1) (numbered 2 ∷ last ∷ []) (lit≤ tt)
      (All-cons IsSmall (numbered 2) (last ∷ []) (lit≤ tt) (All-cons IsSmall last [] (lit≤ tt) (All-nil IsSmall)));
  few = lit≤ tt;
}

pub three_are_rows : (a b c : Keyed) → a.key ≡ numbered 1 → b.key ≡ numbered 2 → c.key ≡ numbered (10 ^ 15) → AreRows (a ∷ b ∷ c ∷ [])
three_are_rows a b c p q r =
    let same : a.key ∷ b.key ∷ c.key ∷ [] ≡ numbered 1 ∷ numbered 2 ∷ last ∷ [] = λ i. p i ∷ q i ∷ r i ∷ [] in
    subst AreKeys (sym same) three_keys
