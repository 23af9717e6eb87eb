-- Where a line has one reply, one note and one state after it, so do lines.
use Rattle.std.proofs.Common.{◌≡◌, ℕ, suc, zero, ◌≤◌, ◌<◌, List, [], ◌∷◌, ◌++◌, length, take, refl, sym, subst, ◌∙◌, append_assoc, arith}
use Rattle.std.proofs.lemmas.Bool.{true≢false}
use Rattle.param_flow.specs.Script.{most_line_bytes, IsLine, IsOutput, silent, too_long, replied, no_line, one_line}

too_short : (n m : ℕ) → n < m → m ≤ n → ⊥
too_short n m long short = omega arith

module _ {S : Type 0} (Replies : S → ℕ → List ℕ → List ℕ → List ℕ → S → Type 0)
    (one : (st now later : S) (n : ℕ) (line reply other note another : List ℕ)
    → Replies st n line reply note now → Replies st n line other another later → (reply ≡ other) × (note ≡ another) × (now ≡ later)) where
  any_line : (st now later : S) (n : ℕ) (line reply other note another : List ℕ)
      → IsLine Replies st n line reply note now → IsLine Replies st n line other another later
      → (reply ≡ other) × (note ≡ another) × (now ≡ later)
  any_line st now later n line reply other note another (silent s m l quiet) (silent s' m' l' quiet') = (refl, refl, refl)
  any_line st now later n line reply other note another (silent s m l quiet) (too_long s' m' l' loud long) =
      absurd (true≢false (sym quiet ∙ loud))
  any_line st now later n line reply other note another (silent s m l quiet) (replied s' t' m' l' r' k' loud short is) =
      absurd (true≢false (sym quiet ∙ loud))
  any_line st now later n line reply other note another (too_long s m l loud long) (silent s' m' l' quiet) =
      absurd (true≢false (sym quiet ∙ loud))
  any_line st now later n line reply other note another (too_long s m l loud long) (too_long s' m' l' loud' long') = (refl, refl, refl)
  any_line st now later n line reply other note another (too_long s m l loud long) (replied s' t' m' l' r' k' loud' short is) =
      absurd (too_short most_line_bytes (length line) long short)
  any_line st now later n line reply other note another (replied s t m l r k loud short is) (silent s' m' l' quiet) =
      absurd (true≢false (sym quiet ∙ loud))
  any_line st now later n line reply other note another (replied s t m l r k loud short is) (too_long s' m' l' loud' long) =
      absurd (too_short most_line_bytes (length line) long short)
  any_line st now later n line reply other note another (replied s t m l r k loud short is) (replied s' t' m' l' r' k' loud' short' is') =
      one st now later n line reply other note another is is'

  pub one_output : (st now later : S) (n : ℕ) (lines : List (List ℕ)) (out other notes others : List ℕ)
      → IsOutput Replies st n lines out notes now → IsOutput Replies st n lines other others later
      → (out ≡ other) × (notes ≡ others) × (now ≡ later)
  one_output st now later n [] out other notes others (no_line s m) (no_line s' m') = (refl, refl, refl)
  one_output st now later n (line ∷ lines) out other notes others (one_line s next t m l a x rest ys ls r o)
      (one_line s' next' t' m' l' b z rest' zs ls' r' o') =
      let e = any_line st next next' n line a b x z r r' in
      let at : S → Type 0 = λ x. IsOutput Replies x (suc n) lines rest' zs later in
      let same = one_output next now later (suc n) lines rest rest' ys zs o (subst at (sym e.2) o') in
      ((λ i. e.0 i ++ same.0 i), (λ i. e.1 i ++ same.1 i), same.2)

  joined : (a b rest out part : List ℕ) → a ≡ b → out ≡ part ++ rest → a ++ out ≡ (b ++ part) ++ rest
  joined a b rest out part e same = (λ i. e i ++ same i) ∙ sym (append_assoc b part rest)

  -- the output of the first lines begins the output of them all
  pub begins : (st mid now : S) (n k : ℕ) (lines : List (List ℕ)) (out part notes part_notes : List ℕ)
      → IsOutput Replies st n lines out notes now → IsOutput Replies st n (take k lines) part part_notes mid
      → (rest : List ℕ) × (out ≡ part ++ rest)
  begins st mid now n zero lines out part notes part_notes whole (no_line s m) = (out, refl)
  begins st mid now n (suc k) [] out part notes part_notes whole (no_line s m) = (out, refl)
  begins st mid now n (suc k) (line ∷ lines) out part notes part_notes (one_line s next t m l a x rest ys ls r o)
      (one_line s' next' t' m' l' b z rest' zs ls' r' o') =
      let e = any_line st next next' n line a b x z r r' in
      let at : S → Type 0 = λ x. IsOutput Replies x (suc n) (take k lines) rest' zs mid in
      let more = begins next mid now (suc n) k lines rest rest' ys zs o (subst at (sym e.2) o') in
      (more.0, joined a b more.0 rest rest' e.0 more.1)
