-- What a print through a page has done.
use Rattle.std.specs.Prelude.{◌≡◌, ◌≤◌, refl, ℕ, List, [], ◌∷◌, ◌++◌, length, take, Option, Some, Result, IfSome, IsSomeAnd, OnOk, OnErr}
use Rattle.std.specs.Option.{option_map}
use Rattle.std.proofs.Common.{lit≤}
use Rattle.chart_io.specs.Outside.{Rose, Appended}

-- what a sink tells that it took, and after it what waits on the page
unfoldable pub printed : Option (List ℕ) → List ℕ → Option (List ℕ)
printed held waiting = option_map (λ bytes. bytes ++ waiting) held

-- what is told now is no shorter than what was told before
abbrev pub Grown : Option (List ℕ) → Option (List ℕ) → Type 0
Grown before now = IfSome before (λ held. IsSomeAnd now (λ all. length held ≤ length all))

-- what is told now is a beginning of what was printed with the text after it
abbrev pub HoldsFront : Option (List ℕ) → Option (List ℕ) → List ℕ → Type 0
HoldsFront so_far now text =
    IfSome so_far (λ front. IsSomeAnd now (λ all. (length all ≤ length (front ++ text)) × (all ≡ take (length all) (front ++ text))))

-- What a call has done whose task is to print a text to a sink by way of a page, by what it answers. The sink's faults and what it
-- tells that it holds are functions of the sink; the sink and the page are given as they were before the call and as they are after it.
pub record Prints {S T E : Type 0} (faults : S → ℕ) (held : S → Option (List ℕ)) (out : S) (page : List ℕ) (out_now : S) (page_now : List ℕ)
    (answer : Result T E) (text : List ℕ) : Type 0 where
  -- the count of faults has not fallen, and rose where the call failed
  pub counted : faults out ≤ faults out_now
  pub cause : OnErr answer (Rose (faults out) (faults out_now))
  -- where it did not fail, all of the text was printed
  pub ok : OnOk answer (Appended (printed (held out) page) (printed (held out_now) page_now) text)
  -- in any case the sink holds no less than before, and nothing but a beginning of what was to be printed
  pub grown : Grown (held out) (held out_now)
  pub front : HoldsFront (printed (held out) page) (held out_now) text

one_byte_went_and_one_waits : printed (Some (1 ∷ 2 ∷ [])) (3 ∷ []) ≡ Some (1 ∷ 2 ∷ 3 ∷ [])
unfolding printed
one_byte_went_and_one_waits = refl

one_byte_of_two : HoldsFront (Some (1 ∷ 2 ∷ [])) (Some (1 ∷ [])) (3 ∷ [])
one_byte_of_two = (lit≤ tt, refl)
