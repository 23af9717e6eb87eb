-- Forms as the code looks them up. No public clause cites this.
use Rattle.std.specs.Prelude.{ℕ, ◌==◌, nat_le, Bool, true, List, length, ◌≡◌, find, filter, codes, Option}
use Rattle.std.specs.List.{list_all}
use Rattle.time_calc.specs.Forms.{fits}

-- the first of some forms that a text has
unfoldable pub first_fit : List (List ℕ) → List ℕ → Option (List ℕ)
first_fit forms text = find (λ form. fits form text) forms

-- the letters whose numbers are read
abbrev pub read_letters : List ℕ
read_letters = codes "YMDhmsijkpquv"

-- no letter whose number is read stands for more than four digits
unfoldable pub is_short : List ℕ → Bool
is_short form = list_all (λ letter. nat_le (length (filter (λ f. f == letter) form)) 4) read_letters

-- all of some forms are short
unfoldable pub are_short : List (List ℕ) → Bool
are_short forms = list_all is_short forms

-- a form that a text has
pub record IsFormOf (text form : List ℕ) : Type 0 where
  pub same_length : length form ≡ length text
  pub has : fits form text ≡ true
  pub short : is_short form ≡ true
