-- Texts in texts.
use Rattle.std.proofs.Common.{◌≡◌, ◌<◌, ◌+◌, ◌-◌, ℕ, suc, false, List, ◌∷◌, length, drop, take, get_or, length-drop, nat_eq, ◌||◌, sym}
use Rattle.std.proofs.Common.{ap, ◌∙◌, arith}
use Rattle.std.proofs.Math.Seq.{drop-cons, take-length}
use Rattle.std.specs.List.{starts_with}
use Rattle.chart_opening.specs.Schemas.{contains_text}

one_step : (part : List ℕ) (byte : ℕ) (bytes : List ℕ) → starts_with nat_eq (byte ∷ bytes) part ≡ false
    → contains_text part (byte ∷ bytes) ≡ contains_text part bytes
one_step part byte bytes none = ap (λ found. found || contains_text part bytes) none

-- a text that doesn't begin here is looked for behind
pub one_on : (part text : List ℕ) (i : ℕ) → i < length text → starts_with nat_eq (take (length text - i) (drop i text)) part ≡ false
    → contains_text part (drop i text) ≡ contains_text part (drop (i + 1) text)
one_on part text i within none =
    let parts : drop i text ≡ get_or text i 0 ∷ drop (suc i) text = drop-cons text i 0 within in
    let next : suc i ≡ i + 1 = omega arith in
    let whole : take (length text - i) (drop i text) ≡ drop i text =
    ap (λ n. take n (drop i text)) (sym (length-drop i text)) ∙ take-length (drop i text) in
    ap (contains_text part) parts
    ∙ one_step part (get_or text i 0) (drop (suc i) text) (ap (λ t. starts_with nat_eq t part) (sym parts ∙ sym whole) ∙ none)
    ∙ ap (λ n. contains_text part (drop n text)) next
