-- The call that tokens are is the one whose tokens they are.
use Rattle.std.proofs.Common.{◌≡◌, ◌⊎◌, ℕ, Bool, true, false, List, [], ◌∷◌, ◌++◌, Option, Some, None, inl, inr, refl, sym, ap, subst, ◌∙◌}
use Rattle.std.specs.Prelude.{fold, if◌then◌else◌, Result, Ok, Err, IfOk, IfSome}
use Rattle.std.specs.Option.{option_map}
use Rattle.std.proofs.Common.{◌+◌, ◌<◌, ◌≤◌, length, get_or, drop, append_assoc, append-nil}
use Rattle.std.proofs.lemmas.List.{drop_more, drop_all}
use Rattle.expr_syntax.specs.declared.calls.Place.{Place}
use Rattle.expr_syntax.specs.declared.calls.Place.TheVariants.{Named, Opened, Spelled, Parted, Closed, Nowhere}
use Rattle.expr_syntax.specs.declared.calls.TextCall.{TextCall}
use Rattle.expr_syntax.specs.declared.token.Token.{Token}
use Rattle.expr_syntax.specs.declared.token.Token.TheVariants.{Name, Number, Quoted, Mark}
use Rattle.expr_syntax.specs.declared.token.Mark.{Mark as AnyMark}
use Rattle.expr_syntax.specs.declared.token.Mark.TheVariants as mark
use Rattle.expr_syntax.specs.Tokens.{HasTokens}
use Rattle.expr_syntax.specs.Calls.{after_commas, argument_tokens, call_tokens, SpellsCall}
use Rattle.expr_syntax.specs.inner.Parser.{is}
use Rattle.expr_syntax.specs.inner.Calls.{place_after, place_after_text, place_after_mark, is_closed, name_called, texts_in, call_in}
use Rattle.expr_syntax.proofs.Grounds.{is_true}
use Rattle.expr_syntax.proofs.TokenLemmas.{one_list}

-- ---- what leads to the end of a call is one

-- nothing leads back
nowhere_closed : (tokens : List Token) → is_closed (fold place_after Nowhere tokens) ≡ true → ⊥
unfolding place_after place_after_text place_after_mark
nowhere_closed [] e = cc
nowhere_closed (Name name ∷ rest) e = nowhere_closed rest e
nowhere_closed (Number m ∷ rest) e = nowhere_closed rest e
nowhere_closed (Quoted text ∷ rest) e = nowhere_closed rest e
nowhere_closed (Mark m ∷ rest) e = nowhere_closed rest e

-- nothing follows `)`
closed_ends : (tokens : List Token) → is_closed (fold place_after Closed tokens) ≡ true → tokens ≡ []
unfolding place_after place_after_text place_after_mark
closed_ends [] e = refl
closed_ends (Name name ∷ rest) e = absurd (nowhere_closed rest e)
closed_ends (Number m ∷ rest) e = absurd (nowhere_closed rest e)
closed_ends (Quoted text ∷ rest) e = absurd (nowhere_closed rest e)
closed_ends (Mark m ∷ rest) e = absurd (nowhere_closed rest e)

-- a place that a test chooses
if_closed : (b : Bool) (p q : Place) (tokens : List Token) → is_closed (fold place_after (if b then p else q) tokens) ≡ true
    → ((b ≡ true) × (is_closed (fold place_after p tokens) ≡ true)) ⊎ ((b ≡ false) × (is_closed (fold place_after q tokens) ≡ true))
if_closed true p q tokens e = inl (refl, e)
if_closed false p q tokens e = inr (refl, e)

-- `)` stands at the end
end_is : (m : AnyMark) (rest : List Token) → is m mark.Close ≡ true → is_closed (fold place_after Closed rest) ≡ true
    → (Mark m ≡ Mark mark.Close) × (rest ≡ [])
end_is m rest same e = (ap (λ (t : AnyMark). Mark t) (is_true m mark.Close same), closed_ends rest e)

-- tokens of which the first is a mark, and nothing follows
with_end : (m : AnyMark) (rest : List Token) → (Mark m ≡ Mark mark.Close) × (rest ≡ [])
    → Mark m ∷ rest ≡ after_commas (texts_in rest) ++ Mark mark.Close ∷ []
unfolding texts_in
with_end m rest end =
    let at : List Token → Type 0 = λ ts. Mark m ∷ ts ≡ after_commas (texts_in ts) ++ Mark mark.Close ∷ [] in
    subst at (sym end.1) (ap (λ (t : Token). t ∷ []) end.0)

with_end_opened : (m : AnyMark) (rest : List Token) → (Mark m ≡ Mark mark.Close) × (rest ≡ [])
    → Mark m ∷ rest ≡ argument_tokens (texts_in rest) ++ Mark mark.Close ∷ []
unfolding texts_in
with_end_opened m rest end =
    let at : List Token → Type 0 = λ ts. Mark m ∷ ts ≡ argument_tokens (texts_in ts) ++ Mark mark.Close ∷ [] in
    subst at (sym end.1) (ap (λ (t : Token). t ∷ []) end.0)

-- another mark first
with_mark : (m n : AnyMark) (rest others : List Token) → is m n ≡ true → Mark n ∷ rest ≡ others → Mark m ∷ rest ≡ others
with_mark m n rest others same e = ap (λ (t : AnyMark). Mark t ∷ rest) (is_true m n same) ∙ e

mutual
  unfolding place_after place_after_text place_after_mark texts_in

  -- after a text
  spelled_is : (tokens : List Token) → is_closed (fold place_after Spelled tokens) ≡ true
      → tokens ≡ after_commas (texts_in tokens) ++ Mark mark.Close ∷ []
  spelled_is [] e = absurd cc
  spelled_is (Name name ∷ rest) e = absurd (nowhere_closed rest e)
  spelled_is (Number m ∷ rest) e = absurd (nowhere_closed rest e)
  spelled_is (Quoted text ∷ rest) e = absurd (nowhere_closed rest e)
  spelled_is (Mark m ∷ rest) e =
      elim (if_closed (is m mark.Comma) Parted (if is m mark.Close then Closed else Nowhere) rest e) [
        | inl a ↦ with_mark m mark.Comma rest _ a.0 (parted_is rest a.1)
        | inr b ↦ elim (if_closed (is m mark.Close) Closed Nowhere rest b.1) [
          | inl c ↦ with_end m rest (end_is m rest c.0 c.1)
          | inr d ↦ absurd (nowhere_closed rest d.1)
        ]
      ]

  -- after `,`
  parted_is : (tokens : List Token) → is_closed (fold place_after Parted tokens) ≡ true
      → Mark mark.Comma ∷ tokens ≡ after_commas (texts_in tokens) ++ Mark mark.Close ∷ []
  parted_is [] e = absurd cc
  parted_is (Name name ∷ rest) e = absurd (nowhere_closed rest e)
  parted_is (Number m ∷ rest) e = absurd (nowhere_closed rest e)
  parted_is (Mark m ∷ rest) e = absurd (nowhere_closed rest e)
  parted_is (Quoted text ∷ rest) e = ap (λ (ts : List Token). Mark mark.Comma ∷ Quoted text ∷ ts) (spelled_is rest e)

-- after `(`
opened_is : (tokens : List Token) → is_closed (fold place_after Opened tokens) ≡ true
    → tokens ≡ argument_tokens (texts_in tokens) ++ Mark mark.Close ∷ []
unfolding place_after place_after_text place_after_mark texts_in
opened_is [] e = absurd cc
opened_is (Name name ∷ rest) e = absurd (nowhere_closed rest e)
opened_is (Number m ∷ rest) e = absurd (nowhere_closed rest e)
opened_is (Quoted text ∷ rest) e = ap (λ (ts : List Token). Quoted text ∷ ts) (spelled_is rest e)
opened_is (Mark m ∷ rest) e =
    elim (if_closed (is m mark.Close) Closed Nowhere rest e) [
      | inl c ↦ with_end_opened m rest (end_is m rest c.0 c.1)
      | inr d ↦ absurd (nowhere_closed rest d.1)
    ]

-- after the name
named_is : (tokens : List Token) → is_closed (fold place_after Named tokens) ≡ true
    → tokens ≡ Mark mark.Open ∷ argument_tokens (texts_in tokens) ++ Mark mark.Close ∷ []
unfolding place_after place_after_text place_after_mark texts_in
named_is [] e = absurd cc
named_is (Name name ∷ rest) e = absurd (nowhere_closed rest e)
named_is (Number m ∷ rest) e = absurd (nowhere_closed rest e)
named_is (Quoted text ∷ rest) e = absurd (nowhere_closed rest e)
named_is (Mark m ∷ rest) e =
    elim (if_closed (is m mark.Open) Opened Nowhere rest e) [
      | inl c ↦ with_mark m mark.Open rest _ c.0 (ap (λ (ts : List Token). Mark mark.Open ∷ ts) (opened_is rest c.1))
      | inr d ↦ absurd (nowhere_closed rest d.1)
    ]

if_call : (b : Bool) (name : List ℕ) (rest : List Token) (call : TextCall)
    → option_map (λ (n : List ℕ). record { name = n; arguments = texts_in (Name name ∷ rest) }) (if b then Some name else None) ≡ Some call
    → (b ≡ true) × (record { name = name; arguments = texts_in rest } ≡ call)
unfolding texts_in
if_call true name rest call e = (refl, cc)
if_call false name rest call e = absurd cc

pub call_sound : (tokens : List Token) (call : TextCall) → call_in tokens ≡ Some call → tokens ≡ call_tokens call
unfolding call_in name_called
call_sound [] call e = absurd cc
call_sound (Number m ∷ rest) call e = absurd cc
call_sound (Quoted text ∷ rest) call e = absurd cc
call_sound (Mark m ∷ rest) call e = absurd cc
call_sound (Name name ∷ rest) call e =
    let found = if_call (is_closed (fold place_after Named rest)) name rest call e in
    ap (λ (ts : List Token). Name name ∷ ts) (named_is rest found.0) ∙ ap call_tokens found.1

-- ---- the tokens of a call lead to its end

commas_close : (texts : List (List ℕ)) → fold place_after Spelled (after_commas texts ++ Mark mark.Close ∷ []) ≡ Closed
unfolding place_after place_after_text place_after_mark
commas_close [] = refl
commas_close (text ∷ others) = commas_close others

call_closes : (arguments : List (List ℕ))
    → fold place_after Named (Mark mark.Open ∷ argument_tokens arguments ++ Mark mark.Close ∷ []) ≡ Closed
unfolding place_after place_after_text place_after_mark
call_closes [] = refl
call_closes (text ∷ others) = commas_close others

commas_texts : (texts : List (List ℕ)) → texts_in (after_commas texts ++ Mark mark.Close ∷ []) ≡ texts
unfolding texts_in
commas_texts [] = refl
commas_texts (text ∷ others) = ap (λ (ts : List (List ℕ)). text ∷ ts) (commas_texts others)

call_texts : (name : List ℕ) (arguments : List (List ℕ))
    → texts_in (Name name ∷ Mark mark.Open ∷ argument_tokens arguments ++ Mark mark.Close ∷ []) ≡ arguments
unfolding texts_in
call_texts name [] = refl
call_texts name (text ∷ others) = ap (λ (ts : List (List ℕ)). text ∷ ts) (commas_texts others)

pub call_again : (call : TextCall) → call_in (call_tokens call) ≡ Some call
unfolding call_in name_called
call_again call = rw (call_closes call.arguments, call_texts call.name call.arguments) refl

-- ---- texts

-- what is found among the tokens of a text is what it spells
pub spells_sound : (text : List ℕ) (tokens : List Token) → HasTokens text tokens → (found : Option TextCall) → found ≡ call_in tokens
    → IfSome found (SpellsCall text)
spells_sound text tokens has (Some call) e = subst (λ (ts : List Token). HasTokens text ts) (call_sound tokens call (sym e)) has
spells_sound text tokens has None e = tt

pub spells_complete : (text : List ℕ) (tokens : List Token) → HasTokens text tokens → (found : Option TextCall) → found ≡ call_in tokens
    → (call : TextCall) → SpellsCall text call → found ≡ Some call
spells_complete text tokens has found e call spelled =
    e ∙ ap call_in (one_list tokens (call_tokens call) has spelled) ∙ call_again call

-- ---- texts among tokens, one token after the other

one_first : (token : Token) (rest : List Token) → texts_in (token ∷ []) ++ texts_in rest ≡ texts_in (token ∷ rest)
unfolding texts_in
one_first (Name name) rest = refl
one_first (Number m) rest = refl
one_first (Quoted text) rest = refl
one_first (Mark m) rest = refl

pub texts_more : (texts more whole : List (List ℕ)) (tokens : List Token) (i : ℕ) (token : Token) → i < length tokens
    → token ≡ get_or tokens i token → more ≡ texts ++ texts_in (token ∷ []) → texts ++ texts_in (drop i tokens) ≡ whole
    → more ++ texts_in (drop (i + 1) tokens) ≡ whole
texts_more texts more whole tokens i token below here is before =
    let parts : drop i tokens ≡ token ∷ drop (i + 1) tokens =
    drop_more tokens i token below ∙ ap (λ (t : Token). t ∷ drop (i + 1) tokens) (sym here) in
    let first = one_first token (drop (i + 1) tokens) in
    ap (λ (ts : List (List ℕ)). ts ++ texts_in (drop (i + 1) tokens)) is
    ∙ append_assoc texts (texts_in (token ∷ [])) (texts_in (drop (i + 1) tokens))
    ∙ ap (λ (ts : List (List ℕ)). texts ++ ts) first ∙ sym (ap (λ (ts : List Token). texts ++ texts_in ts) parts) ∙ before

pub texts_end : (texts whole : List (List ℕ)) (tokens : List Token) (i : ℕ) → length tokens ≤ i
    → texts ++ texts_in (drop i tokens) ≡ whole → texts ≡ whole
unfolding texts_in
texts_end texts whole tokens i past before =
    let none : drop i tokens ≡ [] = drop_all i tokens past in
    sym (append-nil texts) ∙ sym (ap (λ (ts : List Token). texts ++ texts_in ts) none) ∙ before

-- ---- what was found

pub all_sound : {E : Type 0} (text : List ℕ) (tokens : List Token) → HasTokens text tokens → (shown : List Token) → shown ≡ tokens
    → (result : Result (Option TextCall) E) → IfOk result (λ found. found ≡ call_in shown)
    → IfOk result (λ found. IfSome found (SpellsCall text))
all_sound text tokens has shown same (Ok found) e = spells_sound text tokens has found (e ∙ ap call_in same)
all_sound text tokens has shown same (Err error) e = tt

pub all_complete : {E : Type 0} (text : List ℕ) (tokens : List Token) → HasTokens text tokens → (shown : List Token) → shown ≡ tokens
    → (result : Result (Option TextCall) E) → IfOk result (λ found. found ≡ call_in shown)
    → IfOk result (λ found. (call : TextCall) → SpellsCall text call → found ≡ Some call)
all_complete text tokens has shown same (Ok found) e = spells_complete text tokens has found (e ∙ ap call_in same)
all_complete text tokens has shown same (Err error) e = tt
