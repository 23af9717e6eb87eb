-- Labels, character by character.
use Rattle.std.proofs.Common.{◌≡◌, ℕ, zero, suc, ◌+◌, ◌-◌, ◌/◌, ◌%◌, ◌<◌, ◌≤◌, ◌==◌, Bool, true, false, not, cond, List, [], ◌∷◌, ◌++◌}
use Rattle.std.proofs.Common.{refl, sym, ap, ◌∙◌, arith, append_assoc, append-nil, take, drop, length, get_or, subst, Result, Ok, Err}
use Rattle.std.proofs.Common.{Option, Some, None, option_map}
use Rattle.std.specs.List.{flat_map}
use Rattle.std.specs.Str.{chars}
use Rattle.text_kit.specs.Answer.{GivesAs}
use Rattle.time_calc.specs.Instants.{instant_at}
use Rattle.std.specs.Option.{option_and_then, is_some}
use Rattle.std.specs.Prelude.{ℤ, encode_utf8}
use Rattle.time_calc.specs.declared.directives.Directive.{Directive}
use Rattle.time_calc.specs.Labels.{digits, Piece, plain, directive, pieces, piece_text, directive_of, directive_text, label, label_of, cause}
use Rattle.std.proofs.Math.Seq.{drop-cons}
use Rattle.std.proofs.lemmas.List.{take-append-drop}
use Rattle.time_calc.specs.declared.labels.LabelError.{LabelError}
use Rattle.time_calc.specs.declared.labels.LabelError.TheVariants as fault
use Rattle.time_calc.specs.inner.Labels.{text_of, Adds, Labels, IsAfter}

pub no_digit : (number : ℕ) → digits 0 number ≡ []
unfolding digits
no_digit number = refl

pub last_digit : (places number : ℕ) → 1 ≤ places → digits places number ≡ digits (places - 1) (number / 10) ++ (48 + number % 10) ∷ []
unfolding digits
last_digit zero number h = absurd (omega (arith, h))
last_digit (suc places) number h =
    let back : suc places - 1 ≡ places = omega arith in ap (λ p. digits p (number / 10) ++ (48 + number % 10) ∷ []) (sym back)

-- ---- what a character adds

longer : (i : ℤ) (t : List ℕ) (p : Piece) (o : Option (List Piece)) → t ≡ piece_text i p →
    option_map (flat_map (piece_text i)) (option_map (λ ps. p ∷ ps) o) ≡ option_map (λ s. t ++ s) (option_map (flat_map (piece_text i)) o)
longer i t p None e = refl
longer i t p (Some ps) e = ap (λ s. Some (s ++ flat_map (piece_text i) ps)) (sym e)

put_after : (old t : List ℕ) (o : Option (List ℕ)) → option_map (λ s. old ++ s) (option_map (λ s. t ++ s) o) ≡ option_map (λ s. (old ++ t) ++ s) o
put_after old t None = refl
put_after old t (Some s) = ap Some (sym (append_assoc old t s))

pub adds_directive : (i : ℤ) (letter : ℕ) (d : Directive) (old new t : List ℕ) →
    directive_of letter ≡ Some d → t ≡ directive_text i d → new ≡ old ++ t → (rest : List ℕ) →
    option_map (λ s. old ++ s) (text_of i true (letter ∷ rest)) ≡ option_map (λ s. new ++ s) (text_of i false rest)
unfolding text_of pieces
adds_directive i letter d old new t known is longer_is rest =
    ap (λ o. option_map (λ s. old ++ s)
    (option_map (flat_map (piece_text i)) (option_and_then (λ d. option_map (λ ps. directive d ∷ ps) (pieces false rest)) o))) known
    ∙ ap (option_map (λ s. old ++ s)) (longer i t (directive d) (pieces false rest) is)
    ∙ put_after old t (option_map (flat_map (piece_text i)) (pieces false rest))
    ∙ ap (λ n. option_map (λ s. n ++ s) (option_map (flat_map (piece_text i)) (pieces false rest))) (sym longer_is)

pub no_directive : (i : ℤ) (letter : ℕ) → directive_of letter ≡ None → (rest : List ℕ) → text_of i true (letter ∷ rest) ≡ None
unfolding text_of pieces
no_directive i letter unknown rest =
    ap (λ o. option_map (flat_map (piece_text i)) (option_and_then (λ d. option_map (λ ps. directive d ∷ ps) (pieces false rest)) o)) unknown

pub adds_percent : (i : ℤ) (c : ℕ) (old : List ℕ) → c ≡ 37 → (rest : List ℕ) →
    option_map (λ s. old ++ s) (text_of i false (c ∷ rest)) ≡ option_map (λ s. old ++ s) (text_of i true rest)
unfolding text_of pieces
adds_percent i c old is rest =
    ap (λ c. option_map (λ s. old ++ s)
    (option_map (flat_map (piece_text i)) (cond (c == 37) (pieces true rest) (option_map (λ ps. plain c ∷ ps) (pieces false rest))))) is

pub adds_plain : (i : ℤ) (c : ℕ) (old new : List ℕ) → (c == 37) ≡ false → new ≡ old ++ encode_utf8 c → (rest : List ℕ) →
    option_map (λ s. old ++ s) (text_of i false (c ∷ rest)) ≡ option_map (λ s. new ++ s) (text_of i false rest)
unfolding text_of pieces
adds_plain i c old new other longer_is rest =
    ap (λ b. option_map (λ s. old ++ s)
    (option_map (flat_map (piece_text i)) (cond b (pieces true rest) (option_map (λ ps. plain c ∷ ps) (pieces false rest))))) other
    ∙ ap (option_map (λ s. old ++ s)) (longer i (encode_utf8 c) (plain c) (pieces false rest) refl)
    ∙ put_after old (encode_utf8 c) (option_map (flat_map (piece_text i)) (pieces false rest))
    ∙ ap (λ n. option_map (λ s. n ++ s) (option_map (flat_map (piece_text i)) (pieces false rest))) (sym longer_is)

-- ---- the label so far

pub none_so_far : (o : Option (List ℕ)) → o ≡ option_map (λ t. [] ++ t) o
none_so_far None = refl
none_so_far (Some t) = refl

-- the whole text is what was written, and then that of the characters to come
abbrev pub IsWrittenSoFar : ℤ → List ℕ → List ℕ → Bool → Type 0
IsWrittenSoFar i before out open_ = (rest : List ℕ) → text_of i false (before ++ rest) ≡ option_map (λ t. out ++ t) (text_of i open_ rest)

pub one_char_more : (i : ℤ) (before out new : List ℕ) (open_ next : Bool) (c : ℕ) → IsWrittenSoFar i before out open_ →
    Adds i open_ c out new (Ok next) → IsWrittenSoFar i (before ++ c ∷ []) new next
one_char_more i before out new open_ next c so_far adds = λ rest.
    ap (text_of i false) (append_assoc before (c ∷ []) rest) ∙ so_far (c ∷ rest) ∙ adds rest

pub ends_open : (i : ℤ) (before out whole : List ℕ) (open_ : Bool) → before ≡ whole →
    open_ ≡ true → IsWrittenSoFar i before out open_ → text_of i false whole ≡ None
unfolding text_of pieces
ends_open i before out whole open_ all is so_far =
    ap (text_of i false) (sym all ∙ sym (append-nil before)) ∙ so_far [] ∙ ap (λ b. option_map (λ t. out ++ t) (text_of i b [])) is

pub ends_whole : (i : ℤ) (before out whole : List ℕ) (open_ : Bool) → before ≡ whole →
    open_ ≡ false → IsWrittenSoFar i before out open_ → text_of i false whole ≡ Some out
unfolding text_of pieces
ends_whole i before out whole open_ all is so_far =
    ap (text_of i false) (sym all ∙ sym (append-nil before)) ∙ so_far [] ∙ ap (λ b. option_map (λ t. out ++ t) (text_of i b [])) is ∙ ap Some (append-nil out)

around : (before whole : List ℕ) (c : ℕ) → before ≡ take (length before) whole → length before < length whole →
    c ≡ get_or whole (length before) c → whole ≡ before ++ (c ∷ drop (suc (length before)) whole)
around before whole c front below is =
    sym (take-append-drop (length before) whole)
    ∙ ap (λ d. take (length before) whole ++ d) (drop-cons whole (length before) c below ∙ ap (λ x. x ∷ drop (suc (length before)) whole) (sym is))
    ∙ ap (λ f. f ++ (c ∷ drop (suc (length before)) whole)) (sym front)

pub fails_there : (i : ℤ) (before out new whole : List ℕ) (open_ : Bool) (c : ℕ) (e : LabelError) →
    before ≡ take (length before) whole → length before < length whole → c ≡ get_or whole (length before) c →
    IsWrittenSoFar i before out open_ → Adds i open_ c out new (Err e) → Labels (text_of i false whole) (Err e)
fails_there i before out new whole open_ c fault.Pattern front below is so_far adds =
    ap (text_of i false) (around before whole c front below is)
    ∙ so_far (c ∷ drop (suc (length before)) whole)
    ∙ ap (option_map (λ t. out ++ t)) (adds (drop (suc (length before)) whole))
fails_there i before out new whole open_ c fault.Instant front below is so_far adds = adds
fails_there i before out new whole open_ c fault.Memory front below is so_far adds = tt

-- ---- whether directives hold

same_there : {X Y : Type 0} (f : X → Y) (o : Option X) → is_some (option_map f o) ≡ is_some o
same_there f None = refl
same_there f (Some x) = refl

pub known_letter : (c : ℕ) (d : Directive) → directive_of c ≡ Some d → (rest : List ℕ) → is_some (pieces true (c ∷ rest)) ≡ is_some (pieces false rest)
unfolding pieces
known_letter c d known rest =
    ap (λ o. is_some (option_and_then (λ d. option_map (λ ps. directive d ∷ ps) (pieces false rest)) o)) known
    ∙ same_there (λ ps. directive d ∷ ps) (pieces false rest)

pub unknown_letter : (c : ℕ) → directive_of c ≡ None → (rest : List ℕ) → is_some (pieces true (c ∷ rest)) ≡ false
unfolding pieces
unknown_letter c unknown rest = ap (λ o. is_some (option_and_then (λ d. option_map (λ ps. directive d ∷ ps) (pieces false rest)) o)) unknown

after_plain : (c : ℕ) (b : Bool) (rest : List ℕ) →
    is_some (cond b (pieces true rest) (option_map (λ ps. plain c ∷ ps) (pieces false rest))) ≡ is_some (pieces b rest)
after_plain c true rest = refl
after_plain c false rest = same_there (λ ps. plain c ∷ ps) (pieces false rest)

pub plain_or_percent : (c : ℕ) (rest : List ℕ) → is_some (pieces false (c ∷ rest)) ≡ is_some (pieces (c == 37) rest)
unfolding pieces
plain_or_percent c rest = after_plain c (c == 37) rest

-- the pieces are there exactly where those of the characters to come are
abbrev pub HoldsSoFar : List ℕ → Bool → Type 0
HoldsSoFar before open_ = (rest : List ℕ) → is_some (pieces false (before ++ rest)) ≡ is_some (pieces open_ rest)

pub holds_longer : (before : List ℕ) (open_ next : Bool) (c : ℕ) → HoldsSoFar before open_ → IsAfter open_ c (Some next) → HoldsSoFar (before ++ c ∷ []) next
holds_longer before open_ next c so_far then_ = λ rest.
    ap (λ cs. is_some (pieces false cs)) (append_assoc before (c ∷ []) rest) ∙ so_far (c ∷ rest) ∙ then_ rest

pub holds_not : (before whole : List ℕ) (open_ : Bool) (c : ℕ) → before ≡ take (length before) whole →
    length before < length whole → c ≡ get_or whole (length before) c →
    HoldsSoFar before open_ → IsAfter open_ c None → is_some (pieces false whole) ≡ false
holds_not before whole open_ c front below is so_far then_ =
    ap (λ cs. is_some (pieces false cs)) (around before whole c front below is)
    ∙ so_far (c ∷ drop (suc (length before)) whole) ∙ then_ (drop (suc (length before)) whole)

closed : (b : Bool) → is_some (pieces b []) ≡ not b
unfolding pieces
closed true = refl
closed false = refl

pub holds_whole : (before whole : List ℕ) (open_ : Bool) → before ≡ whole → HoldsSoFar before open_ → is_some (pieces false whole) ≡ not open_
holds_whole before whole open_ all so_far =
    ap (λ cs. is_some (pieces false cs)) (sym all ∙ sym (append-nil before)) ∙ so_far [] ∙ closed open_

-- ---- the answer of `label`

gives_pieces : (i : ℤ) (o : Option (List Piece)) (r : Result (List ℕ) LabelError) →
    Labels (option_map (flat_map (piece_text i)) o) r → GivesAs (λ text. text) cause r (label_of o (Some i))
gives_pieces i None (Ok t) h = absurd cc
gives_pieces i None (Err fault.Pattern) h = refl
gives_pieces i None (Err fault.Instant) h = absurd h
gives_pieces i None (Err fault.Memory) h = tt
gives_pieces i (Some ps) (Ok t) h = cc
gives_pieces i (Some ps) (Err fault.Pattern) h = absurd cc
gives_pieces i (Some ps) (Err fault.Instant) h = absurd h
gives_pieces i (Some ps) (Err fault.Memory) h = tt

pub gives_label : (number : ℤ) (pattern : List ℕ) (i : ℤ) (r : Result (List ℕ) LabelError) → instant_at number ≡ Some i →
    Labels (text_of i false (chars pattern)) r → GivesAs (λ text. text) cause r (label number pattern)
unfolding text_of
gives_label number pattern i r here h =
    let P : Option ℤ → Type 0 = λ o. GivesAs (λ text. text) cause r (label_of (pieces false (chars pattern)) o) in
    subst P (sym here) (gives_pieces i (pieces false (chars pattern)) r h)
