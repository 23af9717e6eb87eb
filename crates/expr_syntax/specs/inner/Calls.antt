-- The call that tokens are, as a function of them. Only private contracts cite it.
use Rattle.std.specs.Prelude.{ℕ, List, [], ◌∷◌, Bool, true, false, Option, Some, None, if◌then◌else◌, fold}
use Rattle.std.specs.Option.{option_map}
use Rattle.expr_syntax.specs.declared.calls.Place.{Place}
use Rattle.expr_syntax.specs.declared.calls.Place.TheVariants.{Named, Opened, Spelled, Parted, Closed, Nowhere}
use Rattle.expr_syntax.specs.declared.calls.TextCall.{TextCall}
use Rattle.expr_syntax.specs.declared.token.Token.{Token}
use Rattle.expr_syntax.specs.declared.token.Token.TheVariants.{Name, Number, Quoted, Mark}
use Rattle.expr_syntax.specs.declared.token.Mark.{Mark as AnyMark}
use Rattle.expr_syntax.specs.declared.token.Mark.TheVariants as mark
use Rattle.expr_syntax.specs.inner.Parser.{is}

-- where a text leads: it stands after `(` or `,`
unfoldable pub place_after_text : Place → Place
place_after_text Opened = Spelled
place_after_text Parted = Spelled
place_after_text other = Nowhere

-- where a mark leads: `(` stands after the name, `,` after a text, and `)` after `(` or a text
unfoldable pub place_after_mark : Place → AnyMark → Place
place_after_mark Named m = if is m mark.Open then Opened else Nowhere
place_after_mark Opened m = if is m mark.Close then Closed else Nowhere
place_after_mark Spelled m = if is m mark.Comma then Parted else (if is m mark.Close then Closed else Nowhere)
place_after_mark other m = Nowhere

-- where a token leads
unfoldable pub place_after : Place → Token → Place
place_after place (Quoted text) = place_after_text place
place_after place (Mark m) = place_after_mark place m
place_after place (Name name) = Nowhere
place_after place (Number m) = Nowhere

abbrev pub is_closed : Place → Bool
is_closed Closed = true
is_closed other = false

-- the name of the call that tokens are
unfoldable pub name_called : List Token → Option (List ℕ)
name_called [] = None
name_called (Name name ∷ rest) = if is_closed (fold place_after Named rest) then Some name else None
name_called (token ∷ rest) = None

-- the texts among tokens
unfoldable pub texts_in : List Token → List (List ℕ)
texts_in [] = []
texts_in (Quoted text ∷ rest) = text ∷ texts_in rest
texts_in (token ∷ rest) = texts_in rest

-- the call that tokens are
unfoldable pub call_in : List Token → Option TextCall
call_in tokens = option_map (λ name. record { name = name; arguments = texts_in tokens }) (name_called tokens)
