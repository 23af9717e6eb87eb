-- What is read is related to its tokens.
use Rattle.std.proofs.Common.{◌≡◌, ℕ, zero, suc, ◌≤◌, ◌<◌, Bool, true, false, cond, eqb, List, [], ◌∷◌, ◌++◌, drop, length, Option, Some}
use Rattle.std.proofs.Common.{None, Ok, refl, sym, ap, subst, ◌∙◌, append_assoc, arith}
use Rattle.std.specs.Prelude.{codes, bytes_eq, nat_lt}
use Rattle.std.proofs.lemmas.Bool.{eqb-true, ltb-true}
use Rattle.std.proofs.lemmas.List.{append-nil, nil_from_length}
use Rattle.case_table.specs.Names.{index_of, builtins}
use Rattle.case_table.specs.Arguments.{admits}
use Rattle.expr_syntax.specs.declared.expr.Expr.{Expr}
use Rattle.expr_syntax.specs.declared.expr.Expr.TheVariants as expr
use Rattle.expr_syntax.specs.declared.expr.BinOp.{BinOp}
use Rattle.expr_syntax.specs.declared.token.Token.{Token}
use Rattle.expr_syntax.specs.declared.token.Token.TheVariants.{Name, Number, Quoted, Mark}
use Rattle.expr_syntax.specs.declared.token.Mark.{Mark as AnyMark}
use Rattle.expr_syntax.specs.declared.token.Mark.TheVariants as mark
use Rattle.expr_syntax.specs.Grammar.{IsAt, AreArguments, number, text, truth, falsehood, null, parameter, member, call, pair, brackets}
use Rattle.expr_syntax.specs.Grammar.{not, minus, plus, binary, choice, tighter, last, more, height, is_reserved, mark_of, most_nesting}
use Rattle.expr_syntax.specs.Grammar.{most_height}
use Rattle.expr_syntax.specs.inner.Parser.{Reader, is, starts, after, name_at, within, starts_data, asks_store, arguments_at}
use Rattle.expr_syntax.specs.inner.Parser.{most_arguments, call_at, builtin_at, called_at, parameter_at, named_at, bracketed_at, pair_at}
use Rattle.expr_syntax.specs.inner.Parser.{primary_at, signed_at, unary_at, joined_at, linked_at, chain_at, operator_at, binary_at}
use Rattle.expr_syntax.specs.inner.Parser.{branches_at, choice_at, level_at, height_at, nothing_inside, tree_at, whole_at}
use Rattle.expr_syntax.proofs.Heights.{height-Null, height-Flag, height-Number, height-Text, height-Param, height-Member, height-Not}
use Rattle.expr_syntax.proofs.Heights.{height-Minus, height-Plus, height-Binary, height-Choose, height-Pair, height-Call}
use Rattle.expr_syntax.proofs.Grounds.{is_true, starts_true, after_sound, name_sound, bytes_true, operator_sound, both}
use Rattle.fixed_num.proofs.Steps.{guarded}
use Rattle.expr_syntax.proofs.Taken.{step, test, ok_is, done, Takes, Takes-at, Sound}
use Rattle.expr_syntax.proofs.Leaves.{At, Behind, selected_sound, stored_sound, domain_length_sound, field_sound}

-- a tree that was kept within the limit
pub within_sound : (limit highest : ℕ) (e : Expr) (rest : List Token) (x : Expr × List Token) → within limit highest e rest ≡ Ok x
    → (highest < limit) × (done (e, rest) ≡ Ok x)
within_sound limit highest e rest x r =
    let g = guarded (nat_lt highest limit) tt (Ok (e, rest)) x r in
    (ltb-true highest limit g.0, g.1)

-- a reader of what stands between brackets of this nesting
pub record Inside (nesting below limit : ℕ) (reader : Reader) : Type 0 where
  pub sound : Sound (At below limit 8) reader
  pub opens : (tokens : List Token) (x : Expr × List Token) → reader tokens ≡ Ok x → nesting ≡ suc below

-- ---- arguments

record Argued (nesting below : ℕ) (before : List Expr) (tokens : List Token) (x : List Expr × List Token) : Type 0 where
  others : List Expr
  all : x.0 ≡ before ++ others
  front : List Token
  parts : tokens ≡ front ++ x.1
  is : AreArguments below front others
  opened : nesting ≡ suc below

arguments_sound : (nesting below limit : ℕ) (element : Reader) → Inside nesting below limit element
    → (room : ℕ) (before : List Expr) (tokens : List Token) (x : List Expr × List Token) → arguments_at element room before tokens ≡ Ok x
    → Argued nesting below before tokens x
unfolding arguments_at
arguments_sound nesting below limit element inside zero before tokens x e = absurd cc
arguments_sound nesting below limit element inside (suc room) before tokens x e =
    step (element tokens) _ x e λ v r e1.
    let t = inside.sound tokens v r in
    test (starts mark.Comma v.1) _ _ x e1
    (λ s e2.
    let k = arguments_sound nesting below limit element inside room (before ++ v.0 ∷ []) (drop 1 v.1) x e2 in
    record {
      others = v.0 ∷ k.others;
      all = k.all ∙ append_assoc before (v.0 ∷ []) k.others;
      front = t.front ++ Mark mark.Comma ∷ k.front;
      parts =
          t.parts ∙ ap (λ (back : List Token). t.front ++ back)
          (starts_true _ _ s ∙ ap (λ (back : List Token). Mark mark.Comma ∷ back) k.parts)
          ∙ sym (append_assoc t.front (Mark mark.Comma ∷ k.front) x.1);
      is = more below t.front k.front v.0 k.others t.is.0 k.is;
      opened = k.opened;
    })
    (λ s e2.
    let here : Argued nesting below before tokens (before ++ v.0 ∷ [], v.1) = record {
      others = v.0 ∷ [];
      all = refl;
      front = t.front;
      parts = t.parts;
      is = last below t.front v.0 t.is.0;
      opened = inside.opens tokens v r;
    } in
    subst (λ y. Argued nesting below before tokens y) (ok_is (before ++ v.0 ∷ [], v.1) x e2) here)

-- ---- primaries

call_sound : (nesting below limit code : ℕ) (element : Reader) (name : List ℕ) → index_of builtins name ≡ Some code
    → Inside nesting below limit element
    → (tokens : List Token) (x : Expr × List Token) → call_at element (suc limit) code tokens ≡ Ok x
    → Takes (Behind nesting limit (Name name ∷ Mark mark.Open ∷ [])) tokens x
unfolding call_at
call_sound nesting below limit code element name known inside tokens x e =
    step (arguments_at element most_arguments [] tokens) _ x e λ v r e1.
    step (after mark.Close v.1) _ x e1 λ rest r2 e2.
    test (admits code (length v.0)) _ _ x e2
    (λ admitted e3.
    let k = arguments_sound nesting below limit element inside most_arguments [] tokens v r in
    let w = within_sound _ _ _ _ x e3 in
    let are : AreArguments below k.front v.0 = subst (λ es. AreArguments below k.front es) (sym k.all) k.is in
    Takes-at (Behind nesting limit (Name name ∷ Mark mark.Open ∷ [])) tokens (expr.Call code v.0, rest) x w.1 (record {
      front = k.front ++ Mark mark.Close ∷ [];
      parts =
          k.parts ∙ ap (λ (back : List Token). k.front ++ back) (after_sound _ _ _ r2)
          ∙ sym (append_assoc k.front (Mark mark.Close ∷ []) rest);
      is = (
        subst (λ m. IsAt m 0 (Name name ∷ Mark mark.Open ∷ k.front ++ Mark mark.Close ∷ []) (expr.Call code v.0)) (sym k.opened)
            (call below name code k.front v.0 known admitted are),
        rw (height-Call code v.0) (omega (arith, w.0)),
      );
    }))
    (λ s e3. absurd cc)

builtin_sound : (nesting below limit : ℕ) (element : Reader) (name : List ℕ) → Inside nesting below limit element → (found : Option ℕ)
    → index_of builtins name ≡ found
    → (tokens : List Token) (x : Expr × List Token) → builtin_at element (suc limit) found tokens ≡ Ok x
    → Takes (Behind nesting limit (Name name ∷ Mark mark.Open ∷ [])) tokens x
builtin_sound nesting below limit element name inside None known tokens x e = absurd cc
builtin_sound nesting below limit element name inside (Some code) known tokens x e =
    call_sound nesting below limit code element name known inside tokens x e

starts_data_true : (tokens : List Token) → starts_data tokens ≡ true
    → tokens ≡ Name (codes "data") ∷ Mark mark.Open ∷ drop 1 (drop 1 tokens)
unfolding starts_data
starts_data_true [] e = absurd cc
starts_data_true (Name name ∷ rest) e = picked (bytes_eq name (codes "data")) refl e
  where
    picked : (b : Bool) → bytes_eq name (codes "data") ≡ b → cond b (starts mark.Open rest) false ≡ true
        → (Name name ∷ rest) ≡ Name (codes "data") ∷ Mark mark.Open ∷ drop 1 (drop 1 (Name name ∷ rest))
    picked true t s = cc (bytes_true name (codes "data") t, starts_true mark.Open rest s)
    picked false t s = absurd cc
starts_data_true (Mark m ∷ rest) e = absurd cc
starts_data_true (Number m ∷ rest) e = absurd cc
starts_data_true (Quoted t ∷ rest) e = absurd cc

-- tokens that follow some others
put_behind : (nesting limit : ℕ) (before middle tokens rest : List Token) (x : Expr × List Token) → tokens ≡ middle ++ rest
    → Takes (Behind nesting limit (before ++ middle)) rest x → Takes (Behind nesting limit before) tokens x
put_behind nesting limit before middle tokens rest x e t = record {
  front = middle ++ t.front;
  parts = e ∙ ap (λ (back : List Token). middle ++ back) t.parts ∙ sym (append_assoc middle t.front x.1);
  is = subst (λ word. At nesting (suc limit) 0 x.0 word) (append_assoc before middle t.front) t.is;
}

-- a name that is known
renamed : (nesting limit : ℕ) (name word : List ℕ) (back tokens : List Token) (x : Expr × List Token) → bytes_eq name word ≡ true
    → Takes (Behind nesting limit (Name word ∷ back)) tokens x → Takes (Behind nesting limit (Name name ∷ back)) tokens x
renamed nesting limit name word back tokens x e t =
    subst (λ w. Takes (Behind nesting limit (Name w ∷ back)) tokens x) (sym (bytes_true name word e)) t

called_sound : (nesting below limit : ℕ) (element : Reader) (name : List ℕ) → Inside nesting below limit element
    → (tokens : List Token) (x : Expr × List Token) → called_at element (suc limit) name tokens ≡ Ok x
    → Takes (Behind nesting limit (Name name ∷ Mark mark.Open ∷ [])) tokens x
unfolding called_at
called_sound nesting below limit element name inside tokens x e =
    test (bytes_eq name (codes "vlSelectionTest")) _ _ x e
    (λ s e1. renamed nesting limit name (codes "vlSelectionTest") (Mark mark.Open ∷ []) tokens x s
    (selected_sound nesting limit tokens x e1))
    (λ s e1. test (bytes_eq name (codes "domain")) _ _ x e1
    (λ s e2. renamed nesting limit name (codes "domain") (Mark mark.Open ∷ []) tokens x s (domain_length_sound nesting limit tokens x e2))
    (λ s e2. test (asks_store name tokens) _ _ x e2
    (λ d e3.
    let t = both (bytes_eq name (codes "length")) (starts_data tokens) d in
    renamed nesting limit name (codes "length") (Mark mark.Open ∷ []) tokens x t.0
    (put_behind nesting limit (Name (codes "length") ∷ Mark mark.Open ∷ []) (Name (codes "data") ∷ Mark mark.Open ∷ []) tokens
    (drop 1 (drop 1 tokens)) x (starts_data_true tokens t.1) (stored_sound nesting limit (drop 1 (drop 1 tokens)) x e3)))
    (λ d e3. builtin_sound nesting below limit element name inside (index_of builtins name) refl tokens x e3)))

parameter_sound : (nesting below limit : ℕ) (element : Reader) (name : List ℕ) → is_reserved name ≡ false
    → Inside nesting below limit element
    → (tokens : List Token) (x : Expr × List Token) → parameter_at element (suc limit) name tokens ≡ Ok x
    → Takes (Behind nesting limit (Name name ∷ [])) tokens x
unfolding parameter_at
parameter_sound nesting below limit element name free inside tokens x e =
    test (starts mark.Open tokens) _ _ x e
    (λ s e1. put_behind nesting limit (Name name ∷ []) (Mark mark.Open ∷ []) tokens (drop 1 tokens) x (starts_true _ _ s)
    (called_sound nesting below limit element name inside (drop 1 tokens) x e1))
    (λ s e1. test (starts mark.Point tokens) _ _ x e1
    (λ s e2.
    step (name_at (drop 1 tokens)) _ x e2 λ field r e3.
    Takes-at (Behind nesting limit (Name name ∷ [])) tokens (expr.Member name field.0, field.1) x e3 (record {
      front = Mark mark.Point ∷ Name field.0 ∷ [];
      parts = cc (starts_true _ _ s, name_sound _ _ r);
      is = (member nesting name field.0 free, rw (height-Member name field.0) (omega arith));
    }))
    (λ s e2. Takes-at (Behind nesting limit (Name name ∷ [])) tokens (expr.Param name, tokens) x e2 (record {
      front = [];
      parts = refl;
      is = (parameter nesting name free, rw (height-Param name) (omega arith));
    })))

leaf : (nesting limit : ℕ) (name : List ℕ) (e : Expr) (tokens : List Token) (x : Expr × List Token)
    → At nesting (suc limit) 0 e (Name name ∷ []) → done (e, tokens) ≡ Ok x → Takes (Behind nesting limit (Name name ∷ [])) tokens x
leaf nesting limit name e tokens x is same =
    Takes-at (Behind nesting limit (Name name ∷ [])) tokens (e, tokens) x same (record { front = []; parts = refl; is = is })

named_sound : (nesting below limit : ℕ) (element : Reader) (name : List ℕ) → Inside nesting below limit element
    → (tokens : List Token) (x : Expr × List Token) → named_at element (suc limit) name tokens ≡ Ok x
    → Takes (Behind nesting limit (Name name ∷ [])) tokens x
unfolding named_at
named_sound nesting below limit element name inside tokens x e =
    test (bytes_eq name (codes "true")) _ _ x e
    (λ s e1. renamed nesting limit name (codes "true") [] tokens x s
    (leaf nesting limit (codes "true") (expr.Flag true) tokens x (truth nesting, rw (height-Flag true) (omega arith)) e1))
    (λ s1 e1. test (bytes_eq name (codes "false")) _ _ x e1
    (λ s e2. renamed nesting limit name (codes "false") [] tokens x s
    (leaf nesting limit (codes "false") (expr.Flag false) tokens x (falsehood nesting, rw (height-Flag false) (omega arith)) e2))
    (λ s2 e2. test (bytes_eq name (codes "null")) _ _ x e2
    (λ s e3. renamed nesting limit name (codes "null") [] tokens x s
    (leaf nesting limit (codes "null") expr.Null tokens x (null nesting, rw height-Null (omega arith)) e3))
    (λ s3 e3. test (bytes_eq name (codes "datum")) _ _ x e3
    (λ s e4. renamed nesting limit name (codes "datum") [] tokens x s (field_sound nesting limit tokens x e4))
    (λ s4 e4.
    let free : is_reserved name ≡ false = rw (s1, s2, s3, s4) refl in
    parameter_sound nesting below limit element name free inside tokens x e4))))

bracketed_sound : (nesting below limit : ℕ) (whole : Reader) → Inside nesting below (suc limit) whole
    → (tokens : List Token) (x : Expr × List Token) → bracketed_at whole tokens ≡ Ok x
    → Takes (Behind nesting limit (Mark mark.Open ∷ [])) tokens x
unfolding bracketed_at
bracketed_sound nesting below limit whole inside tokens x e =
    step (whole tokens) _ x e λ v r e1.
    step (after mark.Close v.1) _ x e1 λ rest r2 e2.
    let t = inside.sound tokens v r in
    Takes-at (Behind nesting limit (Mark mark.Open ∷ [])) tokens (v.0, rest) x e2 (record {
      front = t.front ++ Mark mark.Close ∷ [];
      parts =
          t.parts ∙ ap (λ (back : List Token). t.front ++ back) (after_sound _ _ _ r2)
          ∙ sym (append_assoc t.front (Mark mark.Close ∷ []) rest);
      is = (
        subst (λ m. IsAt m 0 (Mark mark.Open ∷ t.front ++ Mark mark.Close ∷ []) v.0) (sym (inside.opens tokens v r))
            (brackets below t.front v.0 t.is.0),
        t.is.1,
      );
    })

pair_sound : (nesting below limit : ℕ) (element : Reader) → Inside nesting below limit element
    → (tokens : List Token) (x : Expr × List Token) → pair_at element (suc limit) tokens ≡ Ok x
    → Takes (Behind nesting limit (Mark mark.OpenSquare ∷ [])) tokens x
unfolding pair_at
pair_sound nesting below limit element inside tokens x e =
    step (element tokens) _ x e λ v r e1.
    step (after mark.Comma v.1) _ x e1 λ a r2 e2.
    step (element a) _ x e2 λ w r3 e3.
    step (after mark.CloseSquare w.1) _ x e3 λ rest r4 e4.
    let t = inside.sound tokens v r in
    let u = inside.sound a w r3 in
    let k = within_sound _ _ _ _ x e4 in
    let back : a ≡ u.front ++ Mark mark.CloseSquare ∷ rest = u.parts ∙ ap (λ (b : List Token). u.front ++ b) (after_sound _ _ _ r4) in
    let whole : tokens ≡ t.front ++ Mark mark.Comma ∷ (u.front ++ Mark mark.CloseSquare ∷ rest) =
    t.parts ∙ ap (λ (b : List Token). t.front ++ b) (after_sound _ _ _ r2 ∙ ap (λ (b : List Token). Mark mark.Comma ∷ b) back) in
    Takes-at (Behind nesting limit (Mark mark.OpenSquare ∷ [])) tokens (expr.Pair v.0 w.0, rest) x k.1 (record {
      front = t.front ++ Mark mark.Comma ∷ u.front ++ Mark mark.CloseSquare ∷ [];
      parts = whole ∙ simp append_assoc;
      is = (
        subst (λ m.
            IsAt m 0 (Mark mark.OpenSquare ∷ t.front ++ Mark mark.Comma ∷ u.front ++ Mark mark.CloseSquare ∷ []) (expr.Pair v.0 w.0))
            (sym (inside.opens tokens v r)) (pair below t.front u.front v.0 w.0 t.is.0 u.is.0),
        rw (height-Pair v.0 w.0) (omega (arith, k.0)),
      );
    })

-- a token in front
fronted : (nesting limit : ℕ) (token : Token) (rest : List Token) (x : Expr × List Token) → Takes (Behind nesting limit (token ∷ [])) rest x
    → Takes (At nesting (suc limit) 0) (token ∷ rest) x
fronted nesting limit token rest x t =
    record { front = token ∷ t.front; parts = ap (λ (back : List Token). token ∷ back) t.parts; is = t.is }

primary_sound : (nesting below limit : ℕ) (whole element : Reader) → Inside nesting below (suc limit) whole
    → Inside nesting below limit element → Sound (At nesting (suc limit) 0) (primary_at whole element (suc limit))
unfolding primary_at
primary_sound nesting below limit whole element all inside [] x e = absurd cc
primary_sound nesting below limit whole element all inside (Number m ∷ rest) x e =
    Takes-at (At nesting (suc limit) 0) (Number m ∷ rest) (expr.Number m, rest) x e
    (record { front = Number m ∷ []; parts = refl; is = (number nesting m, rw (height-Number m) (omega arith)) })
primary_sound nesting below limit whole element all inside (Quoted t ∷ rest) x e =
    Takes-at (At nesting (suc limit) 0) (Quoted t ∷ rest) (expr.Text t, rest) x e
    (record { front = Quoted t ∷ []; parts = refl; is = (text nesting t, rw (height-Text t) (omega arith)) })
primary_sound nesting below limit whole element all inside (Name name ∷ rest) x e =
    fronted nesting limit (Name name) rest x (named_sound nesting below limit element name inside rest x e)
primary_sound nesting below limit whole element all inside (Mark m ∷ rest) x e =
    test (is mark.Open m) _ _ x e
    (λ s e1. fronted nesting limit (Mark m) rest x
    (subst (λ n. Takes (Behind nesting limit (Mark n ∷ [])) rest x) (is_true mark.Open m s)
    (bracketed_sound nesting below limit whole all rest x e1)))
    (λ s e1. test (is mark.OpenSquare m) _ _ x e1
    (λ s e2. fronted nesting limit (Mark m) rest x
    (subst (λ n. Takes (Behind nesting limit (Mark n ∷ [])) rest x) (is_true mark.OpenSquare m s)
    (pair_sound nesting below limit element inside rest x e2)))
    (λ s e2. absurd cc))

-- ---- levels

-- a sign in front of an operand
signed_sound : (nesting limit : ℕ) (m : AnyMark) (make : Expr → Expr) (lower : Reader)
    → ((front : List Token) (e : Expr) → IsAt nesting 1 front e → IsAt nesting 1 (Mark m ∷ front) (make e))
    → ((e : Expr) → height (make e) ≡ suc (height e)) → Sound (At nesting limit 1) lower
    → (tokens : List Token) (x : Expr × List Token) → starts m tokens ≡ true → signed_at make lower (suc limit) (drop 1 tokens) ≡ Ok x
    → Takes (At nesting (suc limit) 1) tokens x
signed_sound nesting limit m make lower made high deep tokens x s e =
    step (lower (drop 1 tokens)) _ x e λ v r e1.
    let t = deep (drop 1 tokens) v r in
    let k = within_sound _ _ _ _ x e1 in
    Takes-at (At nesting (suc limit) 1) tokens (make v.0, v.1) x k.1 (record {
      front = Mark m ∷ t.front;
      parts = starts_true m tokens s ∙ ap (λ (back : List Token). Mark m ∷ back) t.parts;
      is = (made t.front v.0 t.is.0, rw (high v.0) (omega (arith, k.0)));
    })

loose : {nesting limit level : ℕ} {tokens : List Token} {x : Expr × List Token} → Takes (At nesting limit level) tokens x
    → Takes (At nesting limit (suc level)) tokens x
loose {nesting} {limit} {level} {tokens} {x} t =
    record { front = t.front; parts = t.parts; is = (tighter nesting level t.front x.0 t.is.0, t.is.1) }

unary_sound : (nesting limit : ℕ) (tight lower : Reader) → Sound (At nesting (suc limit) 0) tight → Sound (At nesting limit 1) lower
    → Sound (At nesting (suc limit) 1) (unary_at tight lower (suc limit))
unfolding unary_at
unary_sound nesting limit tight lower sound deep tokens x e =
    test (starts mark.Not tokens) _ _ x e
    (λ s e1. signed_sound nesting limit mark.Not expr.Not lower (not nesting) height-Not deep tokens x s e1)
    (λ s e1. test (starts mark.Minus tokens) _ _ x e1
    (λ s e2. signed_sound nesting limit mark.Minus expr.Minus lower (minus nesting) height-Minus deep tokens x s e2)
    (λ s e2. test (starts mark.Plus tokens) _ _ x e2
    (λ s e3. signed_sound nesting limit mark.Plus expr.Plus lower (plus nesting) height-Plus deep tokens x s e3)
    (λ s e3. loose (sound tokens x e3))))

-- what follows a left operand that was read from front
abbrev Follows : ℕ → ℕ → ℕ → List Token → Expr → List Token → Type 0
Follows nesting limit level front e back = At nesting limit level e (front ++ back)

-- what is read after a left operand
abbrev ChainSound : ℕ → ℕ → ℕ → (Expr → Reader) → Type 0
ChainSound nesting limit level reader =
    (left : Expr) (front : List Token) → At nesting limit level left front → (tokens : List Token) (x : Expr × List Token)
    → reader left tokens ≡ Ok x → Takes (Follows nesting limit level front) tokens x

link_sound : (nesting limit level : ℕ) (lower : Reader) → Sound (At nesting limit level) lower → (others : Expr → Reader)
    → ChainSound nesting (suc limit) (suc level) others → (left : Expr) (front : List Token) → At nesting (suc limit) (suc level) left front
    → (tokens : List Token) (x : Expr × List Token) (found : Option BinOp) → operator_at (suc level) tokens ≡ found
    → linked_at lower (suc limit) others found left tokens ≡ Ok x → Takes (Follows nesting (suc limit) (suc level) front) tokens x
link_sound nesting limit level lower deep others again left front at tokens x None k r =
    Takes-at (Follows nesting (suc limit) (suc level) front) tokens (left, tokens) x r
    (record { front = []; parts = refl; is = subst (At nesting (suc limit) (suc level) left) (sym (append-nil front)) at })
link_sound nesting limit level lower deep others again left front at tokens x (Some o) k r =
    step (joined_at lower (suc limit) o left (drop 1 tokens)) _ x r λ v r1 e1.
    step (lower (drop 1 tokens)) _ v r1 λ w r2 e2.
    let op = operator_sound (suc level) tokens o k in
    let t = deep (drop 1 tokens) w r2 in
    let h = within_sound _ _ _ _ v e2 in
    let one : Takes (Follows nesting (suc limit) (suc level) front) tokens v =
    Takes-at (Follows nesting (suc limit) (suc level) front) tokens (expr.Binary o left w.0, w.1) v h.1 (record {
      front = Mark (mark_of o) ∷ t.front;
      parts = op.0 ∙ ap (λ (back : List Token). Mark (mark_of o) ∷ back) t.parts;
      is = (binary nesting o level front t.front left w.0 op.1 at.0 t.is.0, rw (height-Binary o left w.0) (omega (arith, h.0)));
    }) in
    let then = again v.0 (front ++ one.front) one.is v.1 x e1 in
    record {
      front = one.front ++ then.front;
      parts = one.parts ∙ ap (λ (back : List Token). one.front ++ back) then.parts ∙ sym (append_assoc one.front then.front x.1);
      is = subst (At nesting (suc limit) (suc level) x.0) (append_assoc front one.front then.front) then.is;
    }

chain_sound : (nesting limit level : ℕ) (lower : Reader) → Sound (At nesting limit level) lower → (room : ℕ)
    → ChainSound nesting (suc limit) (suc level) (λ left tokens. chain_at lower (suc limit) (suc level) room left tokens)
unfolding chain_at
chain_sound nesting limit level lower deep zero = λ left front at tokens x e. absurd cc
chain_sound nesting limit level lower deep (suc room) =
    let again = chain_sound nesting limit level lower deep room in
    λ left front at tokens x e.
    link_sound nesting limit level lower deep (λ f rest. chain_at lower (suc limit) (suc level) room f rest) again left front at tokens
    x (operator_at (suc level) tokens) refl e

binary_sound : (nesting limit level : ℕ) (tight lower : Reader) → Sound (At nesting (suc limit) level) tight
    → Sound (At nesting limit level) lower → Sound (At nesting (suc limit) (suc level)) (binary_at tight lower (suc limit) (suc level))
unfolding binary_at
binary_sound nesting limit level tight lower sound deep tokens x e =
    step (tight tokens) _ x e λ v r e1.
    let t = sound tokens v r in
    let more =
    chain_sound nesting limit level lower deep (suc limit) v.0 t.front (tighter nesting level t.front v.0 t.is.0, t.is.1) v.1 x e1 in
    record {
      front = t.front ++ more.front;
      parts = t.parts ∙ ap (λ (back : List Token). t.front ++ back) more.parts ∙ sym (append_assoc t.front more.front x.1);
      is = more.is;
    }

choice_sound : (nesting limit : ℕ) (tight lower : Reader) → Sound (At nesting (suc limit) 7) tight → Sound (At nesting limit 8) lower
    → Sound (At nesting (suc limit) 8) (choice_at tight lower (suc limit))
unfolding choice_at branches_at
choice_sound nesting limit tight lower sound deep tokens x e =
    step (tight tokens) _ x e λ v r e1.
    let t = sound tokens v r in
    test (starts mark.Question v.1) _ _ x e1
    (λ s e2.
    step (lower (drop 1 v.1)) _ x e2 λ w r3 e3.
    step (after mark.Colon w.1) _ x e3 λ a r4 e4.
    step (lower a) _ x e4 λ z r5 e5.
    let u = deep (drop 1 v.1) w r3 in
    let y = deep a z r5 in
    let k = within_sound _ _ _ _ x e5 in
    let second : w.1 ≡ Mark mark.Colon ∷ (y.front ++ z.1) = after_sound _ _ _ r4 ∙ ap (λ (b : List Token). Mark mark.Colon ∷ b) y.parts in
    let first : v.1 ≡ Mark mark.Question ∷ (u.front ++ Mark mark.Colon ∷ (y.front ++ z.1)) =
    starts_true _ _ s ∙ ap (λ (b : List Token). Mark mark.Question ∷ b) (u.parts ∙ ap (λ (b : List Token). u.front ++ b) second) in
    let whole : tokens ≡ t.front ++ Mark mark.Question ∷ (u.front ++ Mark mark.Colon ∷ (y.front ++ z.1)) =
    t.parts ∙ ap (λ (b : List Token). t.front ++ b) first in
    Takes-at (At nesting (suc limit) 8) tokens (expr.Choose v.0 w.0 z.0, z.1) x k.1 (record {
      front = t.front ++ Mark mark.Question ∷ u.front ++ Mark mark.Colon ∷ y.front;
      parts = whole ∙ simp append_assoc;
      is = (choice nesting t.front u.front y.front v.0 w.0 z.0 t.is.0 u.is.0 y.is.0, rw (height-Choose v.0 w.0 z.0) (omega (arith, k.0)));
    }))
    (λ s e2. Takes-at (At nesting (suc limit) 8) tokens (v.0, v.1) x e2 (loose t))

level_sound : (nesting limit : ℕ) (primary : Reader) (lower : ℕ → Reader) → Sound (At nesting (suc limit) 0) primary
    → ((level : ℕ) → Sound (At nesting limit level) (lower level)) → (level : ℕ)
    → Sound (At nesting (suc limit) level) (level_at primary lower (suc limit) level)
unfolding level_at
level_sound nesting limit primary lower sound deep zero = sound
level_sound nesting limit primary lower sound deep (suc zero) = unary_sound nesting limit primary (lower 1) sound (deep 1)
level_sound nesting limit primary lower sound deep (suc (suc level)) =
    let tight = level_sound nesting limit primary lower sound deep (suc level) in
    λ tokens x e. picked tight (eqb level 6) refl tokens x e
  where
    picked : Sound (At nesting (suc limit) (suc level)) (level_at primary lower (suc limit) (suc level)) → (b : Bool) → eqb level 6 ≡ b
        → Sound (At nesting (suc limit) (suc (suc level)))
        (cond b (choice_at (level_at primary lower (suc limit) (suc level)) (lower 8) (suc limit))
        (binary_at (level_at primary lower (suc limit) (suc level)) (lower (suc level)) (suc limit) (suc (suc level))))
    picked tight true s =
        let is : level ≡ 6 = eqb-true level 6 s in
        let F : ℕ → Type 0 = λ l. Sound (At nesting (suc limit) (suc l)) (level_at primary lower (suc limit) (suc level)) in
        let G : ℕ → Type 0 =
        λ l. Sound (At nesting (suc limit) (suc (suc l)))
        (choice_at (level_at primary lower (suc limit) (suc level)) (lower 8) (suc limit)) in
        subst G (sym is) (choice_sound nesting limit (level_at primary lower (suc limit) (suc level)) (lower 8) (subst F is tight) (deep 8))
    picked tight false s =
        binary_sound nesting limit (suc level) (level_at primary lower (suc limit) (suc level)) (lower (suc level)) tight (deep (suc level))

-- readers of what stands between brackets
abbrev Insides : ℕ → ℕ → (ℕ → Reader) → Type 0
Insides nesting below inside = (limit : ℕ) → Inside nesting below limit (inside limit)

height_sound : (nesting below : ℕ) (inside : ℕ → Reader) → Insides nesting below inside → (limit level : ℕ)
    → Sound (At nesting limit level) (height_at inside limit level)
unfolding height_at
height_sound nesting below inside are zero level = λ tokens x e. absurd cc
height_sound nesting below inside are (suc limit) level =
    let deep = height_sound nesting below inside are limit in
    λ tokens x e.
    level_sound nesting limit (primary_at (inside (suc limit)) (inside limit) (suc limit)) (height_at inside limit)
    (primary_sound nesting below limit (inside (suc limit)) (inside limit) (are (suc limit)) (are limit)) deep level tokens x e

pub tree_sound : (nesting limit level : ℕ) → Sound (At nesting limit level) (tree_at nesting limit level)
unfolding tree_at
tree_sound zero limit level =
    λ tokens x e.
    height_sound 0 0 nothing_inside (λ l. record { sound = λ ts y f. absurd cc; opens = λ ts y f. absurd cc }) limit level tokens x e
tree_sound (suc nesting) limit level =
    let inner = λ (l : ℕ). tree_sound nesting l 8 in
    λ tokens x e.
    height_sound (suc nesting) nesting (λ lower. tree_at nesting lower 8) (λ l. record { sound = inner l; opens = λ ts y f. refl })
    limit level tokens x e

-- all of the tokens are the tree
pub whole_sound : (tokens : List Token) (e : Expr) → whole_at tokens ≡ Ok e → IsAt most_nesting 8 tokens e × (height e ≤ most_height)
unfolding whole_at
whole_sound tokens e r =
    step (tree_at most_nesting most_height 8 tokens) _ e r λ v r1 e1.
    let g = guarded (eqb (length v.1) 0) tt (Ok v.0) e e1 in
    let t = tree_sound most_nesting most_height 8 tokens v r1 in
    let nothing : v.1 ≡ [] = nil_from_length v.1 (eqb-true _ _ g.0) in
    let all : t.front ≡ tokens = sym (t.parts ∙ ap (λ (b : List Token). t.front ++ b) nothing ∙ append-nil t.front) in
    subst (λ f. IsAt most_nesting 8 tokens f × (height f ≤ most_height)) (ok_is v.0 e g.1)
    (subst (λ w. IsAt most_nesting 8 w v.0 × (height v.0 ≤ most_height)) all t.is)
