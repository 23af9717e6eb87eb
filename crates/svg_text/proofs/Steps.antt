-- Steps of a print through a page.
use Rattle.std.proofs.Common.{◌<◌, get_or, length-take, length-drop, ◌-◌, ◌≡◌, ◌≤◌, ℕ, ◌+◌, List, [], ◌∷◌, ◌++◌, length, take, drop, Option}
use Rattle.std.proofs.Common.{Some, None, Result, Ok, Err, ℤ, pos, arith, sym, ap, ◌∙◌, append_assoc, append-nil, take-append-drop, refl}
use Rattle.std.proofs.Common.{subst}
use Rattle.std.proofs.lemmas.List.{take-take, take-append-le, take_at, take_more, take_all, flat_map_more}
use Rattle.std.proofs.lemmas.Grind.{flat_map-append}
use Rattle.std.specs.Prelude.{OnOk, OnErr, codes}
use Rattle.std.specs.Result.{IsErr}
use Rattle.std.specs.List.{flat_map}
use Rattle.std.specs.Option.{option_map}
use Rattle.chart_io.proofs.Written.{flat_map_split}
use Rattle.chart_io.specs.Outside.{Rose, Appended, AppendedPrefix}
use Rattle.scene_tree.specs.declared.shape.Point.{Point}
use Rattle.scene_tree.specs.declared.shape.Shape.{Shape}
use Rattle.scene_tree.specs.declared.shape.Shape.TheVariants.{Words}
use Rattle.svg_text.specs.SceneText.{point_text, path_text, stroke_text, opacity_text}
use lib.Seq.{take-add}
use Rattle.svg_text.specs.inner.Printing.{printed, Grown, HoldsFront, Prints}

-- ---- what is told

-- the first bytes of a text are no more than it has
front_of : (all text : List ℕ) → all ≡ take (length all) text → (length all ≤ length text) × (all ≡ take (length all) text)
front_of all text begun =
    let short = simp length-take at (ap length begun) in (omega arith, begun)

grown_not : (held : Option (List ℕ)) → Grown held held
grown_not None = tt
grown_not (Some held) = omega arith

grown_more : (before mid now : Option (List ℕ)) → Grown before mid → Grown mid now → Grown before now
grown_more None mid now first second = tt
grown_more (Some held) None now first second = absurd first
grown_more (Some held) (Some all) None first second = absurd second
grown_more (Some held) (Some all) (Some bytes) first second = omega (arith, first, second)

nothing_appended : (so_far : Option (List ℕ)) → Appended so_far so_far []
nothing_appended None = tt
nothing_appended (Some front) = ap (λ xs. Some xs) (sym (append-nil front))

-- one text and then another
appended_then : (so_far mid now : Option (List ℕ)) (done piece : List ℕ) → Appended so_far mid done → Appended mid now piece
    → Appended so_far now (done ++ piece)
appended_then None mid now done piece first second = tt
appended_then (Some front) mid now done piece first second =
    subst (λ s. Appended s now piece) first second ∙ ap (λ xs. Some xs) (append_assoc front done piece)

-- what a sink holds is a beginning of what is printed
holds : (held : Option (List ℕ)) (page text : List ℕ) → HoldsFront (printed held page) held text
unfolding printed
holds None page text = tt
holds (Some held) page text = front_of held _ (sym (ap (take (length held)) (append_assoc held page text)
    ∙ take_at held (page ++ text) (length held) refl))

-- a beginning of a text is one of a longer text
front_longer : (so_far now : Option (List ℕ)) (text more : List ℕ) → HoldsFront so_far now text → HoldsFront so_far now (text ++ more)
front_longer None now text more begun = tt
front_longer (Some front) None text more begun = absurd begun
front_longer (Some front) (Some all) text more begun =
    front_of all _ (begun.1 ∙ sym (take-append-le (length all) (front ++ text) more begun.0)
    ∙ ap (take (length all)) (append_assoc front text more))

-- one text, and then a beginning of another
front_then : (so_far mid now : Option (List ℕ)) (done piece : List ℕ) → Appended so_far mid done → HoldsFront mid now piece
    → HoldsFront so_far now (done ++ piece)
front_then None mid now done piece written begun = tt
front_then (Some front) mid None done piece written begun = absurd (subst (λ s. HoldsFront s None piece) written begun)
front_then (Some front) mid (Some all) done piece written begun =
    let early = subst (λ s. HoldsFront s (Some all) piece) written begun in
    front_of all _ (early.1 ∙ ap (take (length all)) (append_assoc front done piece))

-- ---- what calls print

then_cause : {T E : Type 0} (a b c : ℕ) (r : Result T E) → a ≤ b → OnErr r (Rose b c) → OnErr r (Rose a c)
then_cause a b c (Ok x) le h = tt
then_cause a b c (Err e) le h = omega (arith, le, h)

then_ok : {T E : Type 0} (a b c : Option (List ℕ)) (text more : List ℕ) (r : Result T E) → Appended a b text → OnOk r (Appended b c more)
    → OnOk r (Appended a c (text ++ more))
then_ok a b c text more (Ok x) first second = appended_then a b c text more first second
then_ok a b c text more (Err e) first second = tt

fails : {U F : Type 0} (P : Type 0) (q : Result U F) → IsErr q → P → OnErr q P
fails P (Ok x) failed h = absurd cc
fails P (Err f) failed h = h

not_ok : {U F : Type 0} (P : Type 0) (q : Result U F) → IsErr q → OnOk q P
not_ok P (Ok x) failed = absurd cc
not_ok P (Err f) failed = tt

module _ {S : Type 0} {faults : S → ℕ} {held : S → Option (List ℕ)} where
  -- nothing
  pub prints_nothing : {T E : Type 0} (out : S) (page : List ℕ) (x : T)
      → Prints {S = S} {T = T} {E = E} faults held out page out page (Ok x) []
  prints_nothing out page x = record {
    counted = omega arith;
    cause = tt;
    ok = nothing_appended (printed (held out) page);
    grown = grown_not (held out);
    front = holds (held out) page [];
  }

  -- a failed call also prints a beginning of what was to come after it
  pub prints_front : {T U E F : Type 0} {out now : S} {page waiting : List ℕ} {e : E} {q : Result U F} {text : List ℕ} (more : List ℕ)
      → IsErr q → Prints {S = S} {T = T} {E = E} faults held out page now waiting (Err e) text
      → Prints {S = S} {T = U} {E = F} faults held out page now waiting q (text ++ more)
  prints_front {q = q} more failed p = record {
    counted = p.counted;
    cause = fails _ q failed p.cause;
    ok = not_ok _ q failed;
    grown = p.grown;
    front = front_longer _ _ _ more p.front;
  }

  -- one text after another
  pub prints_then : {T U E F : Type 0} {out mid now : S} {page waiting later : List ℕ} {x : T} {r : Result U F} {text more : List ℕ}
      → Prints {S = S} {T = T} {E = E} faults held out page mid waiting (Ok x) text
      → Prints {S = S} {T = U} {E = F} faults held mid waiting now later r more
      → Prints {S = S} {T = U} {E = F} faults held out page now later r (text ++ more)
  prints_then p q = record {
    counted = omega (arith, p.counted, q.counted);
    cause = then_cause _ _ _ _ p.counted q.cause;
    ok = then_ok _ _ _ _ _ _ p.ok q.ok;
    grown = grown_more _ _ _ p.grown q.grown;
    front = front_then _ _ _ _ _ p.ok q.front;
  }

  -- the same text in other words
  pub prints_same : {T E : Type 0} {out now : S} {page waiting : List ℕ} {r : Result T E} {text whole : List ℕ}
      → text ≡ whole → Prints faults held out page now waiting r text → Prints faults held out page now waiting r whole
  prints_same {out = out} {now = now} {page = page} {waiting = waiting} {r = r} same p =
      subst (λ t. Prints faults held out page now waiting r t) same p

-- ---- the page

began : (before now : Option (List ℕ)) (page : List ℕ) → AppendedPrefix before now page
    → Grown before now × HoldsFront (printed before page) now []
unfolding printed
began None now page begun = (tt, tt)
began (Some held) None page begun = absurd begun
began (Some held) (Some all) page begun = (begun.0, front_of all _ (begun.1 ∙ ap (take (length all)) (sym (append-nil (held ++ page)))))

emptied : (before now : Option (List ℕ)) (page : List ℕ) → Appended before now page → Appended (printed before page) (printed now []) []
unfolding printed
emptied None now page written = tt
emptied (Some held) now page written = rw written refl

more_waits : (so_far held : Option (List ℕ)) (page text more : List ℕ) → Appended so_far (printed held page) text
    → Appended so_far (printed held (page ++ more)) (text ++ more)
unfolding printed
more_waits None held page text more written = tt
more_waits (Some front) None page text more written = cc
more_waits (Some front) (Some held) page text more written =
    ap (λ xs. Some xs) (sym (append_assoc held page more)) ∙ ap (option_map (λ xs. xs ++ more)) written
    ∙ ap (λ xs. Some xs) (append_assoc front text more)

taken_more : (bytes : List ℕ) (at n room : ℕ) → n ≤ room → (take at bytes ++ []) ++ take n (take room (drop at bytes)) ≡ take (at + n) bytes
taken_more bytes at n room le =
    ap (λ xs. xs ++ take n (take room (drop at bytes))) (append-nil (take at bytes))
    ∙ ap (λ xs. take at bytes ++ xs) (take-take n room (drop at bytes) le) ∙ sym (take-add at n bytes)

all_taken : (bytes : List ℕ) (at : ℕ) → (take at bytes ++ []) ++ drop at bytes ≡ bytes
all_taken bytes at = ap (λ xs. xs ++ drop at bytes) (append-nil (take at bytes)) ∙ take-append-drop at bytes

module _ {S T E : Type 0} {faults : S → ℕ} {held : S → Option (List ℕ)} where
  -- a beginning of the page was handed on
  pub hands_front : (out now : S) (page : List ℕ) (q : Result T E) → IsErr q → faults out ≤ faults now → Rose (faults out) (faults now)
      → AppendedPrefix (held out) (held now) page → Prints {S = S} {T = T} {E = E} faults held out page now page q []
  hands_front out now page q failed counted cause prefix =
      let b = began (held out) (held now) page prefix in
      record { counted = counted; cause = fails _ q failed cause; ok = not_ok _ q failed; grown = b.0; front = b.1 }

  -- all of it was
  pub hands_all : (out now : S) (page : List ℕ) (x : T) → faults out ≤ faults now → Appended (held out) (held now) page
      → AppendedPrefix (held out) (held now) page
      → Prints {S = S} {T = T} {E = E} faults held out page now [] (Ok x) []
  hands_all out now page x counted ok prefix =
      let b = began (held out) (held now) page prefix in
      record { counted = counted; cause = tt; ok = emptied (held out) (held now) page ok; grown = b.0; front = b.1 }

module _ {S : Type 0} {faults : S → ℕ} {held : S → Option (List ℕ)} where
  -- more stands on the page
  pub prints_more : {T E : Type 0} {out now : S} {page waiting : List ℕ} {x : T} {text : List ℕ} (more : List ℕ)
      → Prints {S = S} {T = T} {E = E} faults held out page now waiting (Ok x) text
      → Prints {S = S} {T = T} {E = E} faults held out page now (waiting ++ more) (Ok x) (text ++ more)
  prints_more {out = out} {now = now} {page = page} {waiting = waiting} {text = text} more p = record {
    counted = p.counted;
    cause = tt;
    ok = more_waits (printed (held out) page) (held now) waiting text more p.ok;
    grown = p.grown;
    front = front_longer _ _ _ more p.front;
  }

  -- another piece of the bytes
  pub prints_piece : {T E : Type 0} {out mid now : S} {page waiting later : List ℕ} {x : T} (bytes : List ℕ) (at n room : ℕ) → n ≤ room
      → Prints {S = S} {T = T} {E = E} faults held out page mid waiting (Ok x) (take at bytes)
      → Prints {S = S} {T = T} {E = E} faults held mid waiting now later (Ok x) []
      → Prints {S = S} {T = T} {E = E} faults held out page now (later ++ take n (take room (drop at bytes))) (Ok x) (take (at + n) bytes)
  prints_piece bytes at n room le p q =
      prints_same (taken_more bytes at n room le) (prints_more (take n (take room (drop at bytes))) (prints_then p q))

  -- a beginning of them
  pub prints_some : {T E : Type 0} {out mid now : S} {page waiting later : List ℕ} {x : T} {e : E} {q : Result T E}
      (bytes : List ℕ) (at : ℕ)
      → IsErr q → Prints {S = S} {T = T} {E = E} faults held out page mid waiting (Ok x) (take at bytes)
      → Prints {S = S} {T = T} {E = E} faults held mid waiting now later (Err e) []
      → Prints {S = S} {T = T} {E = E} faults held out page now later q bytes
  prints_some bytes at failed p q = prints_same (all_taken bytes at) (prints_front (drop at bytes) failed (prints_then p q))

module _ {X : Type 0} (f : X → List ℕ) (xs : List X) (i : ℕ) where
  with_item : (x : X) → i < length xs → x ≡ get_or xs i x → flat_map f (take i xs) ++ f x ≡ flat_map f (take (i + 1) xs)
  with_item x lt same =
      ap (λ y. flat_map f (take i xs) ++ f y) same
      ∙ sym (ap (flat_map f) (take_more xs i x lt) ∙ sym (flat_map_more f [] (take i xs) (get_or xs i x)))

  around_item : (x : X) → i < length xs → x ≡ get_or xs i x
      → (flat_map f (take i xs) ++ f x) ++ flat_map f (drop (i + 1) xs) ≡ flat_map f xs
  around_item x lt same =
      ap (λ y. (flat_map f (take i xs) ++ f y) ++ flat_map f (drop (i + 1) xs)) same ∙ sym (flat_map_split f xs i x lt)

module _ {S : Type 0} {faults : S → ℕ} {held : S → Option (List ℕ)} where
  -- a beginning of a text, by the rest of it
  pub prints_begun : {T U E F : Type 0} {out now : S} {page waiting : List ℕ} {e : E} {q : Result U F} {text : List ℕ} (more whole : List ℕ)
      → text ++ more ≡ whole → IsErr q → Prints {S = S} {T = T} {E = E} faults held out page now waiting (Err e) text
      → Prints {S = S} {T = U} {E = F} faults held out page now waiting q whole
  prints_begun more whole same failed p = prints_same same (prints_front more failed p)

  module _ {X : Type 0} (f : X → List ℕ) (xs : List X) (i : ℕ) where
    -- one more item
    pub prints_item : {T E : Type 0} {out mid now : S} {page waiting later : List ℕ} {y z : T} (x : X) → i < length xs → x ≡ get_or xs i x
        → Prints {S = S} {T = T} {E = E} faults held out page mid waiting (Ok y) (flat_map f (take i xs))
        → Prints {S = S} {T = T} {E = E} faults held mid waiting now later (Ok z) (f x)
        → Prints {S = S} {T = T} {E = E} faults held out page now later (Ok z) (flat_map f (take (i + 1) xs))
    prints_item x lt same p q = prints_same (with_item f xs i x lt same) (prints_then p q)

    -- items, and a beginning of the next
    pub prints_to_item : {T E : Type 0} {out mid now : S} {page waiting later : List ℕ} {y : T} {e : E} {q : Result T E} (x : X)
        → i < length xs → x ≡ get_or xs i x
        → IsErr q → Prints {S = S} {T = T} {E = E} faults held out page mid waiting (Ok y) (flat_map f (take i xs))
        → Prints {S = S} {T = T} {E = E} faults held mid waiting now later (Err e) (f x)
        → Prints {S = S} {T = T} {E = E} faults held out page now later q (flat_map f xs)
    prints_to_item x lt same failed p r =
        prints_begun (flat_map f (drop (i + 1) xs)) (flat_map f xs) (around_item f xs i x lt same) failed (prints_then p r)

    -- all items
    pub prints_all : {T E : Type 0} {out now : S} {page waiting : List ℕ} {y : T} → length xs ≤ i
        → Prints {S = S} {T = T} {E = E} faults held out page now waiting (Ok y) (flat_map f (take i xs))
        → Prints {S = S} {T = T} {E = E} faults held out page now waiting (Ok y) (flat_map f xs)
    prints_all le p = prints_same (ap (flat_map f) (take_all i xs le)) p

-- one text printed as an element of a list
pub alone : (text : List ℕ) → text ++ [] ≡ text
alone text = append-nil text

-- one item more at the end
pub one_more : {X : Type 0} (f : X → List ℕ) (xs : List X) (x : X) → flat_map f xs ++ f x ≡ flat_map f (xs ++ x ∷ [])
one_more f xs x = sym (flat_map-append f xs (x ∷ []) ∙ ap (λ t. flat_map f xs ++ t) (append-nil (f x)))

some_printed : (before now : Option (List ℕ)) (text : List ℕ) → Grown before now → HoldsFront (printed before []) now text
    → AppendedPrefix before now text
unfolding printed
some_printed None now text grown begun = tt
some_printed (Some held) None text grown begun = absurd grown
some_printed (Some held) (Some all) text grown begun = (grown, begun.1 ∙ ap (λ xs. take (length all) (xs ++ text)) (append-nil held))

all_printed : (before now : Option (List ℕ)) (text : List ℕ) → Appended (printed before []) (printed now []) text → Appended before now text
unfolding printed
all_printed None now text written = tt
all_printed (Some held) None text written = cc
all_printed (Some held) (Some all) text written =
    ap (λ xs. Some xs) (sym (append-nil all)) ∙ written ∙ ap (λ xs. Some (xs ++ text)) (append-nil held)

module _ {S T E : Type 0} {faults : S → ℕ} {held : S → Option (List ℕ)} where
  -- nothing, in other words
  pub prints_no_text : {x : T} (out : S) (page whole : List ℕ) → [] ≡ whole
      → Prints {S = S} {T = T} {E = E} faults held out page out page (Ok x) whole
  prints_no_text out page whole none = prints_same none (prints_nothing out page _)

  pub from_empty_page : {out now : S} {page waiting : List ℕ} {r : Result T E} {text : List ℕ} → page ≡ []
      → Prints {S = S} {T = T} {E = E} faults held out page now waiting r text
      → Prints {S = S} {T = T} {E = E} faults held out [] now waiting r text
  from_empty_page {out = out} {now = now} {waiting = waiting} {r = r} {text = text} none p =
      subst (λ page. Prints faults held out page now waiting r text) none p

  -- the sink holds a beginning of what was printed from an empty page on
  pub taken_some : {out now : S} {waiting : List ℕ} {r : Result T E} {text : List ℕ}
      → Prints {S = S} {T = T} {E = E} faults held out [] now waiting r text
      → AppendedPrefix (held out) (held now) text
  taken_some {out = out} {now = now} {text = text} p = some_printed (held out) (held now) text p.grown p.front

  -- all of it, once the page was handed on
  pub taken_all : {out now : S} {page : List ℕ} {x : T} {text : List ℕ} → page ≡ []
      → Prints {S = S} {T = T} {E = E} faults held out [] now page (Ok x) text → Appended (held out) (held now) text
  taken_all {out = out} {now = now} {text = text} none p =
      all_printed (held out) (held now) text (subst (λ page. Appended (printed (held out) []) (printed (held now) page) text) none p.ok)

-- ---- texts

pub no_stroke : (shape : Shape) (width : ℤ) → [] ≡ stroke_text shape None width
no_stroke (Words x y turned anchor size bold text) width = refl
no_stroke shape width = refl

pub opaque : (m : ℤ) → m ≡ pos 1000000 → [] ≡ opacity_text m
opaque m e = rw e refl

pub no_points : (points : List Point) → length points < 1 → [] ≡ path_text points
no_points [] none = refl
no_points (first ∷ others) none = absurd (omega arith)

pub first_and_others : (points : List Point) (first : Point) → 1 ≤ length points → first ≡ get_or points 0 first
    → point_text first ++ flat_map (λ p. codes " " ++ point_text p) (drop 1 points) ≡ path_text points
first_and_others [] first some same = absurd (omega arith)
first_and_others (point ∷ others) first some same = ap (λ p. point_text p ++ flat_map (λ q. codes " " ++ point_text q) others) same

-- the points after the first, as the pattern gives them
pub others_are : (points : List Point) → take (length points - 1) (drop 1 points) ≡ drop 1 points
others_are points = take_all (length points - 1) (drop 1 points) (omega (arith, length-drop 1 points))

pub attributes_joined : (s n1 e v1 q n2 v2 : List ℕ)
    → s ++ (n1 ++ (e ++ (v1 ++ (q ++ (s ++ (n2 ++ (e ++ (v2 ++ (q ++ []))))))))) ≡ (s ++ n1 ++ e ++ v1 ++ q) ++ (s ++ n2 ++ e ++ v2 ++ q)
attributes_joined s n1 e v1 q n2 v2 = simp (append_assoc, append-nil)

-- two, three and four attributes with numbers after the name of an element, printed two and then the others
pub two_joined : (o s e q n1 v1 n2 v2 : List ℕ)
    → ((o ++ s ++ n1 ++ e) ++ v1) ++ (((q ++ s ++ n2 ++ e) ++ v2) ++ q) ≡ o ++ ((s ++ n1 ++ e ++ v1 ++ q) ++ (s ++ n2 ++ e ++ v2 ++ q))
two_joined o s e q n1 v1 n2 v2 = simp append_assoc

pub three_joined : (o p s e q n1 v1 n2 v2 n3 v3 : List ℕ)
    → (((o ++ p ++ s ++ n1 ++ e) ++ v1) ++ ((q ++ s ++ n2 ++ e) ++ v2)) ++ (((q ++ s ++ n3 ++ e) ++ v3) ++ q)
    ≡ o ++ (p ++ (s ++ n1 ++ e ++ v1 ++ q) ++ (s ++ n2 ++ e ++ v2 ++ q) ++ (s ++ n3 ++ e ++ v3 ++ q))
three_joined o p s e q n1 v1 n2 v2 n3 v3 = simp append_assoc

pub four_joined : (o p s e q n1 v1 n2 v2 n3 v3 n4 v4 : List ℕ)
    → (((o ++ p ++ s ++ n1 ++ e) ++ v1) ++ ((q ++ s ++ n2 ++ e) ++ v2))
    ++ (((q ++ s ++ n3 ++ e) ++ v3) ++ (((q ++ s ++ n4 ++ e) ++ v4) ++ q))
    ≡ o ++ (p ++ (s ++ n1 ++ e ++ v1 ++ q) ++ (s ++ n2 ++ e ++ v2 ++ q) ++ (s ++ n3 ++ e ++ v3 ++ q) ++ (s ++ n4 ++ e ++ v4 ++ q))
four_joined o p s e q n1 v1 n2 v2 n3 v3 n4 v4 = simp append_assoc

-- two numbers after a text
pub pair_joined : (before x k y : List ℕ) → (before ++ x) ++ (k ++ y) ≡ before ++ (x ++ k ++ y)
pair_joined before x k y = simp append_assoc

pub head_joined : (p s nw e w q nh h nv z g : List ℕ)
    → p ++ (s
    ++ (nw ++ (e ++ (w ++ (q ++ (s ++ (nh ++ (e ++ (h ++ (q ++ (s ++ (nv ++ (e ++ (z ++ (w ++ (s ++ (h ++ (q ++ (g ++ [])))))))))))))))))))
    ≡ p ++ (s ++ nw ++ e ++ w ++ q) ++ (s ++ nh ++ e ++ h ++ q) ++ (s ++ nv ++ e ++ (z ++ w ++ s ++ h) ++ q) ++ g
head_joined p s nw e w q nh h nv z g = simp (append_assoc, append-nil)
