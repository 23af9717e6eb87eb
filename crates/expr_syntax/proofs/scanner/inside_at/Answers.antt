use Rattle.std.proofs.Common.{◌≡◌, ◌++◌, ◌+◌, drop, ℕ, refl, ap, sym, subst, ◌∙◌, length, string_bytes}
use Rattle.std.specs.Str.{IsCharBoundary}
use Rattle.std.specs.Prelude.{encode_utf8}
use Rattle.expr_syntax.proofs.Texts.{Reached-at, reached_start, reached_escape, reached_fault, reached_quote, reached_backslash}
use Rattle.expr_syntax.proofs.Texts.{reached_char, reached_end, cut_behind_quote, quote_ascii, quote_no_escape}
use Rattle.expr_syntax.proofs.scanner.inside_at.Goals as goal

pub loop-i-init : goal.loop-i-init
loop-i-init c =
    let same = c.into_iter-i-iterator.ensures.into_iter_gives in
    Reached-at _ _ _ _ _ _ _ _ _ _ (sym c.new-out.ensures.bytes) refl
    (sym c.char_indices-i-items.ensures.rest ∙ sym (ap (λ s. s.rest.now) same))
    (sym c.char_indices-i-items.ensures.offset ∙ sym (ap (λ s. s.at) same)) (reached_start c.args.quote c.args.text.now)

pub returns-in-None-unescape : goal.returns-in-None-unescape
returns-in-None-unescape c =
    let s = c.in-Some.ensures.steps in
    let r = Reached-at _ _ _ _ _ _ _ _ _ _ refl c.if-escaped.true refl refl c.loop-i.invariant in
    reached_fault c.args.quote c.args.text.now (string_bytes c.loop-i.out) c.loop-i.i-iterator.rest.now c.next.new.self.rest.now
    c.loop-i.i-iterator.at c.in-Some.c r s.1 (sym c.unescape.ensures ∙ c.in-None-unescape.is)

pub loop-i-preserved-then-escaped : goal.loop-i-preserved-then-escaped
loop-i-preserved-then-escaped c =
    let s = c.in-Some.ensures.steps in
    let r = Reached-at _ _ _ _ _ _ _ _ _ _ refl c.if-escaped.true refl refl c.loop-i.invariant in
    Reached-at _ _ _ _ _ _ _ _ _ _ (sym c.in_ok-push-in-Some-unescape.ensures.bytes) refl refl (sym s.2)
    (reached_escape c.args.quote c.args.text.now (string_bytes c.loop-i.out) c.loop-i.i-iterator.rest.now c.next.new.self.rest.now
    c.loop-i.i-iterator.at c.in-Some.c c.in-Some-unescape.meant r s.1 (sym c.unescape.ensures ∙ c.in-Some-unescape.is))

pub range_from-requires : goal.range_from-requires
range_from-requires c = λ some.
    let s = c.in-Some.ensures.steps in
    let r = Reached-at _ _ _ _ _ _ _ _ _ _ refl c.if-escaped.false refl refl c.loop-i.invariant in
    let parts = s.1 ∙ ap (λ (x : ℕ). encode_utf8 x ++ c.next.new.self.rest.now) c.if-c-quote.true in
    subst (λ (n : ℕ). IsCharBoundary c.args.text.now (n + 1)) (sym s.0)
    (cut_behind_quote c.args.quote c.args.text.now (string_bytes c.loop-i.out) c.loop-i.i-iterator.rest.now c.next.new.self.rest.now
    c.loop-i.i-iterator.at c.utf8.text (quote_ascii c.args.quote c.requires) r parts)

pub returns-then-c-quote : goal.returns-then-c-quote
returns-then-c-quote c =
    let s = c.in-Some.ensures.steps in
    let r = Reached-at _ _ _ _ _ _ _ _ _ _ refl c.if-escaped.false refl refl c.loop-i.invariant in
    let parts = s.1 ∙ ap (λ (x : ℕ). encode_utf8 x ++ c.next.new.self.rest.now) c.if-c-quote.true in
    let rest : drop (c.loop-i.i-iterator.at + 1) c.args.text.now ≡ c.range_from.result.now =
    ap (λ (n : ℕ). drop (n + 1) c.args.text.now) (sym s.0) ∙ sym c.range_from.ensures.value in
    let h =
    reached_quote c.args.quote c.args.text.now (string_bytes c.loop-i.out) c.loop-i.i-iterator.rest.now c.next.new.self.rest.now
    c.loop-i.i-iterator.at (quote_ascii c.args.quote c.requires) r parts in
    rw (c.from_string.ensures, ← rest) h

pub loop-i-preserved-then-c-eq92 : goal.loop-i-preserved-then-c-eq92
loop-i-preserved-then-c-eq92 c =
    let s = c.in-Some.ensures.steps in
    let r = Reached-at _ _ _ _ _ _ _ _ _ _ refl c.if-escaped.false refl refl c.loop-i.invariant in
    let parts = s.1 ∙ ap (λ (x : ℕ). encode_utf8 x ++ c.next.new.self.rest.now) c.if-c-eq92.true in
    let place = s.2 ∙ ap (λ (x : ℕ). c.loop-i.i-iterator.at + length (encode_utf8 x)) c.if-c-eq92.true in
    Reached-at _ _ _ _ _ _ _ _ _ _ refl refl refl (sym place)
    (reached_backslash c.args.quote c.args.text.now (string_bytes c.loop-i.out) c.loop-i.i-iterator.rest.now c.next.new.self.rest.now
    c.loop-i.i-iterator.at (quote_no_escape c.args.quote c.requires) r parts)

pub loop-i-preserved : goal.loop-i-preserved
loop-i-preserved c =
    let s = c.in-Some.ensures.steps in
    let r = Reached-at _ _ _ _ _ _ _ _ _ _ refl c.if-escaped.false refl refl c.loop-i.invariant in
    Reached-at _ _ _ _ _ _ _ _ _ _ (sym c.in_ok-push.ensures.bytes) (sym c.if-escaped.false) refl (sym s.2)
    (reached_char c.args.quote c.args.text.now (string_bytes c.loop-i.out) c.loop-i.i-iterator.rest.now c.next.new.self.rest.now
    c.loop-i.i-iterator.at c.in-Some.c (quote_ascii c.args.quote c.requires) c.if-c-quote.false c.if-c-eq92.false r s.1)

pub returns : goal.returns
returns c =
    reached_end c.args.quote c.args.text.now (string_bytes c.loop-i.out) c.loop-i.i-iterator.rest.now c.loop-i.escaped
    c.loop-i.i-iterator.at c.loop-i.invariant c.in-None.ensures.steps.0
