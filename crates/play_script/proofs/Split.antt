-- How the bytes of a script are split into lines, byte by byte.
use Rattle.std.proofs.Common.{◌≡◌, ◌≢◌, ◌⊎◌, inl, inr, ℕ, true, false, eqb, List, [], ◌∷◌, ◌++◌, length, take, refl, sym, ap, subst, ◌∙◌}
use Rattle.std.proofs.Common.{append_assoc, append-nil, arith, length-append, ne_eqb}
use Rattle.std.proofs.lemmas.Bool.Decides.{eqb_tells}
use Rattle.std.proofs.lemmas.List.{take_at}
use Rattle.std.proofs.lemmas.List.Elements.{All-nil, All-push}
use Rattle.param_flow.specs.Script.{lines_of, ended_lines, without_last}
use Rattle.play_script.specs.inner.Pending.{AreSplit, without_last_return}
use Rattle.play_script.proofs.Feeds.{line_at_feed, line_at_end}

pub split_first : AreSplit [] [] []
split_first = record { few = omega arith; no_feed = All-nil (λ b. eqb b 10 ≡ false); lines = λ rest. refl }

-- a byte that is no line feed
pub split_on : (taken : List ℕ) (done : List (List ℕ)) (begun : List ℕ) (byte : ℕ) → byte ≢ 10 → AreSplit taken done begun
    → AreSplit (taken ++ byte ∷ []) done (begun ++ byte ∷ [])
split_on taken done begun byte other h = record {
  few = let few = h.few in let e = length-append taken (byte ∷ []) in omega arith;
  no_feed = All-push (λ b. eqb b 10 ≡ false) begun byte h.no_feed (ne_eqb byte 10 other);
  lines = λ rest. ap lines_of (append_assoc taken (byte ∷ []) rest) ∙ h.lines (byte ∷ rest)
      ∙ ap (λ xs. done ++ lines_of xs) (sym (append_assoc begun (byte ∷ []) rest));
}

-- a line feed
pub split_feed : (taken : List ℕ) (done : List (List ℕ)) (begun : List ℕ) (byte : ℕ) → byte ≡ 10 → AreSplit taken done begun
    → AreSplit (taken ++ byte ∷ []) (done ++ without_last_return begun ∷ []) []
split_feed taken done begun byte feed h = record {
  few = let few = h.few in let e = length-append taken (byte ∷ []) in let f =
      length-append done (without_last_return begun ∷ []) in omega arith;
  no_feed = All-nil (λ b. eqb b 10 ≡ false);
  lines = λ rest.
      ap lines_of (append_assoc taken (byte ∷ []) rest) ∙ h.lines (byte ∷ rest) ∙ ap (λ b. done ++ lines_of (begun ++ b ∷ rest)) feed
      ∙ ap (λ lines. done ++ lines) (line_at_feed begun rest h.no_feed)
      ∙ sym (append_assoc done (without_last_return begun ∷ []) (lines_of rest));
}

-- the lines at the script's end
pub split_end : (taken : List ℕ) (done : List (List ℕ)) (begun : List ℕ) → AreSplit taken done begun → lines_of taken ≡ done ++ begun ∷ []
split_end taken done begun h =
    ap lines_of (sym (append-nil taken)) ∙ h.lines [] ∙ ap (λ xs. done ++ lines_of xs) (append-nil begun)
    ∙ ap (λ lines. done ++ lines) (line_at_end begun h.no_feed)

without_the_last : (done : List (List ℕ)) (line : List ℕ) → without_last (done ++ line ∷ []) ≡ done
without_the_last [] line = refl
without_the_last (first ∷ []) line = refl
without_the_last (first ∷ next ∷ done) line = ap (λ lines. first ∷ lines) (without_the_last (next ∷ done) line)

-- the lines that have ended
pub split_ended : (taken : List ℕ) (done : List (List ℕ)) (begun : List ℕ) → AreSplit taken done begun → ended_lines taken ≡ done
split_ended taken done begun h = ap without_last (split_end taken done begun h) ∙ without_the_last done begun

-- they are first lines of the script
pub split_front : (taken rest : List ℕ) (done : List (List ℕ)) (begun : List ℕ) → AreSplit taken done begun
    → take (length done) (lines_of (taken ++ rest)) ≡ done
split_front taken rest done begun h = ap (take (length done)) (h.lines rest) ∙ take_at done (lines_of (begun ++ rest)) (length done) refl

-- any bytes are split so
record HasSplit (taken : List ℕ) : Type 0 where
  pub done : List (List ℕ)
  pub begun : List ℕ
  pub is : AreSplit taken done begun

split_byte : (taken : List ℕ) (byte : ℕ) → ((eqb byte 10 ≡ true) × (byte ≡ 10)) ⊎ ((eqb byte 10 ≡ false) × (byte ≢ 10)) → HasSplit taken
    → HasSplit (taken ++ byte ∷ [])
split_byte taken byte (inl feed) h = record { done = _; begun = _; is = split_feed taken h.done h.begun byte feed.1 h.is }
split_byte taken byte (inr other) h = record { done = _; begun = _; is = split_on taken h.done h.begun byte other.1 h.is }

split_bytes : (taken more : List ℕ) → HasSplit taken → HasSplit (taken ++ more)
split_bytes taken [] h = subst HasSplit (sym (append-nil taken)) h
split_bytes taken (byte ∷ more) h =
    subst HasSplit (append_assoc taken (byte ∷ []) more)
    (split_bytes (taken ++ byte ∷ []) more (split_byte taken byte (eqb_tells byte 10) h))

pub ended_first : (taken rest : List ℕ) → (k : ℕ) × (ended_lines taken ≡ take k (lines_of (taken ++ rest)))
ended_first taken rest =
    let h = split_bytes [] taken (record { done = []; begun = []; is = split_first }) in
    (length h.done, split_ended taken h.done h.begun h.is ∙ sym (split_front taken rest h.done h.begun h.is))
