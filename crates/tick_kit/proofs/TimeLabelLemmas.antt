-- Each default pattern has a label.
use Rattle.std.proofs.Common.{◌≡◌, ℕ, Bool, true, false, not, if◌then◌else◌, ◌==◌, ℤ, Some, List, Result, Ok, Err, IsTrue, refl, sym, ap, ◌∙◌, codes}
use Rattle.std.specs.Str.{chars}
use Rattle.time_calc.specs.declared.labels.LabelError.{LabelError}
use Rattle.time_calc.specs.Instants.{instant_at, stands_for_instant, day_of_instant}
use Rattle.time_calc.specs.Calendar.{weekday_of}
use Rattle.time_calc.specs.Boundaries.{begins_second, begins_minute, begins_hour, begins_day, begins_month, month_from_0}
use Rattle.time_calc.specs.Labels.{Piece, label, label_of, pieces, directive_of}
use Rattle.tick_kit.specs.TimeTicks.{whole_milliseconds}
use Rattle.tick_kit.specs.TimeLabels.{default_pattern, text_or_nothing, time_label}
use Rattle.tick_kit.proofs.PartLemmas.{instant_there}

-- the pattern by what an instant begins
pattern_by : (second minute hour day month sunday january : Bool) → List ℕ
pattern_by second minute hour day month sunday january =
    if not second then codes ".%L"
    else (if not minute then codes ":%S"
    else (if not hour then codes "%I:%M"
    else (if not day then codes "%I %p"
    else (if not month then (if sunday then codes "%b %d" else codes "%a %d")
    else (if january then codes "%Y" else codes "%B")))))

-- a text has pieces
abbrev HasPieces : List ℕ → Type 0
HasPieces text = (ps : List Piece) × (pieces false (chars text) ≡ Some ps)

has_pieces : (second minute hour day month sunday january : Bool) → HasPieces (pattern_by second minute hour day month sunday january)
unfolding pattern_by pieces directive_of chars
has_pieces false minute hour day month sunday january = (_, refl)
has_pieces true false hour day month sunday january = (_, refl)
has_pieces true true false day month sunday january = (_, refl)
has_pieces true true true false month sunday january = (_, refl)
has_pieces true true true true false true january = (_, refl)
has_pieces true true true true false false january = (_, refl)
has_pieces true true true true true sunday true = (_, refl)
has_pieces true true true true true sunday false = (_, refl)

pattern_has_pieces : (instant : ℤ) → HasPieces (default_pattern instant)
unfolding pattern_by
pattern_has_pieces instant =
    has_pieces (begins_second instant) (begins_minute instant) (begins_hour instant) (begins_day instant) (begins_month instant)
    (weekday_of (day_of_instant instant) == 0) (month_from_0 instant == 0)

pub has_label : (number : ℤ) → IsTrue (stands_for_instant number) → (text : List ℕ) × (label number (default_pattern (whole_milliseconds number)) ≡ Ok text)
has_label number h =
    let known = pattern_has_pieces (whole_milliseconds number) in
    (_, ap (λ o. label_of o (instant_at number)) known.1 ∙ ap (label_of (Some known.0)) (instant_there number h))

not_both : (r : Result (List ℕ) LabelError) (e : LabelError) (text : List ℕ) → r ≡ Err e → r ≡ Ok text → ⊥
not_both r e text fault ok = cc

-- it has no fault
pub no_fault : (number : ℤ) (pattern : List ℕ) (e : LabelError) → IsTrue (stands_for_instant number)
    → pattern ≡ default_pattern (whole_milliseconds number) → label number pattern ≡ Err e → ⊥
no_fault number pattern e h is fault =
    let known = has_label number h in
    not_both (label number pattern) e known.0 fault (ap (label number) is ∙ known.1)

pub labelled : (number : ℤ) (pattern text : List ℕ) → pattern ≡ default_pattern (whole_milliseconds number)
    → label number pattern ≡ Ok text → text ≡ time_label number
unfolding time_label
labelled number pattern text is given = sym (ap text_or_nothing (sym (ap (label number) is) ∙ given))
