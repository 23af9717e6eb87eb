-- The entries of a signal one after another.
use Rattle.std.proofs.Common.{◌≡◌, ℕ, ◌+◌, ◌<◌, List, ◌++◌, length, take, drop, get_or, refl}
use Rattle.std.proofs.lemmas.List.{drop_more, take_more}
use Rattle.vega_parts.specs.declared.selections.Entry.{Entry}
use Rattle.vega_parts.specs.declared.selections.Concerned.{Concerned}
use Rattle.vega_parts.specs.Selections.{entry_parts, entries_parts}

pub one_more_entry : (concerned : Concerned) (entries : List Entry) (i : ℕ) (d : Entry) → i < length entries →
    entries_parts concerned (take i entries) (drop i entries)
    ≡ entry_parts concerned (take i entries) (get_or entries i d)
    ++ entries_parts concerned (take (i + 1) entries) (drop (i + 1) entries)
one_more_entry concerned entries i d lt = rw (drop_more entries i d lt, take_more entries i d lt) refl
