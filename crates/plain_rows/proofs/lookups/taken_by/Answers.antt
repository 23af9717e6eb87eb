use Rattle.std.proofs.Common.{sym}
use Rattle.plain_rows.proofs.LookupLemmas.{id_of_place}
use Rattle.plain_rows.proofs.lookups.taken_by.Goals as goal

pub taken_of-requires-clause-id : goal.taken_of-requires-clause-id
taken_of-requires-clause-id c = id_of_place c.args.places.now c.args.other.now c.in_ok-key.key c.in-Some.there.now c.requires.other (sym c.in-Some.ensures)
