use Rattle.vega_writing.specs.Domains.{field_domain_slots}
use Rattle.vega_writing.proofs.domains.FieldDomainWritten.tree.Goals as goal

pub returns : goal.returns
unfolding field_domain_slots
returns c =
    c.object.ensures _ (c.with_if-slots.ensures _ (c.with-slots-2.ensures _ (c.with-slots.ensures _ c.no_slots-slots.ensures)))
