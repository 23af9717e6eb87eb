-- The top of a compiled specification.
use Rattle.std.proofs.Common.{◌≡◌, ℕ, List, ap, ◌∙◌}
use Rattle.vega_spec.specs.declared.data.DataSet.{DataSet}
use Rattle.vega_spec.specs.declared.signals.Signal.{Signal}
use Rattle.vega_spec.specs.declared.spec.Group.{roll-Group, out-roll-Group}
use Rattle.vega_spec.specs.declared.spec.VgMark.{VgMark}
use Rattle.vl_spec.specs.declared.spec.VlSpec.{VlSpec}
use Rattle.plan_kit.specs.declared.plan.Plan.{Plan}
use Rattle.vega_assemble.specs.declared.views.Opened.{Opened}
use Rattle.vega_assemble.specs.Assembled.{held_at_top, sets_of, written_with}
use Rattle.vega_assemble.specs.Made.{MadeObject, MadeView, group_of, parts_of, rolled}
use Rattle.vega_assemble.specs.Signals.{signals_of}
use Rattle.vega_assemble.specs.Views.{view_made}
use Rattle.vega_assemble.specs.inner.Groups.{lists_in, top_with, with_lists}
use Rattle.vega_assemble.specs.inner.Holders.{opened}

-- data sets and signals put into the group of an object
lists_put : (o : MadeObject) (marks : List VgMark) (sets : List DataSet) (signals : List Signal)
    → lists_in (group_of o marks) sets signals ≡ roll-Group (with_lists (parts_of o marks) sets signals)
lists_put o marks sets signals = ap (λ parts. roll-Group (with_lists parts sets signals)) (out-roll-Group (parts_of o marks))

-- the top, as the code puts it together
pub top_is : (stem : List ℕ) (s : VlSpec) (p : Plan) (made : Opened) → made ≡ opened (view_made stem p p.view (held_at_top stem p))
    → top_with (lists_in made.group (sets_of stem s p) (signals_of stem p.scales p.selections s.params)) made.extent p.padding ≡ written_with stem s p
top_is stem s p made is =
    let v : MadeView = view_made stem p p.view (held_at_top stem p) in
    ap (λ (o : Opened). top_with (lists_in o.group (sets_of stem s p) (signals_of stem p.scales p.selections s.params)) o.extent p.padding) is
    ∙ ap (λ group. top_with group v.object.extent p.padding)
    (lists_put v.object (rolled v.marks) (sets_of stem s p) (signals_of stem p.scales p.selections s.params))
