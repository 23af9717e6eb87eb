-- The one unit of the specification of a form, which is in normal form.
use Rattle.std.proofs.Common.{◌≡◌, Bool, true, false, List, [], ◌∷◌, Option, Some, None, refl, sym, ap, ◌∙◌}
use Rattle.json_exact.specs.declared.json.Json.{Json}
use Rattle.vl_spec.specs.declared.views.Unit.{Unit as UnitView}
use Rattle.vl_spec.specs.declared.views.View.{fold-roll-View}
use Rattle.vl_spec.specs.declared.views.ViewKind.{ViewKind, fold-ViewKind, fold-roll-ViewKind}
use Rattle.vl_spec.specs.declared.views.ViewKind.TheVariants as kind
use Rattle.vl_spec.specs.declared.views.ViewKind.TheOpen as level
use Rattle.vl_normalize.specs.Channels.{channels_in, with_around}
use Rattle.vl_normalize.specs.Normal.{unit_of, unit_form, normal_view, normal_form}
use Rattle.vl_normalize.proofs.NormalLemmas.{of_view, of_unit}
use Rattle.vl_compose.specs.Rounds.{AUnit, ViewAt, Round, Inside, Opened, with_inside, rounds_in}
use Rattle.vl_compose.specs.Rounds.{kind_here as kind_opened, faceted_here as facet_opened, joined_here as joined_opened}
use Rattle.vl_compose.specs.Rounds.{layer_here as layer_opened, view_here as view_opened}
use Rattle.vl_compose.specs.Units.{UnitAt, units_among, units_of}
use Rattle.first_form.specs.declared.form.FirstForm.{FirstForm}
use Rattle.chart_meaning.specs.FirstForms.{channels_of, head_of, bar, bars_view, form_spec}

abbrev pub unit_view : Bool → FirstForm → UnitView
unit_view y_first form = record { mark = bar; encoding = Some (record { channels = channels_of y_first form }) }

abbrev pub form_at : Bool → FirstForm → ViewAt
form_at y_first form = record {
  number = 0;
  child = 0;
  name = None;
  title = None;
  data_ = Some form.name;
  transform = None;
  params = [];
  width = None;
  height = None;
  resolve = None;
  kind = AUnit (unit_view y_first form);
}

abbrev pub form_unit_at : Bool → FirstForm → UnitAt
form_unit_at y_first form = record { number = 0; round = form_at y_first form ∷ []; mark = bar; channels = channels_of y_first form }

-- neither of its channels is one of a facet, and bars aren't a layer of two marks
plain_unit : (y_first : Bool) (form : FirstForm)
    → unit_form bar (with_around (channels_in (unit_view y_first form).encoding) []) (head_of form) ≡ bars_view y_first form
plain_unit false form = refl
plain_unit true form = refl

normal_known : (y_first : Bool) (form : FirstForm) → normal_view (bars_view y_first form) [] ≡ bars_view y_first form
normal_known y_first form =
    of_view (head_of form) (unit_of bar (channels_of y_first form)) [] ∙ of_unit (unit_view y_first form) [] (head_of form) ∙ plain_unit y_first form

pub normal_form_known : (y_first : Bool) (values : Option Json) (form : FirstForm)
    → normal_form (form_spec y_first values form) ≡ form_spec y_first values form
normal_form_known y_first values form = ap (λ v. record (form_spec y_first values form) { view = v }) (normal_known y_first form)

-- a unit is opened as itself, with nothing inside
abbrev kind_at : ViewKind → Opened
kind_at = fold-ViewKind Opened Opened Opened Opened Inside kind_opened facet_opened joined_opened layer_opened view_opened

unit_opened : (u : UnitView) → kind_at (kind.Unit u) ≡ record { kind = AUnit u; inside = [] }
unit_opened u =
    ap kind_at (sym (kind.rolls-Unit u))
    ∙ fold-roll-ViewKind Opened Opened Opened Opened Inside kind_opened facet_opened joined_opened layer_opened view_opened (level.Unit u)

module _ (y_first : Bool) (form : FirstForm) where
  -- the round of a view of this kind, once it is opened
  abbrev round_by : Opened → List Round
  round_by o = with_inside o.inside (record (form_at y_first form) { kind = o.kind } ∷ []) 0

  opened_by_kind : rounds_in (bars_view y_first form) [] 0 0 ≡ round_by (kind_at (kind.Unit (unit_view y_first form)))
  opened_by_kind = ap (λ (f : Inside). f [] 0 0)
      (fold-roll-View Opened Opened Opened Opened Inside kind_opened facet_opened joined_opened layer_opened view_opened (record {
        name = None;
        title = None;
        data_ = Some form.name;
        transform = None;
        params = [];
        width = None;
        height = None;
        resolve = None;
        kind = kind.Unit (unit_view y_first form);
      }))

  rounds_known : rounds_in (bars_view y_first form) [] 0 0 ≡ (form_at y_first form ∷ []) ∷ []
  rounds_known = opened_by_kind ∙ ap round_by (unit_opened (unit_view y_first form))

-- bars have a use for both channels
used_channels : (y_first : Bool) (form : FirstForm) → units_among 0 ((form_at y_first form ∷ []) ∷ []) ≡ form_unit_at y_first form ∷ []
used_channels false form = refl
used_channels true form = refl

pub units_known : (y_first : Bool) (values : Option Json) (form : FirstForm)
    → units_of (form_spec y_first values form) ≡ form_unit_at y_first form ∷ []
units_known y_first values form = ap (units_among 0) (rounds_known y_first form) ∙ used_channels y_first form
