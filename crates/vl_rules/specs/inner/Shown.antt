-- What contracts see of views and units that are lent.
use Rattle.std.specs.Prelude.{Option, map}
use Rattle.vl_spec.specs.declared.marks.Mark.{Mark}
use Rattle.vl_compose.specs.Rounds.{ViewAt, Round}
use Rattle.vl_compose.specs.Shown.{round_shown, view_shown}
use Rattle.vl_compose.specs.Units.{channels_at}
use Rattle.vl_trails.specs.Trails.{Trail}
use Rattle.vl_rules.specs.declared.leads.LedView.{LedView}
use Rattle.vl_rules.specs.declared.marked.Marked.{Marked}
use Rattle.vl_rules.specs.declared.parts.Part.{Part}
use Rattle.vl_rules.specs.Leads.{LedAt, trail_of}
use Rattle.vl_rules.specs.Marked.{MarkedAt}
use Rattle.vl_rules.specs.Parts.{PartAt}

-- a view to which these steps lead
abbrev pub led_at : Trail → ViewAt → LedAt
led_at trail view = record { trail = trail; view = view }

abbrev pub led_shown : LedView → LedAt
led_shown l = led_at l.trail (view_shown l.here)

-- a unit of this mark
abbrev pub marked_with : Option Mark → Round → MarkedAt
marked_with mark round = record { round = round; trail = trail_of round; mark = mark; channels = channels_at round }

abbrev pub marked_shown : Marked → MarkedAt
marked_shown m = record {
  round = round_shown m.round;
  trail = m.trail;
  mark = m.mark.now;
  channels = map (λ c. c.now) m.channels;
}

abbrev pub part_shown : Part → PartAt
part_shown p = record { unit = marked_shown p.unit; number = p.number; channels = map (λ c. c.now) p.channels }
