-- Scales that can be inverted.
use Rattle.std.proofs.Common.{◌≢◌, ℤ, sym, ap, ◌∙◌}
use Rattle.std.specs.Prelude.{not, IsTrue}
use Rattle.std.specs.Ordering.{int_eq}
use Rattle.std.proofs.lemmas.Bool.Decides.{Decides-int_eq}
use Rattle.scale_kit.specs.declared.scale.Scale.{Scale}
use Rattle.scale_kit.specs.declared.scale.Scale.TheVariants.{Linear, Time, Band, Point, Ordinal, Ramp}
use Rattle.scale_kit.specs.Scale.{HasInverse}
use Rattle.selection_events.specs.Drags.{can_invert}

apart : (a b : ℤ) → IsTrue (not (int_eq a b)) → a ≢ b
apart a b differ same = absurd (cc (sym (ap not ((Decides-int_eq a b).1 same)) ∙ differ))

pub has_inverse : (s : Scale) → IsTrue (can_invert s) → HasInverse s
has_inverse (Linear d0 d1 r0 r1) h = apart r0 r1 h
has_inverse (Time d0 d1 r0 r1) h = apart r0 r1 h
has_inverse (Band domain inner outer r0 r1) h = absurd (cc h)
has_inverse (Point domain outer r0 r1) h = absurd (cc h)
has_inverse (Ordinal domain range) h = absurd (cc h)
has_inverse (Ramp time d0 d1 from to) h = absurd (cc h)
