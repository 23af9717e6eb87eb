-- Where the parts of an axis stand, by its side.
use Rattle.std.specs.Prelude.{ℕ, ◌-◌, Bool, true, false, ◌&&◌, if◌then◌else◌, ℤ, pos}
use Rattle.scene_tree.specs.declared.shape.Anchor.{Anchor}
use Rattle.scene_tree.specs.declared.shape.Anchor.TheVariants.{Start, Middle, End}
use Rattle.guide_kit.specs.declared.frames.Side.{Side}
use Rattle.guide_kit.specs.declared.frames.Side.TheVariants.{Bottom, Top, Left, Right}
use Rattle.guide_kit.specs.declared.frames.Plan.{Plan}
use Rattle.guide_kit.specs.declared.frames.AxisFrame.{AxisFrame}
use Rattle.guide_kit.specs.Measures.{pixels, plus, minus}

-- What differs between the sides: whether the axis runs along x; whether outward is away from the plot's origin; how many pixels outward
-- labels stand beyond ticks; and their anchor, upright and turned. Labels at the left and right are never turned.
abbrev pub plan_of : Side → Plan
plan_of Bottom = record { along_x = true; far = true; label = 17; upright = Middle; turned = End }
plan_of Top = record { along_x = true; far = false; label = 7; upright = Middle; turned = Start }
plan_of Left = record { along_x = false; far = false; label = 7; upright = End; turned = End }
plan_of Right = record { along_x = false; far = true; label = 7; upright = Start; turned = Start }

-- An axis at a plot of this size, moved outward by an offset: how long it is, how far the plot extends across it, and where its line stands
-- across it, at the plot's far edge or at its origin.
abbrev pub frame_for : Plan → ℤ → ℤ → ℤ → AxisFrame
frame_for plan width height offset =
    let depth = if plan.along_x then height else width in
    record {
      plan = plan;
      size = if plan.along_x then width else height;
      depth = depth;
      edge = if plan.far then plus depth offset else minus (pos 0) offset;
    }

abbrev pub frame_of : Side → ℤ → ℤ → ℤ → AxisFrame
frame_of side = frame_for (plan_of side)

-- so many pixels outward from the line
abbrev pub outward : AxisFrame → ℕ → ℤ
outward f n = if f.plan.far then plus f.edge (pixels n) else minus f.edge (pixels n)

-- whether labels are turned, where that is asked
abbrev pub are_turned : AxisFrame → Bool → Bool
are_turned f asked = asked && f.plan.along_x

-- the anchor of labels
abbrev pub label_anchor : AxisFrame → Bool → Anchor
label_anchor f turned = if turned then f.plan.turned else f.plan.upright

-- how far outward labels stand beyond ticks: turned ones as far as at the top
abbrev pub label_beyond : AxisFrame → Bool → ℕ
label_beyond f turned = if turned then 7 else f.plan.label

-- how far outward labels stand: without ticks 5 pixels less
abbrev pub label_distance : AxisFrame → Bool → Bool → ℕ
label_distance f turned ticks = if ticks then label_beyond f turned else (label_beyond f turned - 5)

-- where the label of a tick stands along the axis: turned, and at an axis along y, 3 pixels on
abbrev pub label_along : AxisFrame → Bool → ℤ → ℤ
label_along f turned place = if f.plan.along_x then (if turned then plus place (pixels 3) else place) else plus place (pixels 3)

-- how far outward a title stands: at the extent, less 11 pixels where outward is toward lesser places
abbrev pub title_distance : AxisFrame → ℕ → ℕ
title_distance f extent = if f.plan.far then extent else extent - 11
