-- The rules at work: marks over the fields `c` and `v`, on scales of x and y with the numbers 0 and 1.
use Rattle.std.specs.Prelude.{◌≡◌, refl, ℕ, pos, neg_ℤ, Bool, true, false, Option, Some, None, List, [], ◌∷◌, codes}
use Rattle.cell_value.specs.declared.cell.Cell.TheVariants as cell
use Rattle.vl_normalize.specs.declared.codes.TheConstants.{X, X2}
use Rattle.vl_spec.specs.declared.definitions.Definition.TheVariants as definition
use Rattle.scale_infer.specs.declared.codes.TheConstants.{LINEAR, BAND, POINT}
use Rattle.plan_kit.specs.declared.cells.CellOf.TheVariants.{Field, Written}
use Rattle.plan_kit.specs.declared.marks.Spot.TheVariants.{Pixels, Place, Centre, EndOfBand, Base, Foot}
use Rattle.unit_plan.specs.declared.seen.ScaleSeen.{ScaleSeen}
use Rattle.unit_plan.specs.declared.stacks.Stacked.{Stacked}
use Rattle.unit_plan.specs.Bars.{bar_along}
use Rattle.unit_plan.specs.Branches.{Branch}
use Rattle.unit_plan.specs.Ends.{always, near_on, far_on}
use Rattle.unit_plan.specs.Lanes.{Lane}
use Rattle.unit_plan.specs.Paths.{line_along, area_along}
use Rattle.unit_plan.specs.Points.{point_along}
use Rattle.unit_plan.specs.Rects.{rect_along}
use Rattle.unit_plan.specs.Rules.{rule_along}
use Rattle.unit_plan.specs.Ticks.{tick_along, thin}

-- a scale of a kind, with a range that rises or falls
abbrev seen : ℕ → Bool → ScaleSeen
seen kind rises = record { channel = X; number = 0; kind = kind; rises = rises; alone = false }

-- the scale of a null alone
abbrev alone : ℕ → ScaleSeen
alone kind = record { channel = X; number = 0; kind = kind; rises = true; alone = true }

-- what a field shows
abbrev shows : List ℕ → Branch
shows name = record {
  tests = [];
  shows = definition.Field record {
    field = Some name;
    type_ = None;
    aggregate = None;
    bin = None;
    time_unit = None;
    title = None;
    sort = None;
    scale = None;
    stack = None;
    axis = None;
    legend = None;
    header = None;
    format = None;
    columns = None;
    spacing = None;
  };
}

-- five pixels
abbrev five_pixels : Branch
five_pixels = record { tests = []; shows = definition.Value (cell.Number (pos 5000000)) }

-- x that shows this on a scale, and x2 that shows this; it is the measure or the dimension
abbrev along_x : ScaleSeen → Bool → Option Stacked → List Branch → List Branch → Lane
along_x scale measure stacked branches seconds = record {
  channel = X;
  second = X2;
  scale = Some scale;
  is_measure = measure;
  stacked = stacked;
  branches = branches;
  seconds = seconds;
}

-- no name is a selection's
abbrev no_selection : List ℕ → Bool
no_selection name = false

-- a stack of `v`
abbrev stack_of_v : Stacked
stack_of_v = record { channel = X; name = codes "v"; start = codes "v_start"; end = codes "v_end" }

a_bar_over_its_band : bar_along no_selection (along_x (seen BAND true) false None (shows (codes "c") ∷ []) []) ≡ record {
  near = always (Place 0 (Field (codes "c"))) None ∷ [];
  far = always (EndOfBand 0 (Field (codes "c"))) None ∷ [];
}
a_bar_over_its_band = refl

a_bar_from_its_base : bar_along no_selection (along_x (seen LINEAR true) true None (shows (codes "v") ∷ []) []) ≡ record {
  near = always (Place 0 (Field (codes "v"))) None ∷ [];
  far = always (Base 0) None ∷ [];
}
a_bar_from_its_base = refl

a_bar_to_its_second_end : bar_along no_selection (along_x (seen LINEAR true) true None (shows (codes "v") ∷ []) (shows (codes "w") ∷ [])) ≡ record {
  near = always (Place 0 (Field (codes "v"))) None ∷ [];
  far = always (Place 0 (Field (codes "w"))) None ∷ [];
}
a_bar_to_its_second_end = refl

a_bar_in_a_stack : bar_along no_selection (along_x (seen LINEAR true) true (Some stack_of_v) (shows (codes "v") ∷ []) (shows (codes "w") ∷ [])) ≡ record {
  near = always (Place 0 (Field (codes "v_end"))) None ∷ [];
  far = always (Place 0 (Field (codes "v_start"))) None ∷ [];
}
a_bar_in_a_stack = refl

a_bar_of_five_pixels : bar_along no_selection (along_x (alone BAND) true None (five_pixels ∷ []) []) ≡ record {
  near = always (Pixels (cell.Number (pos 5000000))) None ∷ [];
  far = always Foot None ∷ [];
}
a_bar_of_five_pixels = refl

a_bar_of_nothing : bar_along no_selection (along_x (alone BAND) true None [] []) ≡ record {
  near = always (Place 0 (Written cell.Null)) None ∷ [];
  far = always (Base 0) None ∷ [];
}
a_bar_of_nothing = refl

a_bar_about_its_place : bar_along no_selection (along_x (seen LINEAR true) false None (shows (codes "v") ∷ []) []) ≡ record {
  near = always (Centre 0 (Field (codes "v"))) (Some (neg_ℤ (pos 2500000))) ∷ [];
  far = always (Centre 0 (Field (codes "v"))) (Some (pos 2500000)) ∷ [];
}
a_bar_about_its_place = refl

-- over a bin from `a` to `b`, where the range rises and where it falls
over_a_bin : (near_on true (seen LINEAR true) (Field (codes "a")) (Some (codes "b")) ≡ always (Place 0 (Field (codes "a"))) (Some (pos 1000000)))
    × (far_on (seen LINEAR true) (Field (codes "a")) (Some (codes "b")) ≡ always (Place 0 (Field (codes "b"))) None)
    × (near_on true (seen LINEAR false) (Field (codes "a")) (Some (codes "b")) ≡ always (Place 0 (Field (codes "b"))) (Some (pos 1000000)))
    × (far_on (seen LINEAR false) (Field (codes "a")) (Some (codes "b")) ≡ always (Place 0 (Field (codes "a"))) None)
over_a_bin = (refl, refl, refl, refl)

a_rect_between : rect_along no_selection (along_x (seen LINEAR true) false None (shows (codes "v") ∷ []) (shows (codes "w") ∷ [])) ≡ record {
  near = always (Centre 0 (Field (codes "v"))) None ∷ [];
  far = always (Place 0 (Field (codes "w"))) None ∷ [];
}
a_rect_between = refl

a_point_in_its_band : point_along no_selection (along_x (seen POINT true) false None (shows (codes "c") ∷ []) []) ≡ record {
  near = always (Centre 0 (Field (codes "c"))) None ∷ [];
  far = [];
}
a_point_in_its_band = refl

a_line_has_no_way_back : line_along no_selection (along_x (seen LINEAR true) true None (shows (codes "v") ∷ []) []) ≡ record {
  near = always (Centre 0 (Field (codes "v"))) None ∷ [];
  far = [];
}
a_line_has_no_way_back = refl

an_area_to_its_base : area_along no_selection (along_x (seen LINEAR true) true None (shows (codes "v") ∷ []) []) ≡ record {
  near = always (Centre 0 (Field (codes "v"))) None ∷ [];
  far = always (Base 0) None ∷ [];
}
an_area_to_its_base = refl

a_thin_tick : tick_along no_selection thin (along_x (seen LINEAR true) true None (shows (codes "v") ∷ []) []) ≡ record {
  near = always (Centre 0 (Field (codes "v"))) (Some (neg_ℤ (pos 500000))) ∷ [];
  far = always (Centre 0 (Field (codes "v"))) (Some (pos 500000)) ∷ [];
}
a_thin_tick = refl

a_rule_over_the_plot : rule_along no_selection (along_x (alone BAND) false None [] []) ≡ record { near = []; far = [] }
a_rule_over_the_plot = refl
