-- The members of objects: marks.
use Rattle.std.specs.Prelude.{ℕ, None, List, [], ◌∷◌, codes}
use Rattle.spec_schema.specs.declared.layout.Layout.{Layout}
use Rattle.spec_schema.specs.declared.layout.Test.TheVariants.{Says}
use Rattle.spec_schema.specs.Tables.{must, may}
use Rattle.vl_schema.specs.declared.codes.TheConstants.{ALIGN, BASELINE, COUNT, FLAG, FREE, INTERPOLATE, LOOK, MARK, MARK_TYPE, SHARE, SHIFT}
use Rattle.vl_schema.specs.declared.codes.TheConstants.{TEXT}

-- a mark of a type that has a size
unfoldable pub sized_mark : List ℕ → Layout
sized_mark name = record {
  object = MARK;
  when = Says (codes "type") name ∷ [];
  rules =
      must (codes "type") MARK_TYPE ∷ may (codes "color") TEXT ∷ may (codes "opacity") SHARE ∷
      may (codes "filled") FLAG ∷ may (codes "point") FLAG ∷ may (codes "size") LOOK ∷
      may (codes "strokeWidth") LOOK ∷ may (codes "align") ALIGN ∷ may (codes "baseline") BASELINE ∷
      may (codes "dx") SHIFT ∷ may (codes "dy") SHIFT ∷ may (codes "fontSize") COUNT ∷
      may (codes "interpolate") INTERPOLATE ∷ may (codes "tooltip") FREE ∷
      [];
  others = None;
}

-- any other mark
unfoldable pub mark : Layout
mark = record {
  object = MARK;
  when = [];
  rules =
      must (codes "type") MARK_TYPE ∷ may (codes "color") TEXT ∷ may (codes "opacity") SHARE ∷
      may (codes "filled") FLAG ∷ may (codes "point") FLAG ∷ may (codes "strokeWidth") LOOK ∷
      may (codes "align") ALIGN ∷ may (codes "baseline") BASELINE ∷ may (codes "dx") SHIFT ∷ may (codes "dy") SHIFT ∷
      may (codes "fontSize") COUNT ∷ may (codes "interpolate") INTERPOLATE ∷ may (codes "tooltip") FREE ∷
      [];
  others = None;
}

-- all of these
unfoldable pub all_marks : List Layout
all_marks =
    sized_mark (codes "point") ∷ sized_mark (codes "circle") ∷ sized_mark (codes "square") ∷ mark ∷
    []
