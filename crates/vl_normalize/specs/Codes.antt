-- The codes of channels are those of their names.
use Rattle.std.specs.Prelude.{◌≡◌, Some, [], ◌∷◌, map, codes, refl}
use Rattle.case_table.specs.Names.{index_of, channels}
use Rattle.vl_normalize.specs.declared.codes.TheConstants.{X, Y, X2, Y2, COLOR, OPACITY, SIZE, SHAPE, DETAIL, TEXT, ROW, COLUMN, FACET}

places_and_looks :
    map (index_of channels) (codes "x" ∷ codes "y" ∷ codes "x2" ∷ codes "y2" ∷ codes "color" ∷ codes "opacity" ∷ codes "size" ∷ codes "shape" ∷ [])
    ≡ Some X ∷ Some Y ∷ Some X2 ∷ Some Y2 ∷ Some COLOR ∷ Some OPACITY ∷ Some SIZE ∷ Some SHAPE ∷ []
places_and_looks = refl

groups_and_facets :
    map (index_of channels) (codes "detail" ∷ codes "text" ∷ codes "row" ∷ codes "column" ∷ codes "facet" ∷ [])
    ≡ Some DETAIL ∷ Some TEXT ∷ Some ROW ∷ Some COLUMN ∷ Some FACET ∷ []
groups_and_facets = refl
