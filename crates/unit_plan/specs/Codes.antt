-- The codes of builtins are those of their names.
use Rattle.std.specs.Prelude.{◌≡◌, Some, [], ◌∷◌, map, codes, refl}
use Rattle.case_table.specs.Names.{index_of, builtins}
use Rattle.unit_plan.specs.declared.codes.TheConstants.{IS_VALID, IS_STRING, TO_DATE, IN_RANGE, YEAR, QUARTER, MONTH, DATE, DAY, HOURS}
use Rattle.unit_plan.specs.declared.codes.TheConstants.{MINUTES, SECONDS, DATETIME}

of_values :
    map (index_of builtins) (codes "isValid" ∷ codes "isString" ∷ codes "toDate" ∷ codes "inrange" ∷ codes "datetime" ∷ [])
    ≡ Some IS_VALID ∷ Some IS_STRING ∷ Some TO_DATE ∷ Some IN_RANGE ∷ Some DATETIME ∷ []
of_values = refl

of_parts :
    map (index_of builtins)
    (codes "year" ∷ codes "quarter" ∷ codes "month" ∷ codes "date" ∷ codes "day" ∷ codes "hours" ∷ codes "minutes" ∷ codes "seconds" ∷ [])
    ≡ Some YEAR ∷ Some QUARTER ∷ Some MONTH ∷ Some DATE ∷ Some DAY ∷ Some HOURS ∷ Some MINUTES ∷ Some SECONDS ∷ []
of_parts = refl
