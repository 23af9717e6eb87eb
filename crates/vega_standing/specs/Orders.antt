-- In which order the signals of a specification settle.
use Rattle.std.specs.Prelude.{◌≡◌, ℕ, List, Ok}
use Rattle.cell_value.specs.State.{Dataset}
use Rattle.json_exact.specs.declared.json.Json.{Json}
use Rattle.json_exact.specs.Reading.{Reads}
use Rattle.expr_eval.specs.Values.{Values}
use Rattle.vega_spec.specs.declared.spec.VgSpec.{VgSpec}
use Rattle.vega_lists.specs.Scopes.{Scope}
use Rattle.vega_model.specs.Reading.{read_of}
use Rattle.vega_signals.specs.Settling.{Valued, as_given, next_own, settled_own}
use Rattle.vega_signals.specs.Needs.{AreInOrder}
use Rattle.vega_copies.specs.Outlines.{Object, Marks, NoMarks, AMark, AGroup, outline_of}

-- P holds of each object among marks
abbrev pub EachObject : (Object → Type 0) → Marks → Type 0
EachObject P NoMarks = Unit {0}
EachObject P (AMark unit mark others) = EachObject P others
EachObject P (AGroup o inside others) = P o × EachObject P inside × EachObject P others

-- P holds of the top and of each group in it
pub record OfAll (P : Object → Type 0) (g : VgSpec) : Type 0 where
  pub top : P (outline_of g).object
  pub inside : EachObject P (outline_of g).marks

-- the signals of an object have places, so that each needs only given ones, those of outer objects and those before it
abbrev pub HasOrder : Object → Type 0
HasOrder o = (place : List ℕ → ℕ) × AreInOrder o.signals o.sets place

-- the signals of an object are computed from the settled values as these are, whatever stands round it and whatever is given
abbrev pub Settles : Object → Type 0
Settles o = (sources : List Dataset) (lists : Scope) (outer : Values) (given : Valued)
    → next_own sources lists outer (as_given given) o.signals o.sets (settled_own sources lists outer given o.signals o.sets)
    ≡ settled_own sources lists outer given o.signals o.sets

-- what is read has such places in each of its objects
abbrev pub AcceptedAreInOrder : Type 0
AcceptedAreInOrder = (bytes : List ℕ) (tree : Json) (g : VgSpec) → Reads bytes tree → read_of tree ≡ Ok g → OfAll HasOrder g

-- and the signals of each of its objects settle
abbrev pub AcceptedSettle : Type 0
AcceptedSettle = (bytes : List ℕ) (tree : Json) (g : VgSpec) → Reads bytes tree → read_of tree ≡ Ok g → OfAll Settles g
