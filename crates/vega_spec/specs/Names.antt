-- The sources and the parameters of a specification, by their names.
use Rattle.std.specs.Prelude.{ℕ, List, [], ◌∷◌, ◌++◌, map, flat_map, unwrap_or, is_some, if◌then◌else◌}
use Rattle.vega_spec.specs.declared.data.DataSet.{DataSet}
use Rattle.vega_spec.specs.declared.signals.Signal.{Signal}
use Rattle.vega_spec.specs.declared.names.Parameter.{Parameter}
use Rattle.vega_spec.specs.declared.names.ParameterKind.{ParameterKind}
use Rattle.vega_spec.specs.declared.names.ParameterKind.TheVariants.{Settable, Computed, Selection}
use Rattle.vega_spec.specs.declared.spec.Group.{Group, Group-F, out-Group, fold-Group}
use Rattle.vega_spec.specs.declared.spec.VgMark.{VgMark, VgMark-F, fold-VgMark}
use Rattle.vega_spec.specs.declared.spec.VgSpec.{VgSpec}

-- a signal that does something on events is a selection, whatever else it has; one with an update is computed
abbrev pub kind_of : Signal → ParameterKind
kind_of s = if is_some s.on then Selection else (if is_some s.update then Computed else Settable)

-- a signal as a parameter
abbrev pub parameter_of : Signal → Parameter
parameter_of s = record { name = s.name; kind = kind_of s }

-- the signals of an object
abbrev pub signals_of : Group-F Group VgMark → List Signal
signals_of g = unwrap_or g.signals []

-- the parameters: the signals of the top, in their order
abbrev pub parameters_of : VgSpec → List Parameter
parameters_of g = map parameter_of (signals_of (out-Group g.group))

-- a data set without a source is a source
abbrev pub own_source : DataSet → List (List ℕ)
own_source d = if is_some d.source then [] else d.name ∷ []

-- the sources among some data sets
abbrev pub own_sources : List DataSet → List (List ℕ)
own_sources sets = flat_map own_source sets

-- those of an object, from those of the marks in it: its own come first
abbrev pub sources_here : Group-F (List (List ℕ)) (List (List ℕ)) → List (List ℕ)
sources_here g = own_sources (unwrap_or g.data_ []) ++ flat_map (λ names. names) (unwrap_or g.marks [])

-- a mark has those that it has as a group
abbrev pub mark_sources_here : VgMark-F (List (List ℕ)) (List (List ℕ)) → List (List ℕ)
mark_sources_here m = m.group

-- the sources of an object and of the groups in it
abbrev pub sources_in : Group → List (List ℕ)
sources_in = fold-Group (List (List ℕ)) (List (List ℕ)) sources_here mark_sources_here

-- those of a mark
abbrev pub mark_sources : VgMark → List (List ℕ)
mark_sources = fold-VgMark (List (List ℕ)) (List (List ℕ)) sources_here mark_sources_here

-- the sources of a specification
abbrev pub sources_of : VgSpec → List (List ℕ)
sources_of g = sources_in g.group
