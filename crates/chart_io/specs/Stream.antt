-- What the adapters of readers and writers tell and count.
use Rattle.std.specs.Prelude.{ℕ, List, Option}
use Rattle.chart_io.specs.declared.stream.StreamSource.{StreamSource}
use Rattle.chart_io.specs.declared.stream.StreamSink.{StreamSink}

-- what a source tells of the bytes left: what its reader tells
abbrev pub source_left : {R : Type 0} → (R → Option (List ℕ)) → StreamSource R → Option (List ℕ)
source_left remaining source = remaining source.inner

-- what a sink tells of the bytes that it took: what its writer tells
abbrev pub sink_held : {W : Type 0} → (W → Option (List ℕ)) → StreamSink W → Option (List ℕ)
sink_held contents sink = contents sink.inner

-- how many calls of a source have failed
abbrev pub source_faults : {R : Type 0} → StreamSource R → ℕ
source_faults source = source.failed

-- how many calls of a sink have failed
abbrev pub sink_faults : {W : Type 0} → StreamSink W → ℕ
sink_faults sink = sink.failed
