-- What a name under a name stands for, by what stands there.
use Rattle.std.proofs.Common.{◌≡◌, ℕ, List, ap, ◌∙◌}
use Rattle.std.specs.Prelude.{Option, Some}
use Rattle.std.specs.Option.{option_and_then}
use Rattle.json_exact.specs.declared.json.Member.{Member}
use Rattle.tree_readers.specs.Parts.{text_at}
use Rattle.vega_building.specs.Names.{named_at}

pub named_found : {A : Type 0} (named : List ℕ → Option A) (members : List Member) (name text word : List ℕ) (code : Option A) →
    Some text ≡ text_at members name → word ≡ text → code ≡ named word → code ≡ named_at named members name
named_found named members name text word code found same is = is ∙ ap named same ∙ ap (option_and_then named) found
