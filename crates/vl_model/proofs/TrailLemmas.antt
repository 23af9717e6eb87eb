-- Trails from the outermost value inwards, as the program keeps them.
use Rattle.std.proofs.Common.{◌≡◌, List, drop, map, ap}
use Rattle.std.specs.Prelude.{reverse}
use Rattle.std.proofs.lemmas.List.{reverse-reverse}
use Rattle.vl_model.specs.declared.visits.Around.{Around}
use Rattle.vl_model.specs.Visits.{place_of}

pub place_forward : (trail : List Around) → place_of (reverse trail) ≡ drop 1 (map (λ (a : Around). a.number) trail)
place_forward trail = ap (λ (t : List Around). drop 1 (map (λ (a : Around). a.number) t)) (reverse-reverse trail)
