-- What is answered, said by an equal value.
use Rattle.std.proofs.Common.{◌≡◌, ◌∙◌}
use Rattle.std.specs.Prelude.{Result, Ok, Err, IfOk}

pub answered : {X E : Type 0} (r : Result X E) (x y : X) → IfOk r (λ given. given ≡ x) → x ≡ y → IfOk r (λ given. given ≡ y)
answered (Ok given) x y gives same = gives ∙ same
answered (Err e) x y gives same = tt
