-- Why what each in turn has is what all have.
use Rattle.std.proofs.Common.{◌≡◌, ℕ, ◌+◌, ◌<◌, List, ◌∷◌, ◌++◌, length, drop, get_or, Option, Some, None, Err, refl, sym}
use Rattle.std.proofs.Common.{ap, ◌∙◌, append_assoc, add-one}
use Rattle.std.specs.Option.{option_map, option_to_list}
use Rattle.std.specs.List.{filter_map}
use Rattle.std.proofs.Math.Seq.{drop-cons}
use Rattle.fixed_num.specs.Ranges.{◌>>=◌}
use Rattle.guide_kit.specs.declared.errors.GuideError.{GuideError}
use Rattle.guide_kit.specs.declared.errors.GuideError.TheVariants.{Overflow, Memory}
use Rattle.guide_kit.specs.Answers.{Draws}
use Rattle.guide_kit.specs.Ticks.{each_that_has}

-- one and the others
one_and_rest : {X : Type 0} (one : Option (Option X)) (rest : Option (List (Option X)))
    → option_map (filter_map (λ found. found)) (one >>= λ x. rest >>= λ xs. Some (x ∷ xs))
    ≡ (one >>= λ x. option_map (λ more. option_to_list x ++ more) (option_map (filter_map (λ found. found)) rest))
one_and_rest None rest = refl
one_and_rest (Some None) None = refl
one_and_rest (Some (Some x)) None = refl
one_and_rest (Some None) (Some xs) = refl
one_and_rest (Some (Some x)) (Some xs) = refl

-- what was taken before the others
taken_on : {X : Type 0} (items more : List X) (rest : Option (List X))
    → option_map (λ all. items ++ all) (option_map (λ all. more ++ all) rest) ≡ option_map (λ all. (items ++ more) ++ all) rest
taken_on items more None = refl
taken_on items more (Some all) = ap Some (sym (append_assoc items more all))

stopped : {X Y Z : Type 0} (one : Option X) (rest : X → Option Y) (f : Y → Z) (e : GuideError) → Draws {X = X} (Err e) one
    → Draws {X = Z} (Err e) (option_map f (one >>= rest))
stopped one rest f Overflow told = ap (λ one. option_map f (one >>= rest)) told
stopped one rest f Memory told = tt

along : {X : Type 0} (a b : Option X) (e : GuideError) → a ≡ b → Draws {X = X} (Err e) b → Draws {X = X} (Err e) a
along a b Overflow same told = same ∙ told
along a b Memory same told = tt

module _ (X Y : Type 0) (one : X → Option (Option Y)) (xs : List X) (i : ℕ) where
  -- what those from a place on have
  abbrev pub each_from : Option (List Y)
  each_from = each_that_has one (drop i xs)

module _ (X Y : Type 0) (one : X → Option (Option Y)) (xs : List X) (i : ℕ) (x : X) where
  one_more : i < length xs → x ≡ get_or xs i x → each_from X Y one xs i
      ≡ (one x >>= λ found. option_map (λ more. option_to_list found ++ more) (each_from X Y one xs (i + 1)))
  one_more within is = rw (drop-cons xs i x within, add-one i, ← is) (one_and_rest _ _)

  -- one more
  pub next_found : (items grown : List Y) (found : Option Y) (whole : Option (List Y)) → i < length xs → x ≡ get_or xs i x
      → whole ≡ option_map (λ all. items ++ all) (each_from X Y one xs i) → one x ≡ Some found → grown ≡ items ++ option_to_list found
      → whole ≡ option_map (λ all. grown ++ all) (each_from X Y one xs (i + 1))
  next_found items grown found whole within is before this adds =
      before
      ∙ ap (λ o. option_map (λ all. items ++ all) o) (one_more within is)
      ∙ ap (λ o. option_map (λ all. items ++ all) (o >>= λ found. option_map (λ more. option_to_list found ++ more) (each_from X Y one xs (i + 1)))) this
      ∙ taken_on items (option_to_list found) (each_from X Y one xs (i + 1))
      ∙ ap (λ l. option_map (λ all. l ++ all) (each_from X Y one xs (i + 1))) (sym adds)

  -- an error at one is the whole's
  pub stopped_at : (items : List Y) (whole : Option (List Y)) (e : GuideError) → i < length xs → x ≡ get_or xs i x
      → whole ≡ option_map (λ all. items ++ all) (each_from X Y one xs i) → Draws {X = Option Y} (Err e) (one x)
      → Draws {X = List Y} (Err e) whole
  stopped_at items whole e within is before told =
      along whole _ e (before ∙ ap (λ o. option_map (λ all. items ++ all) o) (one_more within is)) (stopped _ _ _ e told)
