-- The line of a number, where there is one. Assumes nothing.
use Rattle.std.proofs.Common.{◌≡◌, ℕ, List, [], get_or, Some, None, Option, Bor, refl, ap, ◌∙◌}
use Rattle.std.specs.List.{slice_get}
use Rattle.std.specs.Option.{option_map, unwrap_or}
use Rattle.std.proofs.lemmas.Option.{unwrap_or-slice_get}

-- the line that was found, and no bytes where none was
pub line_or_none : (r : Option (Bor (List ℕ))) (lines : List (List ℕ)) (n : ℕ) (line none : Bor (List ℕ)) →
    option_map (λ (x : Bor (List ℕ)). x.now) r ≡ slice_get lines n → line ≡ unwrap_or r none → none.now ≡ [] → line.now ≡ get_or lines n []
line_or_none r lines n line none f e z =
    ap (λ (x : Bor (List ℕ)). x.now) e ∙ read r ∙ ap (λ (o : Option (List ℕ)). unwrap_or o []) f ∙ unwrap_or-slice_get lines n []
  where
    read : (r : Option (Bor (List ℕ))) → (unwrap_or r none).now ≡ unwrap_or (option_map (λ (x : Bor (List ℕ)). x.now) r) []
    read None = z
    read (Some x) = refl
