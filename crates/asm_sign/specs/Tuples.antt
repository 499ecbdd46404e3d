-- Tuples of items, one of each list.
use Rattle.std.specs.Prelude.{◌≡◌, ℕ, ◌<◌, List, [], ◌∷◌, map, length, Some, slice_get}
use Rattle.std.specs.List.{flat_map}
use Rattle.asm_domain.specs.Universe.{AreDistinct}

-- all tuples with an item of each list, the first list slowest
abbrev pub tuples : {A : Type 0} → List (List A) → List (List A)
tuples [] = [] ∷ []
tuples (xs ∷ xss) = flat_map (λ x. map (λ t. x ∷ t) (tuples xss)) xs

-- no list is empty, and none has an item twice
abbrev pub AllDistinct : {A : Type 0} → List (List A) → Type 0
AllDistinct {A} xss = (k : ℕ) (xs : List A) → slice_get xss k ≡ Some xs → (0 < length xs) × AreDistinct xs
