-- What is found of names, list by list.
use Rattle.std.proofs.Common.{◌≡◌, ℕ, suc, ◌+◌, ◌<◌, List, [], ◌∷◌, ◌++◌, length, drop, get_or, Option, refl, ap, sym, ◌∙◌, drop-cons, add-one, append_assoc}
use Rattle.std.specs.Prelude.{map}
use Rattle.std.specs.List.{flat_map}
use Rattle.std.proofs.lemmas.Grind.{flat_map-append}
use Rattle.asm_faults.specs.At.{Name}
use Rattle.asm_faults.specs.Files.{to_list}
use Rattle.asm_faults.specs.Calls.{Names}
use Rattle.asm_calls.specs.Called.{found_of}

-- what is found of two lists of names
pub of_two : {A : Type 0} (find : Name → Option A) (s : List A) (xs ys : Names) → s ++ found_of find (xs ++ ys) ≡ (s ++ found_of find xs) ++ found_of find ys
of_two {A} find s xs ys = ap (λ (z : List A). s ++ z) (flat_map-append (λ (name : Name). to_list (find name)) xs ys) ∙ sym (append_assoc s (found_of find xs) (found_of find ys))

-- what is found of the names of each item
pub of_each : {X A : Type 0} (find : Name → Option A) (f : X → Names) (xs : List X) → found_of find (flat_map (λ (names : Names). names) (map f xs)) ≡ flat_map (λ x. found_of find (f x)) xs
of_each find f [] = refl
of_each {X} {A} find f (x ∷ xs) =
    flat_map-append (λ (name : Name). to_list (find name)) (f x) (flat_map (λ (names : Names). names) (map f xs))
    ∙ ap (λ (z : List A). found_of find (f x) ++ z) (of_each find f xs)

-- what one more item of a list gives
pub each_step : {X A : Type 0} (f : X → List A) (xs : List X) (i : ℕ) (d : X) (s : List A) → i < length xs → s ++ flat_map f (drop i xs) ≡ (s ++ f (get_or xs i d)) ++ flat_map f (drop (i + 1) xs)
each_step f xs i d s h = rw (add-one, drop-cons xs i d) (sym (append_assoc s (f (get_or xs i d)) (flat_map f (drop (suc i) xs))))
