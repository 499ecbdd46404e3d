-- Ways to choose that pick candidates alone.
use Rattle.std.specs.Prelude.{◌≡◌, ℕ, suc, ◌<◌, ◌%◌, Bool as Truth, true, false, List, [], ◌∷◌, Option, Some, None, Contains, length, slice_index_or, if◌then◌else◌, ⊤}
use Rattle.std.specs.Option.{option_map}
use mathlib.Core.Path.{ap, sym, subst}
use Rattle.std.proofs.lemmas.List.Elements.{Contains-get_or, Contains-push, Contains-append_left, Contains-append_right}
use Rattle.std.proofs.lemmas.Nat.{mod_below}
use Rattle.asm_source.specs.declared.sources.Place.{Place}
use Rattle.asm_domain.specs.declared.value.Value.{Value}
use Rattle.asm_node.specs.Taking.{Attempt, Yields, Faults, Path, Pick, Choosing, by_words}
use Rattle.asm_node.specs.Values.{same_all}
use Rattle.asm_fire.specs.Drawing.{place_among, noted, drawn, by_drawing}

-- what is picked is one of the candidates
abbrev pub PicksCandidates : Pick (List ℕ) → Type 0
PicksCandidates pick = (path : Path) (place : Place) (found : List (List Value)) (s t : List ℕ) (vs : List Value) → 0 < length found → pick path place found s ≡ Yields vs t → Contains found vs

abbrev IsGiven : {A : Type 0} → Attempt (List ℕ) A → Type 0
IsGiven (Yields a words) = ⊤
IsGiven (Faults stop words) = ⊥

abbrev answer_or : {A : Type 0} → A → Attempt (List ℕ) A → A
answer_or a (Yields b words) = b
answer_or a (Faults stop words) = a

-- a word picks one of the candidates
pub word_picks : PicksCandidates by_words
word_picks path place found [] t vs some is = absurd (subst IsGiven (sym is) tt)
word_picks path place found (word ∷ words) t vs some is = subst (Contains found) (ap (answer_or []) is) (Contains-get_or found (word % length found) [] (mod_below word (length found) some))

abbrev IsFound : List (List Value) → Option ℕ → Type 0
IsFound found (Some k) = Contains found (slice_index_or found k [])
IsFound found None = ⊤

found_later : (f : List Value) (found : List (List Value)) (o : Option ℕ) → IsFound found o → IsFound (f ∷ found) (option_map suc o)
found_later f found None h = tt
found_later f found (Some k) h = Contains-append_right (f ∷ []) found (slice_index_or found k []) h

found_here : (f : List Value) (found : List (List Value)) (o : Option ℕ) (b : Truth) → IsFound found o → IsFound (f ∷ found) (if b then Some 0 else option_map suc o)
found_here f found o true h = Contains-append_left (f ∷ []) found f (Contains-push [] f)
found_here f found o false h = found_later f found o h

is_found : (tuple : List Value) (found : List (List Value)) → IsFound found (place_among tuple found)
is_found tuple [] = tt
is_found tuple (f ∷ found) = found_here f found (place_among tuple found) (same_all tuple f) (is_found tuple found)

at_place : (place : Place) (found : List (List Value)) (o : Option ℕ) (s t : List ℕ) (vs : List Value) → IsFound found o → noted place found o s ≡ Yields vs t → Contains found vs
at_place place found None s t vs h is = absurd (subst IsGiven (sym is) tt)
at_place place found (Some k) s t vs h is = subst (Contains found) (ap (answer_or []) is) h

at_choice : (place : Place) (found : List (List Value)) (o : Option (List Value)) (s t : List ℕ) (vs : List Value) → drawn place found o s ≡ Yields vs t → Contains found vs
at_choice place found None s t vs is = absurd (subst IsGiven (sym is) tt)
at_choice place found (Some tuple) s t vs is = at_place place found (place_among tuple found) s t vs (is_found tuple found) is

-- and so does a choice at a path
pub drawing_picks : (choosing : Choosing) → PicksCandidates (by_drawing choosing)
drawing_picks choosing path place found s t vs some is = at_choice place found (choosing path) s t vs is
