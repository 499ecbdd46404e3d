-- The numbers of names after one more name, and the entries after one more entry.
use Rattle.std.proofs.Common.{◌≡◌, ℕ, zero, suc, ◌+◌, ◌<◌, Bool, true, false, cond, List, [], ◌∷◌, ◌++◌, length, slice_get, Option, Some, None, All, refl, sym, ap, ◌∙◌, arith, String, string_bytes}
use Rattle.std.specs.Str.{bytes_eq}
use Rattle.std.specs.List.{position_from}
use Rattle.std.specs.Option.{option_or}
use Rattle.std.proofs.lemmas.Iterator.Adapters.{position_from-zero}
use Rattle.name_table.specs.Numbered.{number_of, text_of, names_at, number_in}

-- the answer of one name alone, which has the number n
abbrev pub alone : Bool → ℕ → Option ℕ
alone b n = cond b (Some n) None

from-push : {X : Type 0} (p : X → Bool) (i : ℕ) (xs : List X) (x : X) → position_from p i (xs ++ x ∷ []) ≡ option_or (position_from p i xs) (alone (p x) (i + length xs))
from-push p i [] x = ap (alone (p x)) (omega arith)
from-push p i (y ∷ ys) x = by (p y) (from-push p (i + 1) ys x ∙ ap (λ n. option_or (position_from p (i + 1) ys) (alone (p x) n)) (omega arith))
  where
    by : (b : Bool) → position_from p (i + 1) (ys ++ x ∷ []) ≡ option_or (position_from p (i + 1) ys) (alone (p x) (i + length (y ∷ ys))) → cond b (Some i) (position_from p (i + 1) (ys ++ x ∷ [])) ≡ option_or (cond b (Some i) (position_from p (i + 1) ys)) (alone (p x) (i + length (y ∷ ys)))
    by true h = refl
    by false h = h

-- one more name has a number only where no name before it is the same
pub number_of-push : (names : List (List ℕ)) (text name : List ℕ) → number_of (names ++ text ∷ []) name ≡ option_or (number_of names name) (alone (bytes_eq text name) (length names))
number_of-push names text name =
    let p : List ℕ → Bool = λ other. bytes_eq other name in
    position_from-zero p (names ++ text ∷ []) ∙ from-push p 0 names text
    ∙ ap (λ n. option_or (position_from p 0 names) (alone (p text) n)) (omega arith)
    ∙ ap (λ r. option_or r (alone (p text) (length names))) (sym (position_from-zero p names))

-- one more entry is found only where no entry before it is
pub number_in-push : {A : Type 0} (entries : List (String A × ℕ)) (key : String A) (number : ℕ) (name : List ℕ) → number_in (entries ++ (key, number) ∷ []) name ≡ option_or (number_in entries name) (alone (bytes_eq name (string_bytes key)) number)
number_in-push [] key number name = refl
number_in-push (entry ∷ entries) key number name = by (bytes_eq name (string_bytes entry.0)) (number_in-push entries key number name)
  where
    by : (b : Bool) → number_in (entries ++ (key, number) ∷ []) name ≡ option_or (number_in entries name) (alone (bytes_eq name (string_bytes key)) number) → cond b (Some entry.1) (number_in (entries ++ (key, number) ∷ []) name) ≡ option_or (cond b (Some entry.1) (number_in entries name)) (alone (bytes_eq name (string_bytes key)) number)
    by true h = refl
    by false h = h

-- an entry that is there stays at its place
slice_get-push : {X : Type 0} (xs ys : List X) (i : ℕ) → i < length xs → slice_get (xs ++ ys) i ≡ slice_get xs i
slice_get-push [] ys i h = absurd (omega (arith, h))
slice_get-push (x ∷ xs) ys zero h = refl
slice_get-push (x ∷ xs) ys (suc i) h = slice_get-push xs ys i (omega (arith, h))

-- and so do the names at such places
pub names_at-push : {A : Type 0} (entries more : List (String A × ℕ)) (places : List ℕ) → All (λ place. place < length entries) places → names_at (entries ++ more) places ≡ names_at entries places
names_at-push entries more [] h = refl
names_at-push entries more (place ∷ places) h =
    let rest : All (λ place. place < length entries) places = λ k d lt. h (suc k) d (omega (arith, lt)) in
    λ j. text_of (slice_get-push entries more place (h 0 0 (omega arith)) j) ∷ names_at-push entries more places rest j

-- the last of more entries
pub slice_get-last : {X : Type 0} (xs : List X) (x : X) → slice_get (xs ++ x ∷ []) (length xs) ≡ Some x
slice_get-last [] x = refl
slice_get-last (y ∷ ys) x = slice_get-last ys x
