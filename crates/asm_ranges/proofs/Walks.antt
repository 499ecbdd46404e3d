-- Walks over lists and over the units.
use Rattle.std.proofs.Common.{◌≡◌, ℕ, suc, ◌+◌, ◌<◌, ◌≤◌, Bool, true, false, if◌then◌else◌, nat_eq, List, [], ◌∷◌, ◌++◌, length, map, take, get_or, refl, sym, ap, ◌∙◌, arith, flat_map}
use Rattle.std.specs.List.{enumerate_from}
use Rattle.std.proofs.lemmas.List.{length-take-le}
use Rattle.std.proofs.lemmas.Bool.Decides.{nat_tests}
use Rattle.std.proofs.lemmas.Grind.{flat_map-append}
use Rattle.std.proofs.lemmas.List.Folds.{flat_map-map}
use Rattle.std.proofs.lemmas.List.{take_more, take_all, append-nil, map-append, length-map}
use Rattle.asm_tree.specs.declared.unit.LoadedUnit.{LoadedUnit}
use Rattle.asm_tree.specs.declared.unit.RawUnit.{RawUnit}
use Rattle.asm_faults.specs.Files.{Of, numbered, all_of, named_of, is_named}

-- one more item
pub list_more : {X : Type 0} (xs : List X) (i : ℕ) (x : X) → i < length xs → x ≡ get_or xs i x → take (i + 1) xs ≡ take i xs ++ x ∷ []
list_more xs i x lt is = take_more xs i x lt ∙ ap (λ y. take i xs ++ y ∷ []) (sym is)

pub flat_more : {X A : Type 0} (f : X → List A) (xs : List X) (i : ℕ) (x : X) → i < length xs → x ≡ get_or xs i x → flat_map f (take (i + 1) xs) ≡ flat_map f (take i xs) ++ f x
flat_more f xs i x lt is = ap (flat_map f) (list_more xs i x lt is) ∙ flat_map-append f (take i xs) (x ∷ []) ∙ ap (λ ys. flat_map f (take i xs) ++ ys) (append-nil (f x))

pub map_more : {X A : Type 0} (f : X → A) (xs : List X) (i : ℕ) (x : X) → i < length xs → x ≡ get_or xs i x → map f (take (i + 1) xs) ≡ map f (take i xs) ++ f x ∷ []
map_more f xs i x lt is = ap (map f) (list_more xs i x lt is) ∙ map-append f (take i xs) (x ∷ [])

-- ---- the units

enumerate-push : {X : Type 0} (n : ℕ) (xs : List X) (x : X) → enumerate_from n (xs ++ x ∷ []) ≡ enumerate_from n xs ++ (n + length xs, x) ∷ []
enumerate-push {X = X} n [] x = let e : n ≡ n + 0 = omega arith in ap (λ (k : ℕ). let pair : ℕ × X = (k, x) in pair ∷ []) e
enumerate-push {X = X} n (y ∷ ys) x =
    let e : n + 1 + length ys ≡ n + suc (length ys) = omega arith in
    let here : ℕ × X = (n, y) in
    ap (λ ps. here ∷ ps) (enumerate-push (n + 1) ys x ∙ ap (λ (k : ℕ). let pair : ℕ × X = (k, x) in enumerate_from (n + 1) ys ++ pair ∷ []) e)

pub numbered_more : (units : List LoadedUnit) (i : ℕ) (u : LoadedUnit) → i < length units → u ≡ get_or units i u → numbered (take (i + 1) units) ≡ numbered (take i units) ++ (i, u.unit) ∷ []
numbered_more units i u lt is =
    let unit : LoadedUnit → RawUnit = λ v. v.unit in
    let front : List RawUnit = map unit (take i units) in
    let count : length front ≡ i = length-map (take i units) unit ∙ length-take-le i units (omega arith) in
    ap (enumerate_from 0) (map_more unit units i u lt is) ∙ enumerate-push 0 front u.unit ∙ ap (λ (k : ℕ). let pair : ℕ × RawUnit = (k, u.unit) in numbered (take i units) ++ pair ∷ []) (omega (arith, count))

-- what all units give, one unit further
pub units_more : {A : Type 0} (g : ℕ × RawUnit → List A) (units : List LoadedUnit) (i : ℕ) (u : LoadedUnit) → i < length units → u ≡ get_or units i u → flat_map g (numbered (take (i + 1) units)) ≡ flat_map g (numbered (take i units)) ++ g (i, u.unit)
units_more g units i u lt is =
    ap (flat_map g) (numbered_more units i u lt is) ∙ flat_map-append g (numbered (take i units)) ((i, u.unit) ∷ []) ∙ ap (λ ys. flat_map g (numbered (take i units)) ++ ys) (append-nil (g (i, u.unit)))

pub units_all : {A : Type 0} (g : ℕ × RawUnit → List A) (units : List LoadedUnit) (i : ℕ) → length units ≤ i → flat_map g (numbered (take i units)) ≡ flat_map g (numbered units)
units_all g units i le = ap (λ us. flat_map g (numbered us)) (take_all i units le)

none_named : {X A : Type 0} (g : ℕ × X → List A) (all k : ℕ) (xs : List X) → k + length xs < all → flat_map (λ (p : ℕ × X). if nat_eq (suc p.0) all then g p else []) (enumerate_from k xs) ≡ []
none_named g all k [] h = refl
none_named {X} {A} g all k (x ∷ xs) h =
    let other : nat_eq (suc k) all ≡ false = grind (arith, nat_tests) in
    let rest : flat_map (λ (p : ℕ × X). if nat_eq (suc p.0) all then g p else []) (enumerate_from (k + 1) xs) ≡ [] = none_named g all (k + 1) xs (omega arith) in
    ap (λ (b : Bool). (if b then g (k, x) else []) ++ flat_map (λ (p : ℕ × X). if nat_eq (suc p.0) all then g p else []) (enumerate_from (k + 1) xs)) other ∙ rest

-- what the last unit alone gives
pub named_last : {A : Type 0} (f : RawUnit → List A) (units : List LoadedUnit) (i : ℕ) (u : LoadedUnit) → i + 1 ≡ length units → u ≡ get_or units i u → named_of f units ≡ map (λ a. (i, a)) (f u.unit)
named_last {A} f units i u end is =
    let g : ℕ × RawUnit → List (Of A) = λ p. map (λ a. (p.0, a)) (f p.1) in
    let chosen : ℕ × RawUnit → List (Of A) = λ p. if is_named units p.0 then g p else [] in
    let unit : LoadedUnit → RawUnit = λ v. v.unit in
    let count : length (map unit (take i units)) ≡ i = length-map (take i units) unit ∙ length-take-le i units (omega arith) in
    let none : flat_map chosen (numbered (take i units)) ≡ [] = none_named g (length units) 0 (map unit (take i units)) (omega (arith, count)) in
    let last : is_named units i ≡ true = grind (arith, nat_tests) in
    sym (units_all chosen units (i + 1) (omega arith)) ∙ units_more chosen units i u (omega arith) is ∙ ap (λ ys. ys ++ chosen (i, u.unit)) none ∙ ap (λ (b : Bool). if b then g (i, u.unit) else []) last

-- what items of all files give, one file further
pub of_all_more : {A B : Type 0} (h : Of A → List B) (f : RawUnit → List A) (units : List LoadedUnit) (i : ℕ) (u : LoadedUnit) → i < length units → u ≡ get_or units i u
    → flat_map h (all_of f (take (i + 1) units)) ≡ flat_map h (all_of f (take i units)) ++ flat_map (λ a. h (i, a)) (f u.unit)
of_all_more {A} h f units i u lt is =
    let g : ℕ × RawUnit → List (Of A) = λ p. map (λ a. (p.0, a)) (f p.1) in
    let pair : A → Of A = λ a. (i, a) in
    ap (flat_map h) (units_more g units i u lt is) ∙ flat_map-append h (all_of f (take i units)) (map pair (f u.unit)) ∙ ap (λ ys. flat_map h (all_of f (take i units)) ++ ys) (flat_map-map h pair (f u.unit))
