-- What is gathered of the files.
use Rattle.std.proofs.Common.{◌≡◌, ℕ, zero, suc, ◌+◌, ◌<◌, ◌≤◌, Bool, true, false, List, [], ◌∷◌, ◌++◌, length, map, drop, get_or, nat_eq, if◌then◌else◌, refl, sym, ap, ◌∙◌, drop-cons, add-one, append_assoc, append-nil, arith}
use Rattle.std.specs.List.{flat_map, enumerate_from}
use Rattle.std.proofs.lemmas.Bool.Decides.{nat_tests}
use Rattle.std.proofs.lemmas.Grind.{flat_map-append}
use Rattle.std.proofs.lemmas.List.{map-append}
use Rattle.asm_sign.specs.Vocabulary.{Vocabulary}
use Rattle.asm_tree.specs.declared.unit.LoadedUnit.{LoadedUnit}
use Rattle.asm_tree.specs.declared.unit.RawUnit.{RawUnit}
use Rattle.asm_tree.specs.declared.unit.RawDefinition.{RawDefinition}
use Rattle.asm_tree.specs.declared.unit.RawFunction.{RawFunction}
use Rattle.asm_tree.specs.declared.unit.RawMain.{RawMain}
use Rattle.asm_tree.specs.declared.unit.RawInit.{RawInit}
use Rattle.asm_faults.specs.At.{Name}
use Rattle.asm_faults.specs.Files.{Of, DeclaredRule, named_of, to_list, main_in, rule_in, rules, initials}
use Rattle.asm_calls.specs.declared.caller.Caller.{Caller}
use Rattle.asm_calls.specs.declared.gather.Part.{Part}
use Rattle.asm_calls.specs.declared.gather.Part.TheVariants as part
use Rattle.asm_calls.specs.Callers.{function_caller, rule_caller, rule_names, callers_in, of_unit, definitions_from}

pub none_left : (s : List Caller) → s ++ [] ≡ s
none_left s = append-nil s

-- one more definition of a file
pub unit_step : (p : Part) (v : Vocabulary) (names : List Name) (n : ℕ) (xs : List RawDefinition) (i : ℕ) (d : RawDefinition) (s : List Caller) → i < length xs
    → s ++ flat_map (callers_in p v names) (of_unit n (drop i xs)) ≡ (s ++ callers_in p v names (n, get_or xs i d)) ++ flat_map (callers_in p v names) (of_unit n (drop (i + 1) xs))
unit_step p v names n xs i d s h =
    rw (add-one, drop-cons xs i d) (sym (append_assoc s (callers_in p v names (n, get_or xs i d)) (flat_map (callers_in p v names) (of_unit n (drop (suc i) xs)))))

-- one more initial value
pub functions_step : (v : Vocabulary) (n : ℕ) (xs : List RawFunction) (i : ℕ) (d : RawFunction) (s : List Caller) → i < length xs
    → s ++ map (function_caller v) (of_unit n (drop i xs)) ≡ (s ++ function_caller v (n, get_or xs i d) ∷ []) ++ map (function_caller v) (of_unit n (drop (i + 1) xs))
functions_step v n xs i d s h =
    rw (add-one, drop-cons xs i d) (sym (append_assoc s (function_caller v (n, get_or xs i d) ∷ []) (map (function_caller v) (of_unit n (drop (suc i) xs)))))

-- one more file
pub units_step : {A : Type 0} (h : Of RawDefinition → List A) (units : List LoadedUnit) (i : ℕ) (u : LoadedUnit) (s : List A) → i < length units → u ≡ get_or units i u
    → s ++ flat_map h (definitions_from i (drop i units)) ≡ (s ++ flat_map h (of_unit i u.unit.definitions)) ++ flat_map h (definitions_from (i + 1) (drop (i + 1) units))
units_step h units i u s lt is =
    let here : List (Of RawDefinition) = of_unit i u.unit.definitions in
    let rest : List (Of RawDefinition) = definitions_from (i + 1) (drop (i + 1) units) in
    let front : drop i units ≡ u ∷ drop (i + 1) units = drop-cons units i u lt ∙ ap (λ (x : LoadedUnit). x ∷ drop (suc i) units) (sym is) ∙ ap (λ (n : ℕ). u ∷ drop n units) (sym (add-one i)) in
    ap (λ (us : List LoadedUnit). s ++ flat_map h (definitions_from i us)) front
    ∙ ap (λ z. s ++ z) (flat_map-append h here rest)
    ∙ sym (append_assoc s (flat_map h here) (flat_map h rest))

pub map-flat_map : {X A B : Type 0} (h : A → B) (f : X → List A) (xs : List X) → flat_map (λ x. map h (f x)) xs ≡ map h (flat_map f xs)
map-flat_map h f [] = refl
map-flat_map h f (x ∷ xs) = ap (λ ys. map h (f x) ++ ys) (map-flat_map h f xs) ∙ sym (map-append h (f x) (flat_map f xs))

-- ---- the last unit

-- what the last of some items alone gives
last_of : {X A : Type 0} (g : ℕ × X → List A) (all k i : ℕ) (xs : List X) (x : X) → k + length xs ≡ all → i + 1 ≡ length xs → x ≡ get_or xs i x
    → flat_map (λ (p : ℕ × X). if nat_eq (suc p.0) all then g p else []) (enumerate_from k xs) ≡ g (k + i, x)
last_of g all k i [] x e end is = absurd (omega (arith, end))
last_of {X} {A} g all k zero (y ∷ []) x e end is =
    let here : nat_eq (suc k) all ≡ true = grind (arith, nat_tests) in
    let place : k ≡ k + 0 = omega arith in
    ap (λ (b : Bool). (if b then g (k, y) else []) ++ []) here ∙ append-nil (g (k, y)) ∙ ap (λ (z : X). g (k, z)) (sym is) ∙ ap (λ (n : ℕ). g (n, x)) place
last_of g all k zero (y ∷ z ∷ xs) x e end is = absurd (omega (arith, end))
last_of {X} {A} g all k (suc i) (y ∷ xs) x e end is =
    let other : nat_eq (suc k) all ≡ false = grind (arith, nat_tests) in
    let place : k + 1 + i ≡ k + suc i = omega arith in
    ap (λ (b : Bool). (if b then g (k, y) else []) ++ flat_map (λ (p : ℕ × X). if nat_eq (suc p.0) all then g p else []) (enumerate_from (k + 1) xs)) other
    ∙ last_of g all (k + 1) i xs x (omega arith) (omega arith) is
    ∙ ap (λ (n : ℕ). g (n, x)) place

length-units : (units : List LoadedUnit) → length (map (λ (u : LoadedUnit). u.unit) units) ≡ length units
length-units [] = refl
length-units (u ∷ units) = ap suc (length-units units)

unit_at : (units : List LoadedUnit) (i : ℕ) (u : LoadedUnit) → u ≡ get_or units i u → u.unit ≡ get_or (map (λ (x : LoadedUnit). x.unit) units) i u.unit
unit_at [] i u is = refl
unit_at (x ∷ units) zero u is = ap (λ (y : LoadedUnit). y.unit) is
unit_at (x ∷ units) (suc i) u is = unit_at units i u is

pub named_last : {A : Type 0} (f : RawUnit → List A) (units : List LoadedUnit) (i : ℕ) (u : LoadedUnit) → i + 1 ≡ length units → u ≡ get_or units i u → named_of f units ≡ of_unit i (f u.unit)
named_last {A} f units i u end is =
    let g : ℕ × RawUnit → List (Of A) = λ p. of_unit p.0 (f p.1) in
    let count = length-units units in
    last_of g (length units) 0 i (map (λ (x : LoadedUnit). x.unit) units) u.unit (omega arith) (omega arith) (unit_at units i u is)
    ∙ ap (λ (n : ℕ). g (n, u.unit)) (omega arith)

pub named_none : {A : Type 0} (f : RawUnit → List A) (units : List LoadedUnit) → length units ≡ 0 → named_of f units ≡ []
named_none f [] e = refl
named_none f (u ∷ units) e = absurd (omega (arith, e))

-- ---- the parts of files

pub drop_past : {X : Type 0} (xs : List X) (i : ℕ) → length xs ≤ i → drop i xs ≡ []
drop_past [] zero le = refl
drop_past [] (suc i) le = refl
drop_past (x ∷ xs) zero le = absurd (omega (arith, le))
drop_past (x ∷ xs) (suc i) le = drop_past xs i (omega (arith, le))

pub units_done : {A : Type 0} (h : Of RawDefinition → List A) (units : List LoadedUnit) (i : ℕ) (s t : List A) → length units ≤ i → s ++ flat_map h (definitions_from i (drop i units)) ≡ t → s ≡ t
units_done h units i s t le e =
    sym (append-nil s) ∙ ap (λ (us : List LoadedUnit). s ++ flat_map h (definitions_from i us)) (sym (drop_past units i le)) ∙ e

pub main_none : (names : List Name) (units : List LoadedUnit) (s : List Caller) → length units ≡ 0 → s ≡ s ++ map (rule_caller names) (map main_in (named_of (λ (u : RawUnit). to_list u.main) units))
main_none names units s e =
    sym (ap (λ (xs : List (Of RawMain)). s ++ map (rule_caller names) (map main_in xs)) (named_none (λ (u : RawUnit). to_list u.main) units e) ∙ append-nil s)

pub main_last : (names : List Name) (units : List LoadedUnit) (i : ℕ) (u : LoadedUnit) (s t : List Caller) → i + 1 ≡ length units → u ≡ get_or units i u
    → t ≡ s ++ map (rule_caller names) (map main_in (of_unit i (to_list u.unit.main))) → t ≡ s ++ map (rule_caller names) (map main_in (named_of (λ (x : RawUnit). to_list x.main) units))
main_last names units i u s t end is e =
    e ∙ ap (λ (xs : List (Of RawMain)). s ++ map (rule_caller names) (map main_in xs)) (sym (named_last (λ (x : RawUnit). to_list x.main) units i u end is))

abbrev pub starts_of : RawUnit → List RawFunction
starts_of u = flat_map (λ (i : RawInit). i.functions) (to_list u.init)

pub initials_none : (v : Vocabulary) (units : List LoadedUnit) (s : List Caller) → s ≡ [] → length units ≡ 0 → s ≡ map (function_caller v) (initials units)
initials_none v units s none e = none ∙ sym (ap (map (function_caller v)) (named_none starts_of units e))

pub initials_last : (v : Vocabulary) (units : List LoadedUnit) (i : ℕ) (u : LoadedUnit) (s t : List Caller) → s ≡ [] → i + 1 ≡ length units → u ≡ get_or units i u
    → t ≡ s ++ map (function_caller v) (of_unit i (flat_map (λ (x : RawInit). x.functions) (to_list u.unit.init))) → t ≡ map (function_caller v) (initials units)
initials_last v units i u s t none end is e =
    e ∙ ap (λ (z : List Caller). z ++ map (function_caller v) (of_unit i (starts_of u.unit))) none
    ∙ ap (map (function_caller v)) (sym (named_last starts_of units i u end is))

pub rules_made : (v : Vocabulary) (names : List Name) (units : List LoadedUnit) (s t : List Caller) → s ≡ flat_map (callers_in part.Rules v names) (definitions_from 0 units)
    → t ≡ s ++ map (rule_caller names) (map main_in (named_of (λ (u : RawUnit). to_list u.main) units)) → t ≡ map (rule_caller names) (rules units)
rules_made v names units s t a b =
    let macros : List DeclaredRule = flat_map rule_in (definitions_from 0 units) in
    let main : List DeclaredRule = map main_in (named_of (λ (u : RawUnit). to_list u.main) units) in
    b ∙ ap (λ (z : List Caller). z ++ map (rule_caller names) main) (a ∙ map-flat_map (rule_caller names) rule_in (definitions_from 0 units))
    ∙ sym (map-append (rule_caller names) macros main)

names_of_rules : (none : List Name) (rs : List DeclaredRule) → map (λ (c : Caller). c.name) (map (rule_caller none) rs) ≡ map (λ (r : DeclaredRule). r.name.text) rs
names_of_rules none [] = refl
names_of_rules none (r ∷ rs) = ap (λ (xs : List Name). r.name.text ∷ xs) (names_of_rules none rs)

pub rules_named : (none names : List Name) (units : List LoadedUnit) (us cs : List Caller) → us ≡ map (rule_caller none) (rules units) → names ≡ map (λ (c : Caller). c.name) us → cs ≡ map (rule_caller names) (rules units)
    → cs ≡ map (rule_caller (rule_names units)) (rules units)
rules_named none names units us cs a b c =
    c ∙ ap (λ (xs : List Name). map (rule_caller xs) (rules units)) (b ∙ ap (map (λ (x : Caller). x.name)) a ∙ names_of_rules none (rules units))

-- one more file, whose definitions were gathered
pub units_next : {A : Type 0} (h : Of RawDefinition → List A) (units : List LoadedUnit) (i : ℕ) (u : LoadedUnit) (ds : List RawDefinition) (s t whole : List A) → i < length units → u ≡ get_or units i u → ds ≡ u.unit.definitions
    → t ≡ s ++ flat_map h (of_unit i ds) → s ++ flat_map h (definitions_from i (drop i units)) ≡ whole → t ++ flat_map h (definitions_from (i + 1) (drop (i + 1) units)) ≡ whole
units_next h units i u ds s t whole lt is same e rest =
    ap (λ z. z ++ flat_map h (definitions_from (i + 1) (drop (i + 1) units))) (e ∙ ap (λ (xs : List RawDefinition). s ++ flat_map h (of_unit i xs)) same)
    ∙ sym (units_step h units i u s lt is) ∙ rest
