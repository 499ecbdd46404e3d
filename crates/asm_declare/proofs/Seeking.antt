-- Constants and definitions that are sought among all.
use Rattle.std.proofs.Common.{◌≡◌, ℕ, zero, suc, ◌+◌, ◌<◌, ◌≤◌, Bool, true, false, cond, if◌then◌else◌, ℤ, List, [], ◌∷◌, ◌++◌, length, map, filter, take, get_or, Option, Some, None, option_map, refl, sym, ap, ◌∙◌, arith, append_assoc, flat_map, find}
use Rattle.std.specs.Str.{bytes_eq}
use Rattle.std.specs.List.{enumerate_from}
use Rattle.std.proofs.lemmas.Grind.{flat_map-append}
use Rattle.std.proofs.lemmas.List.{append-nil, map-append, take_all}
use Rattle.std.proofs.lemmas.List.Elements.{filter-append}
use Rattle.asm_tree.specs.declared.term.RawName.{RawName}
use Rattle.asm_tree.specs.declared.unit.RawInt.{RawInt}
use Rattle.asm_tree.specs.declared.unit.RawFunctionKind.{RawFunctionKind}
use Rattle.asm_tree.specs.declared.unit.RawDeclaration.{RawDeclaration}
use Rattle.asm_tree.specs.declared.unit.RawDeclaration.TheVariants as declaration
use Rattle.asm_tree.specs.declared.unit.RawDefinition.{RawDefinition}
use Rattle.asm_tree.specs.declared.unit.RawDefinition.TheVariants as definition
use Rattle.asm_tree.specs.declared.unit.RawUnit.{RawUnit}
use Rattle.asm_tree.specs.declared.unit.LoadedUnit.{LoadedUnit}
use Rattle.asm_faults.specs.At.{Name}
use Rattle.asm_faults.specs.Files.{Of, has_name, all_of, DeclaredFunction, function_in, functions}
use Rattle.asm_faults.specs.DomainFaults.{is_constant_of, constants_of, DomainDefinition, Range, Listing, domain_definition_in, domain_definitions, definition_of_domain}
use Rattle.asm_declare.specs.Measures.{functions_in, definitions_in}
use Rattle.asm_declare.specs.Told.{numbers_in, told}
use Rattle.asm_declare.proofs.Walks.{flat_more, of_all_more}

-- ---- names of constants

abbrev pub names_kept : Name → List DeclaredFunction → List Name
names_kept domain fs = map (λ (f : DeclaredFunction). f.name.text) (filter (is_constant_of domain) fs)

names_kept-append : (domain : Name) (xs ys : List DeclaredFunction) → names_kept domain (xs ++ ys) ≡ names_kept domain xs ++ names_kept domain ys
names_kept-append domain xs ys =
    ap (map (λ (f : DeclaredFunction). f.name.text)) (filter-append (is_constant_of domain) xs ys) ∙ map-append (λ (f : DeclaredFunction). f.name.text) (filter (is_constant_of domain) xs) (filter (is_constant_of domain) ys)

kept_both : (domain : Name) (before now after : List Name) (xs ys zs : List DeclaredFunction) → zs ≡ xs ++ ys → now ≡ before ++ names_kept domain xs → after ≡ now ++ names_kept domain ys → after ≡ before ++ names_kept domain zs
kept_both domain before now after xs ys zs e a b =
    b ∙ ap (λ l. l ++ names_kept domain ys) a ∙ append_assoc before (names_kept domain xs) (names_kept domain ys) ∙ ap (λ l. before ++ l) (sym (names_kept-append domain xs ys)) ∙ ap (λ l. before ++ names_kept domain l) (sym e)

pub none_kept : (domain : Name) (before : List Name) (fs : List DeclaredFunction) → filter (is_constant_of domain) fs ≡ [] → before ≡ before ++ names_kept domain fs
none_kept domain before fs e = sym (append-nil before) ∙ ap (λ l. before ++ map (λ (f : DeclaredFunction). f.name.text) l) (sym e)

pub kept_more : (domain : Name) (before now after : List Name) (n : ℕ) (xs : List RawDeclaration) (i : ℕ) (x : RawDeclaration) → i < length xs → x ≡ get_or xs i x → now ≡ before ++ names_kept domain (functions_in n (take i xs)) → after ≡ now ++ names_kept domain (function_in (n, x))
    → after ≡ before ++ names_kept domain (functions_in n (take (i + 1) xs))
kept_more domain before now after n xs i x lt is a b =
    let f : RawDeclaration → List DeclaredFunction = λ d. function_in (n, d) in kept_both domain before now after (functions_in n (take i xs)) (f x) (functions_in n (take (i + 1) xs)) (flat_more f xs i x lt is) a b

pub kept_all : (domain : Name) (before now : List Name) (n : ℕ) (xs : List RawDeclaration) (i : ℕ) → length xs ≤ i → now ≡ before ++ names_kept domain (functions_in n (take i xs)) → now ≡ before ++ names_kept domain (functions_in n xs)
kept_all domain before now n xs i le a = a ∙ ap (λ ds. before ++ names_kept domain (functions_in n ds)) (take_all i xs le)

pub units_kept_more : (domain : Name) (now after : List Name) (units : List LoadedUnit) (i : ℕ) (u : LoadedUnit) (ds : List RawDeclaration) → ds ≡ u.unit.declarations → i < length units → u ≡ get_or units i u → now ≡ names_kept domain (functions (take i units)) → after ≡ now ++ names_kept domain (functions_in i ds)
    → after ≡ names_kept domain (functions (take (i + 1) units))
units_kept_more domain now after units i u ds e lt is a b =
    let f : RawUnit → List RawDeclaration = λ v. v.declarations in
    kept_both domain [] now after (functions (take i units)) (functions_in i ds) (functions (take (i + 1) units)) (of_all_more function_in f units i u lt is ∙ ap (λ items. functions (take i units) ++ functions_in i items) (sym e)) a b

pub units_kept_all : (domain : Name) (now : List Name) (units : List LoadedUnit) (i : ℕ) → length units ≤ i → now ≡ names_kept domain (functions (take i units)) → now ≡ constants_of units domain
units_kept_all domain now units i le a = a ∙ ap (λ us. names_kept domain (functions us)) (take_all i units le)

-- ---- one declaration

none_long : {X : Type 0} (ys : List X) → length ys ≡ 0 → ys ≡ []
none_long [] e = refl
none_long (y ∷ ys) e = absurd (omega (arith, e))

pub not_kept : (domain : Name) (before : List Name) (fs : List DeclaredFunction) (result : Bool) → length (filter (is_constant_of domain) fs) ≡ (if result then 1 else 0) → result ≡ false → before ≡ before ++ names_kept domain fs
not_kept domain before fs result e f = none_kept domain before fs (none_long (filter (is_constant_of domain) fs) (e ∙ ap (λ (b : Bool). if b then 1 else 0) f))

one_filtered : {X : Type 0} (p : X → Bool) (x : X) → length (filter p (x ∷ [])) ≡ 1 → filter p (x ∷ []) ≡ x ∷ []
one_filtered p x e = by (p x) refl
  where
    by : (b : Bool) → p x ≡ b → filter p (x ∷ []) ≡ x ∷ []
    by true h = rw h refl
    by false h = let f : length (filter p (x ∷ [])) ≡ 0 = rw h refl in absurd (omega (arith, e, f))

pub constant_kept : (domain : Name) (before after : List Name) (n : ℕ) (item : RawDeclaration) (kind : RawFunctionKind) (name : RawName) (ds : List RawName) (c : RawName) (made : Name) (result : Bool) → item ≡ declaration.Function kind name ds c → length (filter (is_constant_of domain) (function_in (n, item))) ≡ (if result then 1 else 0) → result ≡ true
    → made ≡ name.text → after ≡ before ++ made ∷ [] → after ≡ before ++ names_kept domain (function_in (n, item))
constant_kept domain before after n item kind name ds c made result told_item count yes' is a =
    let f : DeclaredFunction = record { unit = n; kind = kind; name = name; domains = ds; codomain = c } in
    let one : length (filter (is_constant_of domain) (f ∷ [])) ≡ 1 = ap (λ (x : RawDeclaration). length (filter (is_constant_of domain) (function_in (n, x)))) (sym told_item) ∙ count ∙ ap (λ (b : Bool). if b then 1 else 0) yes' in
    a ∙ ap (λ (t : Name). before ++ t ∷ []) is ∙ ap (λ l. before ++ map (λ (g : DeclaredFunction). g.name.text) l) (sym (one_filtered (is_constant_of domain) f one)) ∙ ap (λ (x : RawDeclaration). before ++ names_kept domain (function_in (n, x))) (sym told_item)

-- ---- definitions of a domain

abbrev pub is_of : Name → DomainDefinition → Bool
is_of text d = has_name text d.name

found_front : {X : Type 0} (p : X → Bool) (xs ys : List X) (x : X) → find p xs ≡ Some x → find p (xs ++ ys) ≡ Some x
found_front p [] ys x e = absurd (cc (e))
found_front p (y ∷ xs) ys x e = by (p y) (found_front p xs ys x) e
  where
    by : (b : Bool) → (find p xs ≡ Some x → find p (xs ++ ys) ≡ Some x) → cond b (Some y) (find p xs) ≡ Some x → cond b (Some y) (find p (xs ++ ys)) ≡ Some x
    by true rest h = h
    by false rest h = rest h

found_behind : {X : Type 0} (p : X → Bool) (xs ys : List X) → find p xs ≡ None → find p (xs ++ ys) ≡ find p ys
found_behind p [] ys e = refl
found_behind p (y ∷ xs) ys e = by (p y) (found_behind p xs ys) e
  where
    by : (b : Bool) → (find p xs ≡ None → find p (xs ++ ys) ≡ find p ys) → cond b (Some y) (find p xs) ≡ None → cond b (Some y) (find p (xs ++ ys)) ≡ find p ys
    by true rest h = absurd (cc (h))
    by false rest h = rest h

no_value : {X V : Type 0} (v : X → V) (o : Option X) → option_map v o ≡ None → o ≡ None
no_value v None e = refl
no_value v (Some x) e = absurd (cc (e))

-- none in front, and none here
pub sought_more : {X V : Type 0} (p : X → Bool) (v : X → V) (front here all : List X) → all ≡ front ++ here → find p front ≡ None → option_map v (find p here) ≡ None → find p all ≡ None
sought_more p v front here all e a b = ap (find p) e ∙ found_behind p front here a ∙ no_value v (find p here) b

-- none in front, and one here
pub sought_here : {X V : Type 0} (p : X → Bool) (v : X → V) (front here rest all : List X) (r : V) → all ≡ (front ++ here) ++ rest → find p front ≡ None → option_map v (find p here) ≡ Some r → option_map v (find p all) ≡ Some r
sought_here {X} p v front here rest all r e a b = by (find p here) refl b
  where
    by : (o : Option X) → find p here ≡ o → option_map v o ≡ Some r → option_map v (find p all) ≡ Some r
    by None f g = absurd (cc (g))
    by (Some x) f g = ap (λ xs. option_map v (find p xs)) e ∙ ap (option_map v) (found_front p (front ++ here) rest x (found_behind p front here a ∙ f)) ∙ g

flat_split : {X A : Type 0} (f : X → List A) (k : ℕ) (xs : List X) → (zs : List A) × (flat_map f xs ≡ flat_map f (take k xs) ++ zs)
flat_split f zero xs = (flat_map f xs, refl)
flat_split f (suc k) [] = ([], refl)
flat_split f (suc k) (x ∷ xs) = let r = flat_split f k xs in (r.0, ap (λ l. f x ++ l) r.1 ∙ sym (append_assoc (f x) (flat_map f (take k xs)) r.0))

units_split : {A : Type 0} (g : ℕ × RawUnit → List A) (n k : ℕ) (us : List LoadedUnit) → (zs : List A) × (flat_map g (enumerate_from n (map (λ u. u.unit) us)) ≡ flat_map g (enumerate_from n (map (λ u. u.unit) (take k us))) ++ zs)
units_split g n zero us = (flat_map g (enumerate_from n (map (λ u. u.unit) us)), refl)
units_split g n (suc k) [] = ([], refl)
units_split g n (suc k) (u ∷ us) =
    let r = units_split g (n + 1) k us in
    (r.0, ap (λ l. g (n, u.unit) ++ l) r.1 ∙ sym (append_assoc (g (n, u.unit)) (flat_map g (enumerate_from (n + 1) (map (λ u. u.unit) (take k us)))) r.0))

definitions_split : (k : ℕ) (units : List LoadedUnit) → (zs : List DomainDefinition) × (domain_definitions units ≡ domain_definitions (take k units) ++ zs)
definitions_split k units =
    let g : ℕ × RawUnit → List (Of RawDefinition) = λ p. map (λ a. (p.0, a)) p.1.definitions in
    let r = units_split g 0 k units in
    let front : List (Of RawDefinition) = all_of (λ u. u.definitions) (take k units) in
    (flat_map domain_definition_in r.0, ap (flat_map domain_definition_in) r.1 ∙ flat_map-append domain_definition_in front r.0)

pub none_more : (text : Name) (n : ℕ) (xs : List RawDefinition) (i : ℕ) (x : RawDefinition) (result : Bool) → i < length xs → x ≡ get_or xs i x → find (is_of text) (definitions_in n (take i xs)) ≡ None
    → option_map told (find (is_of text) (domain_definition_in (n, x))) ≡ (if result then Some (numbers_in x) else None) → result ≡ false → find (is_of text) (definitions_in n (take (i + 1) xs)) ≡ None
none_more text n xs i x result lt is a b no' =
    let f : RawDefinition → List DomainDefinition = λ d. domain_definition_in (n, d) in
    sought_more (is_of text) told (definitions_in n (take i xs)) (f x) (definitions_in n (take (i + 1) xs)) (flat_more f xs i x lt is) a (b ∙ ap (λ (t : Bool). if t then Some (numbers_in x) else None) no')

pub one_here : (text : Name) (n : ℕ) (xs : List RawDefinition) (i : ℕ) (x : RawDefinition) (result : Bool) → i < length xs → x ≡ get_or xs i x → find (is_of text) (definitions_in n (take i xs)) ≡ None
    → option_map told (find (is_of text) (domain_definition_in (n, x))) ≡ (if result then Some (numbers_in x) else None) → result ≡ true → option_map told (find (is_of text) (definitions_in n xs)) ≡ Some (numbers_in x)
one_here text n xs i x result lt is a b yes' =
    let f : RawDefinition → List DomainDefinition = λ d. domain_definition_in (n, d) in
    let r = flat_split f (i + 1) xs in
    sought_here (is_of text) told (definitions_in n (take i xs)) (f x) r.0 (definitions_in n xs) (numbers_in x) (r.1 ∙ ap (λ l. l ++ r.0) (flat_more f xs i x lt is)) a (b ∙ ap (λ (t : Bool). if t then Some (numbers_in x) else None) yes')

pub none_all : (text : Name) (n : ℕ) (xs : List RawDefinition) (i : ℕ) → length xs ≤ i → find (is_of text) (definitions_in n (take i xs)) ≡ None → option_map told (find (is_of text) (definitions_in n xs)) ≡ None
none_all text n xs i le a = ap (λ ds. option_map told (find (is_of text) (definitions_in n ds))) (sym (take_all i xs le)) ∙ ap (option_map told) a

pub units_none_more : (text : Name) (units : List LoadedUnit) (i : ℕ) (u : LoadedUnit) (ds : List RawDefinition) → ds ≡ u.unit.definitions → i < length units → u ≡ get_or units i u → find (is_of text) (domain_definitions (take i units)) ≡ None
    → option_map told (find (is_of text) (definitions_in i ds)) ≡ None → find (is_of text) (domain_definitions (take (i + 1) units)) ≡ None
units_none_more text units i u ds e lt is a b =
    let f : RawUnit → List RawDefinition = λ v. v.definitions in
    sought_more (is_of text) told (domain_definitions (take i units)) (definitions_in i ds) (domain_definitions (take (i + 1) units)) (of_all_more domain_definition_in f units i u lt is ∙ ap (λ items. domain_definitions (take i units) ++ definitions_in i items) (sym e)) a b

pub units_one_here : (text : Name) (units : List LoadedUnit) (i : ℕ) (u : LoadedUnit) (ds : List RawDefinition) (r : List ℤ) → ds ≡ u.unit.definitions → i < length units → u ≡ get_or units i u → find (is_of text) (domain_definitions (take i units)) ≡ None
    → option_map told (find (is_of text) (definitions_in i ds)) ≡ Some r → option_map told (definition_of_domain units text) ≡ Some r
units_one_here text units i u ds r e lt is a b =
    let f : RawUnit → List RawDefinition = λ v. v.definitions in
    let s = definitions_split (i + 1) units in
    sought_here (is_of text) told (domain_definitions (take i units)) (definitions_in i ds) s.0 (domain_definitions units) r
    (s.1 ∙ ap (λ l. l ++ s.0) (of_all_more domain_definition_in f units i u lt is ∙ ap (λ items. domain_definitions (take i units) ++ definitions_in i items) (sym e))) a b

pub units_none_all : (text : Name) (units : List LoadedUnit) (i : ℕ) → length units ≤ i → find (is_of text) (domain_definitions (take i units)) ≡ None → option_map told (definition_of_domain units text) ≡ None
units_none_all text units i le a = ap (λ us. option_map told (find (is_of text) (domain_definitions us))) (sym (take_all i units le)) ∙ ap (option_map told) a

-- ---- one definition

defined_if : (text : Name) (d : DomainDefinition) (b : Bool) → b ≡ is_of text d → option_map told (find (is_of text) (d ∷ [])) ≡ (if b then Some (told d) else None)
defined_if text d true e = ap (λ (t : Bool). option_map told (cond t (Some d) None)) (sym e)
defined_if text d false e = ap (λ (t : Bool). option_map told (cond t (Some d) None)) (sym e)

pub range_sought : (text : Name) (n : ℕ) (item : RawDefinition) (name : RawName) (low high : RawInt) (b : Bool) → item ≡ definition.Range name low high → b ≡ bytes_eq name.text text → option_map told (find (is_of text) (domain_definition_in (n, item))) ≡ (if b then Some (numbers_in item) else None)
range_sought text n item name low high b e f =
    let d : DomainDefinition = record { unit = n; name = name; numerals = Range low high } in
    ap (λ (x : RawDefinition). option_map told (find (is_of text) (domain_definition_in (n, x)))) e ∙ defined_if text d b f ∙ ap (λ (x : RawDefinition). if b then Some (numbers_in x) else None) (sym e)

pub list_sought : (text : Name) (n : ℕ) (item : RawDefinition) (name : RawName) (xs : List RawInt) (b : Bool) → item ≡ definition.List name xs → b ≡ bytes_eq name.text text → option_map told (find (is_of text) (domain_definition_in (n, item))) ≡ (if b then Some (numbers_in item) else None)
list_sought text n item name xs b e f =
    let d : DomainDefinition = record { unit = n; name = name; numerals = Listing xs } in
    ap (λ (x : RawDefinition). option_map told (find (is_of text) (domain_definition_in (n, x)))) e ∙ defined_if text d b f ∙ ap (λ (x : RawDefinition). if b then Some (numbers_in x) else None) (sym e)

pub none_sought : (text : Name) {ds : List DomainDefinition} → ds ≡ [] → option_map told (find (is_of text) ds) ≡ None
none_sought text e = ap (λ ds. option_map told (find (is_of text) ds)) e
