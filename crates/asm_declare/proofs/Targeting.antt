-- What is wrong with definitions of domains.
use Rattle.std.proofs.Common.{◌≡◌, ℕ, ◌+◌, ◌<◌, ◌≤◌, Bool, true, false, ◌||◌, if◌then◌else◌, ℤ, List, [], ◌∷◌, ◌++◌, length, map, take, get_or, Option, Some, None, option_map, refl, sym, ap, ◌∙◌, append_assoc, flat_map}
use Rattle.std.specs.List.{list_any}
use Rattle.std.specs.Ordering.{int_eq}
use Rattle.std.proofs.lemmas.Grind.{flat_map-append}
use Rattle.std.proofs.lemmas.List.Folds.{list_any-append}
use Rattle.std.proofs.lemmas.List.{append-nil, take_all}
use Rattle.asm_tree.specs.declared.term.RawName.{RawName}
use Rattle.asm_tree.specs.declared.unit.RawInt.{RawInt}
use Rattle.asm_tree.specs.declared.unit.RawDefinition.{RawDefinition}
use Rattle.asm_tree.specs.declared.unit.RawDefinition.TheVariants as definition
use Rattle.asm_tree.specs.declared.unit.RawUnit.{RawUnit}
use Rattle.asm_tree.specs.declared.unit.LoadedUnit.{LoadedUnit}
use Rattle.asm_faults.specs.declared.fault.Fault.{Fault}
use Rattle.asm_faults.specs.declared.fault.ModelFault.TheVariants.{Duplicate, WrongKind}
use Rattle.asm_faults.specs.At.{Name, fault_at, token}
use Rattle.asm_faults.specs.First.{noted}
use Rattle.asm_faults.specs.Files.{DeclaredDomain, domains, domain_named}
use Rattle.asm_faults.specs.DomainFaults.{boolean, integer, is_listed, DomainDefinition, domain_definition_in, domain_definitions, definition_repeats, declaration_faults, target_faults, declared_target_faults, numeral_faults, number_repeats, domain_faults}
use Rattle.asm_faults.proofs.Noting.{noted_append}
use Rattle.asm_declare.specs.declared.tables.Measure.{Measure}
use Rattle.asm_declare.specs.Measures.{found, definitions_in, measure_of, domain_text, AreMeasures}
use Rattle.asm_declare.specs.Targets.{faults_of_target, faults_of_definition}
use Rattle.asm_declare.proofs.Walks.{list_more, map_more, flat_more, of_all_more}
use Rattle.asm_declare.proofs.Sizing.{found_first}

-- ---- faults of a list, one item further

-- what is noted of some items, and then of others
pub noted_both : {X : Type 0} (f : X → List Fault) (first middle now : Option Fault) (xs ys zs : List X) → zs ≡ xs ++ ys → middle ≡ noted first (flat_map f xs) → now ≡ noted middle (flat_map f ys) → now ≡ noted first (flat_map f zs)
noted_both f first middle now xs ys zs e a b =
    b ∙ ap (λ m. noted m (flat_map f ys)) a ∙ sym (noted_append first (flat_map f xs) (flat_map f ys)) ∙ ap (noted first) (sym (flat_map-append f xs ys)) ∙ ap (λ l. noted first (flat_map f l)) (sym e)

pub definitions_more : (f : DomainDefinition → List Fault) (first middle now : Option Fault) (n : ℕ) (xs : List RawDefinition) (i : ℕ) (x : RawDefinition) → i < length xs → x ≡ get_or xs i x
    → middle ≡ noted first (flat_map f (definitions_in n (take i xs))) → now ≡ noted middle (flat_map f (domain_definition_in (n, x))) → now ≡ noted first (flat_map f (definitions_in n (take (i + 1) xs)))
definitions_more f first middle now n xs i x lt is a b =
    let g : RawDefinition → List DomainDefinition = λ d. domain_definition_in (n, d) in noted_both f first middle now (definitions_in n (take i xs)) (g x) (definitions_in n (take (i + 1) xs)) (flat_more g xs i x lt is) a b

pub definitions_all : (f : DomainDefinition → List Fault) (first now : Option Fault) (n : ℕ) (xs : List RawDefinition) (i : ℕ) → length xs ≤ i → now ≡ noted first (flat_map f (definitions_in n (take i xs))) → now ≡ noted first (flat_map f (definitions_in n xs))
definitions_all f first now n xs i le a = a ∙ ap (λ ds. noted first (flat_map f (definitions_in n ds))) (take_all i xs le)

pub units_definitions_more : (f : DomainDefinition → List Fault) (first middle now : Option Fault) (units : List LoadedUnit) (i : ℕ) (u : LoadedUnit) (ds : List RawDefinition) → ds ≡ (get_or units i u).unit.definitions → i < length units → u ≡ get_or units i u
    → middle ≡ noted first (flat_map f (domain_definitions (take i units))) → now ≡ noted middle (flat_map f (definitions_in i ds)) → now ≡ noted first (flat_map f (domain_definitions (take (i + 1) units)))
units_definitions_more f first middle now units i u ds e lt is a b =
    let g : RawUnit → List RawDefinition = λ v. v.definitions in
    noted_both f first middle now (domain_definitions (take i units)) (definitions_in i ds) (domain_definitions (take (i + 1) units))
    (of_all_more domain_definition_in g units i u lt is ∙ ap (λ items. domain_definitions (take i units) ++ definitions_in i items) (sym (e ∙ ap (λ (v : LoadedUnit). v.unit.definitions) (sym is)))) a b

pub units_definitions_all : (f : DomainDefinition → List Fault) (first now : Option Fault) (units : List LoadedUnit) (i : ℕ) → length units ≤ i → now ≡ noted first (flat_map f (domain_definitions (take i units))) → now ≡ noted first (flat_map f (domain_definitions units))
units_definitions_all f first now units i le a = a ∙ ap (λ us. noted first (flat_map f (domain_definitions us))) (take_all i units le)

-- ---- one definition

pub none_noted : (f : DomainDefinition → List Fault) (first : Option Fault) {ds : List DomainDefinition} → ds ≡ [] → first ≡ noted first (flat_map f ds)
none_noted f first e = ap (λ ds. noted first (flat_map f ds)) (sym e)

pub range_noted : (names : List Name) (measures : List Measure) (first now : Option Fault) (n : ℕ) (item : RawDefinition) (name : RawName) (low high : RawInt) → item ≡ definition.Range name low high
    → now ≡ noted first (faults_of_target (is_listed (boolean ∷ integer ∷ []) name.text) (found names measures name.text) n name) → now ≡ noted first (flat_map (faults_of_definition names measures) (domain_definition_in (n, item)))
range_noted names measures first now n item name low high told a =
    let target : List Fault = faults_of_target (is_listed (boolean ∷ integer ∷ []) name.text) (found names measures name.text) n name in
    a ∙ ap (noted first) (sym (append-nil (target ++ []) ∙ append-nil target)) ∙ ap (λ (x : RawDefinition). noted first (flat_map (faults_of_definition names measures) (domain_definition_in (n, x)))) (sym told)

pub listing_noted : (names : List Name) (measures : List Measure) (first middle now : Option Fault) (n : ℕ) (item : RawDefinition) (name : RawName) (xs ys : List RawInt) → item ≡ definition.List name xs → ys ≡ xs
    → middle ≡ noted first (faults_of_target (is_listed (boolean ∷ integer ∷ []) name.text) (found names measures name.text) n name) → now ≡ noted middle (number_repeats n [] ys) → now ≡ noted first (flat_map (faults_of_definition names measures) (domain_definition_in (n, item)))
listing_noted names measures first middle now n item name xs ys told same a b =
    let target : List Fault = faults_of_target (is_listed (boolean ∷ integer ∷ []) name.text) (found names measures name.text) n name in
    b ∙ (λ j. noted (a j) (number_repeats n [] (same j))) ∙ sym (noted_append first target (number_repeats n [] xs)) ∙ ap (noted first) (sym (append-nil (target ++ number_repeats n [] xs)))
    ∙ ap (λ (x : RawDefinition). noted first (flat_map (faults_of_definition names measures) (domain_definition_in (n, x)))) (sym told)

or-false : (b : Bool) → (b || false) ≡ b
or-false true = refl
or-false false = refl

-- ---- numbers of a list

abbrev pub value_of : RawInt → ℤ
value_of x = x.value

repeats_both : (n : ℕ) (earlier : List ℤ) (xs ys : List RawInt) → number_repeats n earlier (xs ++ ys) ≡ number_repeats n earlier xs ++ number_repeats n (earlier ++ map value_of xs) ys
repeats_both n earlier [] ys = ap (λ zs. number_repeats n zs ys) (sym (append-nil earlier))
repeats_both n earlier (x ∷ xs) ys =
    let here : List Fault = if list_any (int_eq x.value) earlier then token Duplicate n x.at x.first ∷ [] else [] in
    let after : List ℤ = earlier ++ x.value ∷ [] in
    ap (λ fs. here ++ fs) (repeats_both n after xs ys ∙ ap (λ zs. number_repeats n after xs ++ number_repeats n zs ys) (append_assoc earlier (x.value ∷ []) (map value_of xs)))
    ∙ sym (append_assoc here (number_repeats n after xs) (number_repeats n (earlier ++ x.value ∷ map value_of xs) ys))

pub numbers_more : (first middle now : Option Fault) (n : ℕ) (xs : List RawInt) (i : ℕ) (x : RawInt) (repeated : Bool) → i < length xs → x ≡ get_or xs i x → repeated ≡ list_any (int_eq x.value) (map value_of (take i xs))
    → middle ≡ noted first (number_repeats n [] (take i xs)) → now ≡ noted middle (if repeated then token Duplicate n x.at x.first ∷ [] else []) → now ≡ noted first (number_repeats n [] (take (i + 1) xs))
numbers_more first middle now n xs i x repeated lt is e a b =
    let here : Bool → List Fault = λ t. if t then token Duplicate n x.at x.first ∷ [] else [] in
    let last : number_repeats n (map value_of (take i xs)) (x ∷ []) ≡ here repeated = append-nil (here (list_any (int_eq x.value) (map value_of (take i xs)))) ∙ ap here (sym e) in
    b ∙ ap (λ m. noted m (here repeated)) a ∙ sym (noted_append first (number_repeats n [] (take i xs)) (here repeated))
    ∙ ap (noted first) (ap (λ fs. number_repeats n [] (take i xs) ++ fs) (sym last) ∙ sym (repeats_both n [] (take i xs) (x ∷ [])) ∙ ap (number_repeats n []) (sym (list_more xs i x lt is)))

pub numbers_all : (first now : Option Fault) (n : ℕ) (xs : List RawInt) (i : ℕ) → length xs ≤ i → now ≡ noted first (number_repeats n [] (take i xs)) → now ≡ noted first (number_repeats n [] xs)
numbers_all first now n xs i le a = a ∙ ap (λ ys. noted first (number_repeats n [] ys)) (take_all i xs le)

-- ---- a number among others

pub among_more : (value : ℤ) (xs : List RawInt) (i : ℕ) (x : RawInt) (before here now : Bool) → i < length xs → x ≡ get_or xs i x → before ≡ list_any (int_eq value) (map value_of (take i xs)) → here ≡ int_eq value x.value → now ≡ (before || here)
    → now ≡ list_any (int_eq value) (map value_of (take (i + 1) xs))
among_more value xs i x before here now lt is a b e =
    e ∙ (λ j. a j || (b ∙ sym (or-false (int_eq value x.value))) j) ∙ sym (list_any-append (int_eq value) (map value_of (take i xs)) (x.value ∷ [])) ∙ ap (list_any (int_eq value)) (sym (map_more value_of xs i x lt is))

pub among_all : (value : ℤ) (xs : List RawInt) (i place : ℕ) (among : Bool) → i ≡ place → among ≡ list_any (int_eq value) (map value_of (take i xs)) → among ≡ list_any (int_eq value) (map value_of (take place xs))
among_all value xs i place among same e = e ∙ ap (λ (k : ℕ). list_any (int_eq value) (map value_of (take k xs))) same

-- ---- the whole

-- what is wrong with a target shows in the table
target_same : (units : List LoadedUnit) (names : List Name) (measures : List Measure) (d : DomainDefinition) → AreMeasures units names measures
    → faults_of_target (is_listed (boolean ∷ integer ∷ []) d.name.text) (found names measures d.name.text) d.unit d.name ≡ target_faults units d
target_same units names measures d known =
    ap (λ o. faults_of_target (is_listed (boolean ∷ integer ∷ []) d.name.text) o d.unit d.name) (found_first domain_text (measure_of units) (domains units) names measures d.name.text known.names_are known.measures_are)
    ∙ by (is_listed (boolean ∷ integer ∷ []) d.name.text) (domain_named units d.name.text)
  where
    by : (t : Bool) (o : Option DeclaredDomain) → faults_of_target t (option_map (measure_of units) o) d.unit d.name ≡ (if t then fault_at WrongKind d.unit d.name ∷ [] else declared_target_faults d o)
    by true o = refl
    by false None = refl
    by false (Some e) = refl

flat_map-same : {X A : Type 0} (f g : X → List A) (xs : List X) → ((x : X) → f x ≡ g x) → flat_map f xs ≡ flat_map g xs
flat_map-same f g [] e = refl
flat_map-same f g (x ∷ xs) e = λ j. e x j ++ flat_map-same f g xs e j

pub domains_noted : (units files : List LoadedUnit) (names : List Name) (measures : List Measure) (first second third last : Option Fault) → files ≡ units → AreMeasures files names measures → second ≡ noted first (definition_repeats (domain_definitions files)) → third ≡ noted second (flat_map (declaration_faults files) (domains files))
    → last ≡ noted third (flat_map (faults_of_definition names measures) (domain_definitions files)) → last ≡ noted first (domain_faults units)
domains_noted units files names measures first second third last same_files known a b c =
    let xs : List Fault = definition_repeats (domain_definitions files) in
    let ys : List Fault = flat_map (declaration_faults files) (domains files) in
    let own : DomainDefinition → List Fault = λ d. target_faults files d ++ numeral_faults d in
    let zs : List Fault = flat_map own (domain_definitions files) in
    let same : flat_map (faults_of_definition names measures) (domain_definitions files) ≡ zs = flat_map-same (faults_of_definition names measures) own (domain_definitions files) (λ d. ap (λ fs. fs ++ numeral_faults d) (target_same files names measures d known)) in
    c ∙ ap (noted third) same ∙ ap (λ f. noted f zs) (b ∙ ap (λ f. noted f ys) a) ∙ ap (λ f. noted f zs) (sym (noted_append first xs ys)) ∙ sym (noted_append first (xs ++ ys) zs) ∙ ap (noted first) (append_assoc xs ys zs) ∙ ap (λ us. noted first (domain_faults us)) same_files
