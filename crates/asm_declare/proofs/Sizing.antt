-- Definitions of domains and declared domains, one after the other, and what is found by their names.
use Rattle.std.proofs.Common.{◌≡◌, ℕ, suc, ◌+◌, ◌<◌, ◌≤◌, Bool, true, false, cond, if◌then◌else◌, nat_eq, nat_lt, List, [], ◌∷◌, ◌++◌, length, map, take, get_or, Option, Some, None, option_map, refl, sym, ap, ◌∙◌, subst, inl, inr, add-one, arith, append_assoc, flat_map, find, position}
use Rattle.std.specs.Str.{bytes_eq}
use Rattle.std.specs.List.{position_from}
use Rattle.std.specs.Option.{unwrap_or}
use Rattle.std.proofs.lemmas.Bool.{cases_lt}
use Rattle.std.proofs.lemmas.Bool.Decides.{nat_tests}
use Rattle.std.proofs.lemmas.Grind.{flat_map-append}
use Rattle.std.proofs.lemmas.Iterator.Adapters.{position_from-zero}
use Rattle.std.proofs.lemmas.List.{append-nil, map-append, length-map, take_all}
use Rattle.name_table.specs.Numbered.{number_of}
use Rattle.asm_tree.specs.declared.term.RawName.{RawName}
use Rattle.asm_domain.specs.Universe.{numbers_between}
use Rattle.asm_tree.specs.declared.unit.RawInt.{RawInt}
use Rattle.asm_tree.specs.declared.unit.RawDefinition.{RawDefinition}
use Rattle.asm_tree.specs.declared.unit.RawDefinition.TheVariants as definition
use Rattle.asm_tree.specs.declared.unit.RawDeclaration.{RawDeclaration}
use Rattle.asm_tree.specs.declared.unit.RawDeclaration.TheVariants as declaration
use Rattle.asm_tree.specs.declared.unit.RawUnit.{RawUnit}
use Rattle.asm_tree.specs.declared.unit.LoadedUnit.{LoadedUnit}
use Rattle.asm_faults.specs.declared.fault.Fault.{Fault}
use Rattle.asm_faults.specs.declared.fault.ModelFault.TheVariants.{EmptyDomain, DomainTooLarge, WrongKind}
use Rattle.asm_faults.specs.At.{Name, fault_at}
use Rattle.asm_faults.specs.First.{noted}
use Rattle.asm_faults.specs.Files.{Of, has_name, DeclaredDomain, Enumerated, Part, Abstract, domain_in, domains}
use Rattle.asm_faults.specs.DomainFaults.{integer, DomainDefinition, Range, Listing, domain_definition_in, domain_definitions, definition_of_domain, numbers_of, constants_of, definition_repeats, declaration_faults, repeats}
use Rattle.asm_faults.specs.DomainFaults as faults
use Rattle.asm_faults.proofs.Noting.{noted_append}
use Rattle.asm_declare.specs.declared.tables.Measure.{Measure}
use Rattle.asm_declare.specs.Entered.{texts, AreEntered}
use Rattle.asm_declare.specs.Measures.{capped, value_at, found, domains_in, definitions_in, defined_name, defined_size, AreDefined, AreDefinitions, domain_text, measure_of, faults_of_size, faults_of_part, AreMeasured, AreMeasures}
use Rattle.asm_declare.proofs.Walks.{flat_more, of_all_more, map-map}
use Rattle.asm_declare.proofs.Entering.{none_entered, both_entered, same_entered}

-- ---- what is found by a name

from-suc : {X : Type 0} (p : X → Bool) (i : ℕ) (xs : List X) → position_from p (i + 1) xs ≡ option_map suc (position_from p i xs)
from-suc p i [] = refl
from-suc p i (x ∷ xs) = by (p x) (from-suc p (i + 1) xs)
  where
    by : (b : Bool) → position_from p (i + 1 + 1) xs ≡ option_map suc (position_from p (i + 1) xs) → cond b (Some (i + 1)) (position_from p (i + 1 + 1) xs) ≡ option_map suc (cond b (Some i) (position_from p (i + 1) xs))
    by true h = ap Some (add-one i)
    by false h = h

position-cons : {X : Type 0} (p : X → Bool) (x : X) (xs : List X) → position p (x ∷ xs) ≡ cond (p x) (Some 0) (option_map suc (position p xs))
position-cons p x xs = position_from-zero p (x ∷ xs) ∙ ap (cond (p x) (Some 0)) (from-suc p 0 xs ∙ ap (option_map suc) (sym (position_from-zero p xs)))

got-suc : {A : Type 0} (v : A) (values : List A) (b : Bool) (o : Option ℕ) (r : Option A) → value_at values o ≡ r → value_at (v ∷ values) (cond b (Some 0) (option_map suc o)) ≡ cond b (Some v) r
got-suc v values true o r e = refl
got-suc v values false None r e = e
got-suc v values false (Some k) r e = e

got-find : {D A : Type 0} (key : D → Name) (val : D → A) (ds : List D) (text : Name) → value_at (map val ds) (number_of (map key ds) text) ≡ option_map val (find (λ d. bytes_eq (key d) text) ds)
got-find key val [] text = refl
got-find {D} {A} key val (d ∷ ds) text =
    let p : Name → Bool = λ other. bytes_eq other text in
    ap (λ (o : Option ℕ). value_at (map val (d ∷ ds)) o) (position-cons p (key d) (map key ds)) ∙ got-suc (val d) (map val ds) (p (key d)) (number_of (map key ds) text) (option_map val (find (λ e. bytes_eq (key e) text) ds)) (got-find key val ds text)
    ∙ by (p (key d))
  where
    by : (b : Bool) → cond b (Some (val d)) (option_map val (find (λ e. bytes_eq (key e) text) ds)) ≡ option_map val (cond b (Some d) (find (λ e. bytes_eq (key e) text) ds))
    by true = refl
    by false = refl

-- the first of some things with a name is found in the table of them
pub found_first : {D A : Type 0} (key : D → Name) (val : D → A) (ds : List D) (names : List Name) (values : List A) (text : Name) → names ≡ map key ds → values ≡ map val ds → found names values text ≡ option_map val (find (λ d. bytes_eq (key d) text) ds)
found_first key val ds names values text a b = (λ j. value_at (b j) (number_of (a j) text)) ∙ got-find key val ds text

-- ---- definitions

pub none_defined : {first : Option Fault} {earlier : List Name} {sizes : List ℕ} → AreDefined first earlier sizes [] first earlier sizes
none_defined {sizes = sizes} = record { entered = none_entered; sizes_are = sym (append-nil sizes) }

pub both_defined : {first now last : Option Fault} {earlier later all : List Name} {sizes after end : List ℕ} {xs ys : List DomainDefinition} → AreDefined first earlier sizes xs now later after → AreDefined now later after ys last all end → AreDefined first earlier sizes (xs ++ ys) last all end
both_defined {sizes = sizes} {after = after} {xs = xs} {ys = ys} a b = record {
  entered = same_entered (sym (map-append defined_name xs ys)) (both_entered a.entered b.entered);
  sizes_are = b.sizes_are ∙ ap (λ ns. ns ++ map defined_size ys) a.sizes_are ∙ append_assoc sizes (map defined_size xs) (map defined_size ys) ∙ ap (λ ns. sizes ++ ns) (sym (map-append defined_size xs ys));
}

pub same_defined : {first now : Option Fault} {earlier later : List Name} {sizes after : List ℕ} {xs ys : List DomainDefinition} → xs ≡ ys → AreDefined first earlier sizes xs now later after → AreDefined first earlier sizes ys now later after
same_defined {first} {now} {earlier} {later} {sizes} {after} e a = subst (λ ds. AreDefined first earlier sizes ds now later after) e a

pub defined_more : {first now last : Option Fault} {earlier later all : List Name} {sizes after end : List ℕ} (n : ℕ) (xs : List RawDefinition) (i : ℕ) (x : RawDefinition) → i < length xs → x ≡ get_or xs i x
    → AreDefined first earlier sizes (definitions_in n (take i xs)) now later after → AreDefined now later after (domain_definition_in (n, x)) last all end → AreDefined first earlier sizes (definitions_in n (take (i + 1) xs)) last all end
defined_more n xs i x lt is a b =
    let f : RawDefinition → List DomainDefinition = λ d. domain_definition_in (n, d) in same_defined (sym (flat_more f xs i x lt is)) (both_defined a b)

pub defined_all : {first now : Option Fault} {earlier later : List Name} {sizes after : List ℕ} (n : ℕ) (xs : List RawDefinition) (i : ℕ) → length xs ≤ i → AreDefined first earlier sizes (definitions_in n (take i xs)) now later after → AreDefined first earlier sizes (definitions_in n xs) now later after
defined_all n xs i le a = same_defined (ap (definitions_in n) (take_all i xs le)) a

pub units_defined_more : {first now last : Option Fault} {earlier later all : List Name} {sizes after end : List ℕ} (units : List LoadedUnit) (i : ℕ) (u : LoadedUnit) (ds : List RawDefinition) → ds ≡ (get_or units i u).unit.definitions → i < length units → u ≡ get_or units i u
    → AreDefined first earlier sizes (domain_definitions (take i units)) now later after → AreDefined now later after (definitions_in i ds) last all end → AreDefined first earlier sizes (domain_definitions (take (i + 1) units)) last all end
units_defined_more units i u ds e lt is a b =
    let f : RawUnit → List RawDefinition = λ v. v.definitions in same_defined (sym (of_all_more domain_definition_in f units i u lt is)) (both_defined a (same_defined (ap (definitions_in i) (e ∙ ap (λ (v : LoadedUnit). v.unit.definitions) (sym is))) b))

pub units_defined_all : {first now : Option Fault} {earlier later : List Name} {sizes after : List ℕ} (units : List LoadedUnit) (i : ℕ) → length units ≤ i → AreDefined first earlier sizes (domain_definitions (take i units)) now later after → AreDefined first earlier sizes (domain_definitions units) now later after
units_defined_all units i le a = same_defined (ap domain_definitions (take_all i units le)) a

pub one_defined : {first now : Option Fault} {earlier later : List Name} {sizes after : List ℕ} (d : DomainDefinition) (size : ℕ) → size ≡ defined_size d → AreEntered first earlier ((d.unit, d.name) ∷ []) now later → after ≡ sizes ++ size ∷ [] → AreDefined first earlier sizes (d ∷ []) now later after
one_defined {sizes = sizes} d size e a b = record { entered = a; sizes_are = b ∙ ap (λ (k : ℕ). sizes ++ k ∷ []) e }

-- ---- declared domains

pub none_measured : {units : List LoadedUnit} {first : Option Fault} {names : List Name} {measures : List Measure} → AreMeasured units first names measures [] first names measures
none_measured {names = names} {measures = measures} = record { noted_is = refl; names_are = sym (append-nil names); measures_are = sym (append-nil measures) }

pub both_measured : {units : List LoadedUnit} {first now last : Option Fault} {names later all : List Name} {measures after end : List Measure} {xs ys : List DeclaredDomain} → AreMeasured units first names measures xs now later after → AreMeasured units now later after ys last all end
    → AreMeasured units first names measures (xs ++ ys) last all end
both_measured {units} {first} {now} {last} {names} {later} {all} {measures} {after} {end} {xs} {ys} a b = record {
  noted_is = b.noted_is ∙ ap (λ f. noted f (flat_map (declaration_faults units) ys)) a.noted_is ∙ sym (noted_append first (flat_map (declaration_faults units) xs) (flat_map (declaration_faults units) ys)) ∙ ap (noted first) (sym (flat_map-append (declaration_faults units) xs ys));
  names_are = b.names_are ∙ ap (λ ns. ns ++ map domain_text ys) a.names_are ∙ append_assoc names (map domain_text xs) (map domain_text ys) ∙ ap (λ ns. names ++ ns) (sym (map-append domain_text xs ys));
  measures_are = b.measures_are ∙ ap (λ ms. ms ++ map (measure_of units) ys) a.measures_are ∙ append_assoc measures (map (measure_of units) xs) (map (measure_of units) ys) ∙ ap (λ ms. measures ++ ms) (sym (map-append (measure_of units) xs ys));
}

pub same_measured : {units : List LoadedUnit} {first now : Option Fault} {names later : List Name} {measures after : List Measure} {xs ys : List DeclaredDomain} → xs ≡ ys → AreMeasured units first names measures xs now later after → AreMeasured units first names measures ys now later after
same_measured {units} {first} {now} {names} {later} {measures} {after} e a = subst (λ ds. AreMeasured units first names measures ds now later after) e a

pub measured_more : {units : List LoadedUnit} {first now last : Option Fault} {names later all : List Name} {measures after end : List Measure} (n : ℕ) (xs : List RawDeclaration) (i : ℕ) (x : RawDeclaration) → i < length xs → x ≡ get_or xs i x
    → AreMeasured units first names measures (domains_in n (take i xs)) now later after → AreMeasured units now later after (domain_in (n, x)) last all end → AreMeasured units first names measures (domains_in n (take (i + 1) xs)) last all end
measured_more n xs i x lt is a b =
    let f : RawDeclaration → List DeclaredDomain = λ d. domain_in (n, d) in same_measured (sym (flat_more f xs i x lt is)) (both_measured a b)

pub measured_all : {units : List LoadedUnit} {first now : Option Fault} {names later : List Name} {measures after : List Measure} (n : ℕ) (xs : List RawDeclaration) (i : ℕ) → length xs ≤ i → AreMeasured units first names measures (domains_in n (take i xs)) now later after
    → AreMeasured units first names measures (domains_in n xs) now later after
measured_all n xs i le a = same_measured (ap (domains_in n) (take_all i xs le)) a

pub units_measured_more : {all_units : List LoadedUnit} {first now last : Option Fault} {names later all : List Name} {measures after end : List Measure} (units : List LoadedUnit) (i : ℕ) (u : LoadedUnit) (ds : List RawDeclaration) → ds ≡ (get_or units i u).unit.declarations → i < length units → u ≡ get_or units i u
    → AreMeasured all_units first names measures (domains (take i units)) now later after → AreMeasured all_units now later after (domains_in i ds) last all end → AreMeasured all_units first names measures (domains (take (i + 1) units)) last all end
units_measured_more units i u ds e lt is a b =
    let f : RawUnit → List RawDeclaration = λ v. v.declarations in same_measured (sym (of_all_more domain_in f units i u lt is)) (both_measured a (same_measured (ap (domains_in i) (e ∙ ap (λ (v : LoadedUnit). v.unit.declarations) (sym is))) b))

pub units_measured_all : {all_units : List LoadedUnit} {first now : Option Fault} {names later : List Name} {measures after : List Measure} (units : List LoadedUnit) (i : ℕ) → length units ≤ i → AreMeasured all_units first names measures (domains (take i units)) now later after
    → AreMeasured all_units first names measures (domains units) now later after
units_measured_all units i le a = same_measured (ap domains (take_all i units le)) a

-- ---- sizes

large : (c n : ℕ) (name : RawName) → 256 < c → faults_of_size c n name ≡ fault_at DomainTooLarge n name ∷ []
large c n name h =
    let some : nat_eq c 0 ≡ false = grind (arith, nat_tests) in
    let many : nat_lt 256 c ≡ true = grind (arith, nat_tests) in
    let none : List Fault = [] in
    λ j. if some j then fault_at EmptyDomain n name ∷ [] else (if many j then fault_at DomainTooLarge n name ∷ [] else none)

-- what is wrong with a size shows in the kept one
pub size_same : (c n : ℕ) (name : RawName) → faults_of_size (capped c) n name ≡ faults_of_size c n name
size_same c n name =
    elim (cases_lt c 4097) [
      | inl lt ↦ let e : capped c ≡ c = omega arith in ap (λ (k : ℕ). faults_of_size k n name) e
      | inr le ↦
          let e : capped c ≡ 4097 = omega arith in
          ap (λ (k : ℕ). faults_of_size k n name) e ∙ large 4097 n name (omega arith) ∙ sym (large c n name (omega arith))
    ]

-- a domain whose elements are told by its declaration or by its constants
pub counted_measured : (units : List LoadedUnit) (first now : Option Fault) (names later : List Name) (measures after : List Measure) (d : DeclaredDomain) (count : ℕ) → declaration_faults units d ≡ faults_of_size count d.unit d.name → measure_of units d ≡ record { is_part = false; size = capped count }
    → now ≡ noted first (faults_of_size (capped count) d.unit d.name) → later ≡ names ++ d.name.text ∷ [] → after ≡ measures ++ record { is_part = false; size = capped count } ∷ [] → AreMeasured units first names measures (d ∷ []) now later after
counted_measured units first now names later measures after d count e f a b c = record {
  noted_is = a ∙ ap (noted first) (size_same count d.unit d.name ∙ sym e ∙ sym (append-nil (declaration_faults units d)));
  names_are = b;
  measures_are = c ∙ ap (λ (m : Measure). measures ++ m ∷ []) (sym f);
}

-- ---- parts of other domains

-- the kept size of the first definition of a domain
pub found_size : (units : List LoadedUnit) (names : List Name) (sizes : List ℕ) (text : Name) → AreDefinitions units names sizes → found names sizes text ≡ option_map defined_size (definition_of_domain units text)
found_size units names sizes text a = found_first (λ (d : DomainDefinition). d.name.text) defined_size (domain_definitions units) names sizes text a.names_are a.sizes_are

parts : (units : List LoadedUnit) (n : ℕ) (name base : RawName) (o : Option DomainDefinition) → definition_of_domain units name.text ≡ o → faults.part_faults units (record { unit = n; name = name; form = Part base }) o ≡ faults_of_part (option_map defined_size o) n name
parts units n name base None e = refl
parts units n name base (Some x) e =
    ap (λ (o : Option DomainDefinition). faults_of_size (length (unwrap_or (option_map (λ (y : DomainDefinition). numbers_of y.numerals) o) [])) n name) e ∙ sym (size_same (length (numbers_of x.numerals)) n name)

part_size : (o : Option DomainDefinition) → capped (length (unwrap_or (option_map (λ (y : DomainDefinition). numbers_of y.numerals) o) [])) ≡ unwrap_or (option_map defined_size o) 0
part_size None = refl
part_size (Some x) = refl

pub part_measured : (units : List LoadedUnit) (first middle now : Option Fault) (names later defined : List Name) (sizes : List ℕ) (measures after : List Measure) (n : ℕ) (item : RawDeclaration) (name base : RawName) → item ≡ declaration.Subset name base → AreDefinitions units defined sizes
    → middle ≡ noted first (if has_name integer base then [] else fault_at WrongKind n base ∷ []) → now ≡ noted middle (faults_of_part (found defined sizes name.text) n name)
    → later ≡ names ++ name.text ∷ [] → after ≡ measures ++ record { is_part = true; size = unwrap_or (found defined sizes name.text) 0 } ∷ [] → AreMeasured units first names measures (domain_in (n, item)) now later after
part_measured units first middle now names later defined sizes measures after n item name base told known a b c e =
    let d : DeclaredDomain = record { unit = n; name = name; form = Part base } in
    let bases : List Fault = if has_name integer base then [] else fault_at WrongKind n base ∷ [] in
    let first_one : Option DomainDefinition = definition_of_domain units name.text in
    let is : found defined sizes name.text ≡ option_map defined_size first_one = found_size units defined sizes name.text known in
    let whole : AreMeasured units first names measures (d ∷ []) now later after = record {
      noted_is = b ∙ (λ j. noted (a j) (faults_of_part (is j) n name)) ∙ ap (λ fs. noted (noted first bases) fs) (sym (parts units n name base first_one refl)) ∙ sym (noted_append first bases (faults.part_faults units d first_one)) ∙ ap (noted first) (sym (append-nil (declaration_faults units d)));
      names_are = c;
      measures_are = e ∙ ap (λ (o : Option ℕ). let m : Measure = record { is_part = true; size = unwrap_or o 0 } in measures ++ m ∷ []) is ∙ ap (λ (k : ℕ). let m : Measure = record { is_part = true; size = k } in measures ++ m ∷ []) (sym (part_size first_one));
    } in
    same_measured (ap (λ (x : RawDeclaration). domain_in (n, x)) (sym told)) whole

-- ---- the forms of domains

pub enumeration_measured : (units : List LoadedUnit) (first now : Option Fault) (names later : List Name) (measures after : List Measure) (n : ℕ) (item : RawDeclaration) (name : RawName) (es : List RawName) (size : ℕ) → item ≡ declaration.Enumeration name es → size ≡ capped (length es) → now ≡ noted first (faults_of_size size n name)
    → later ≡ names ++ name.text ∷ [] → after ≡ measures ++ record { is_part = false; size = size } ∷ [] → AreMeasured units first names measures (domain_in (n, item)) now later after
enumeration_measured units first now names later measures after n item name es size told is a b c =
    let d : DeclaredDomain = record { unit = n; name = name; form = Enumerated es } in
    let count : length (map (λ (e : RawName). e.text) es) ≡ length es = length-map es (λ (e : RawName). e.text) in
    same_measured (ap (λ (x : RawDeclaration). domain_in (n, x)) (sym told))
    (counted_measured units first now names later measures after d (length es) (ap (λ (k : ℕ). faults_of_size k n name) count) (ap (λ (k : ℕ). let m : Measure = record { is_part = false; size = capped k } in m) count)
    (a ∙ ap (λ (k : ℕ). noted first (faults_of_size k n name)) is) b (c ∙ ap (λ (k : ℕ). let m : Measure = record { is_part = false; size = k } in measures ++ m ∷ []) is))

pub abstract_measured : (units : List LoadedUnit) (first now : Option Fault) (names later : List Name) (measures after : List Measure) (n : ℕ) (item : RawDeclaration) (name : RawName) (size : ℕ) → item ≡ declaration.Abstract name → size ≡ capped (length (constants_of units name.text)) → now ≡ noted first (faults_of_size size n name)
    → later ≡ names ++ name.text ∷ [] → after ≡ measures ++ record { is_part = false; size = size } ∷ [] → AreMeasured units first names measures (domain_in (n, item)) now later after
abstract_measured units first now names later measures after n item name size told is a b c =
    let d : DeclaredDomain = record { unit = n; name = name; form = Abstract } in
    same_measured (ap (λ (x : RawDeclaration). domain_in (n, x)) (sym told))
    (counted_measured units first now names later measures after d (length (constants_of units name.text)) refl refl (a ∙ ap (λ (k : ℕ). noted first (faults_of_size k n name)) is) b
    (c ∙ ap (λ (k : ℕ). let m : Measure = record { is_part = false; size = k } in measures ++ m ∷ []) is))

pub no_domain : {units : List LoadedUnit} {first : Option Fault} {names : List Name} {measures : List Measure} {ds : List DeclaredDomain} → ds ≡ [] → AreMeasured units first names measures ds first names measures
no_domain e = same_measured (sym e) none_measured

-- ---- the forms of definitions

pub no_definition : {first : Option Fault} {earlier : List Name} {sizes : List ℕ} {ds : List DomainDefinition} → ds ≡ [] → AreDefined first earlier sizes ds first earlier sizes
no_definition e = same_defined (sym e) none_defined

pub range_defined : {first now : Option Fault} {earlier later : List Name} {sizes after : List ℕ} (n : ℕ) (item : RawDefinition) (name : RawName) (low high : RawInt) (size : ℕ) → item ≡ definition.Range name low high → size ≡ capped (length (numbers_between low.value high.value))
    → AreEntered first earlier ((n, name) ∷ []) now later → after ≡ sizes ++ size ∷ [] → AreDefined first earlier sizes (domain_definition_in (n, item)) now later after
range_defined n item name low high size told is a b =
    let d : DomainDefinition = record { unit = n; name = name; numerals = Range low high } in same_defined (ap (λ (x : RawDefinition). domain_definition_in (n, x)) (sym told)) (one_defined d size is a b)

pub list_defined : {first now : Option Fault} {earlier later : List Name} {sizes after : List ℕ} (n : ℕ) (item : RawDefinition) (name : RawName) (xs : List RawInt) (size : ℕ) → item ≡ definition.List name xs → size ≡ capped (length xs)
    → AreEntered first earlier ((n, name) ∷ []) now later → after ≡ sizes ++ size ∷ [] → AreDefined first earlier sizes (domain_definition_in (n, item)) now later after
list_defined n item name xs size told is a b =
    let d : DomainDefinition = record { unit = n; name = name; numerals = Listing xs } in
    let count : length (map (λ (x : RawInt). x.value) xs) ≡ length xs = length-map xs (λ (x : RawInt). x.value) in
    same_defined (ap (λ (x : RawDefinition). domain_definition_in (n, x)) (sym told)) (one_defined d size (is ∙ ap capped (sym count)) a b)

-- ---- whole tables

pub definitions_noted : {first now : Option Fault} {names later : List Name} {sizes after : List ℕ} (units : List LoadedUnit) → names ≡ [] → AreDefined first names sizes (domain_definitions units) now later after → now ≡ noted first (definition_repeats (domain_definitions units))
definitions_noted {first = first} units e a = a.entered.noted_is ∙ ap (λ ns. noted first (repeats ns (map defined_name (domain_definitions units)))) e

pub definitions_known : {first now : Option Fault} {names later : List Name} {sizes after : List ℕ} (units : List LoadedUnit) → names ≡ [] → sizes ≡ [] → AreDefined first names sizes (domain_definitions units) now later after → AreDefinitions units later after
definitions_known units e f a = record {
  names_are = a.entered.names_are ∙ ap (λ ns. ns ++ texts (map defined_name (domain_definitions units))) e ∙ map-map (λ (p : Of RawName). p.1.text) defined_name (domain_definitions units);
  sizes_are = a.sizes_are ∙ ap (λ ns. ns ++ map defined_size (domain_definitions units)) f;
}

pub measures_known : {first now : Option Fault} {names later : List Name} {measures after : List Measure} (units : List LoadedUnit) → names ≡ [] → measures ≡ [] → AreMeasured units first names measures (domains units) now later after → AreMeasures units later after
measures_known units e f a = record { names_are = a.names_are ∙ ap (λ ns. ns ++ map domain_text (domains units)) e; measures_are = a.measures_are ∙ ap (λ ms. ms ++ map (measure_of units) (domains units)) f }
