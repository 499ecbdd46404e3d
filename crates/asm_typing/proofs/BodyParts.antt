-- What is wrong with bodies, part by part.
use Rattle.std.proofs.Common.{◌≡◌, ℕ, suc, ◌+◌, ◌<◌, Bool as Truth, false, ◌&&◌, nat_eq, List, [], ◌∷◌, ◌++◌, length, drop, get_or, slice_get, Option, Some, None, refl, ap, sym, ◌∙◌, drop-cons, add-one, if◌then◌else◌, flat_map}
use Rattle.std.specs.Prelude.{map, not, is_some, bytes_eq}
use Rattle.std.specs.List.{list_any, position}
use Rattle.std.specs.Option.{option_map, unwrap_or}
use Rattle.std.proofs.lemmas.Cmp.{nat_list_eq_equiv}
use Rattle.std.proofs.lemmas.Grind.{flat_map-append}
use Rattle.std.proofs.lemmas.List.{append-nil, map-append}
use Rattle.std.proofs.lemmas.List.Folds.{flat_map-map}
use Rattle.asm_domain.specs.declared.value.Value.TheVariants.{Undef, Elem}
use Rattle.asm_domain.specs.Universe.{Universe, Truths, Numbers, Named, names_of}
use Rattle.asm_sign.specs.declared.function.DeclaredDomain as sign
use Rattle.asm_sign.specs.Vocabulary.{Vocabulary}
use Rattle.asm_node.specs.Machine.{element_named, same_name}
use Rattle.asm_node.specs.Values.{is_undef}
use Rattle.asm_tree.specs.declared.term.RawName.{RawName}
use Rattle.asm_tree.specs.declared.term.RawBinder.{RawBinder}
use Rattle.asm_tree.specs.declared.unit.RawDeclaration.{RawDeclaration}
use Rattle.asm_tree.specs.declared.unit.RawDefinition.{RawDefinition}
use Rattle.asm_tree.specs.declared.unit.RawDefinition.TheVariants as definition
use Rattle.asm_tree.specs.declared.unit.RawFunction.{RawFunction}
use Rattle.asm_tree.specs.declared.unit.RawMain.{RawMain}
use Rattle.asm_tree.specs.declared.unit.RawUnit.{RawUnit}
use Rattle.asm_tree.specs.declared.unit.LoadedUnit.{LoadedUnit}
use Rattle.asm_faults.specs.declared.fault.Fault.{Fault}
use Rattle.asm_faults.specs.declared.fault.ModelFault.TheVariants.{Duplicate}
use Rattle.asm_faults.specs.At.{Name, fault_at}
use Rattle.asm_faults.specs.First.{noted}
use Rattle.asm_faults.specs.Files.{Of, to_list, numbered, all_of, named_of, definition_in, definitions, rule_in, DeclaredRule, main_in, rules, invariant_in, invariants, initials, names_in, names_in_declaration, names_in_definition, main_names, declared_names}
use Rattle.asm_faults.specs.DomainFaults.{is_listed, repeats}
use Rattle.asm_faults.specs.Terms.{function_named}
use Rattle.asm_faults.specs.Bodies.{RuleHead, head_of, heads_of, functions_faults, function_body_faults, parameter_faults, is_defined_by_term, has_initial, macro_faults, invariant_faults, body_faults}
use Rattle.asm_faults.proofs.Noting.{noted_append}
use Rattle.asm_typing.specs.declared.given.Given.{Given}
use Rattle.asm_typing.specs.declared.parts.Part.TheVariants.{Functions, Rules, Invariants}
use Rattle.asm_typing.specs.Given.{may_be}
use Rattle.asm_typing.specs.BodyPieces.{parameter_at_faults, functions_of, body_in, part_faults, over_definitions, head_in, main_heads, texts_of, main_texts, AreMet, given_name}
use Rattle.asm_typing.proofs.Lookups.{is_some-position}
use Rattle.asm_typing.proofs.Steps.{head_of as first_of, tail_of}
use Rattle.asm_typing.proofs.Walks.{map-flat_map, flat_map-flat_map, map-map, named_last}

-- ---- elements by their names

same_bytes : (xs ys : List ℕ) → same_name xs ys ≡ bytes_eq xs ys
same_bytes [] [] = refl
same_bytes [] (y ∷ ys) = refl
same_bytes (x ∷ xs) [] = refl
same_bytes (x ∷ xs) (y ∷ ys) = ap (λ (b : Truth). nat_eq x y && b) (same_bytes xs ys)

-- whether one of the names is this one
abbrev pub has_named : Option (List Name) → Name → Truth
has_named None name = false
has_named (Some names) name = list_any (λ (other : Name). bytes_eq other name) names

undef_at : (number : ℕ) (place : Option ℕ) → is_undef (unwrap_or (option_map (λ (rank : ℕ). Elem number rank) place) Undef) ≡ not (is_some place)
undef_at number None = refl
undef_at number (Some k) = refl

any_same : (name : Name) (names : List Name) → list_any (same_name name) names ≡ list_any (λ (other : Name). bytes_eq other name) names
any_same name names =
    let same : (other : Name) → same_name name other ≡ bytes_eq other name = λ other. same_bytes name other ∙ nat_list_eq_equiv.symm name other in
    λ j. list_any (λ (other : Name). same other j) names

pub lacks_is : (u : Universe) (name : Name) → is_undef (element_named name u) ≡ not (has_named (names_of u) name)
lacks_is Truths name = refl
lacks_is (Numbers numbers) name = refl
lacks_is (Named number names) name =
    undef_at number (position (same_name name) names) ∙ ap not (is_some-position (same_name name) names ∙ any_same name names)

-- ---- parameters

module _ (domains : List sign.DeclaredDomain) (n : ℕ) where
  parameter_first : (b : RawBinder) (bs : List RawBinder) (ds : List ℕ) → parameter_faults domains n (b ∷ bs) ds ≡ parameter_at_faults domains n b (slice_get ds 0) ++ parameter_faults domains n bs (drop 1 ds)
  parameter_first b [] [] = refl
  parameter_first b (c ∷ bs) [] = refl
  parameter_first b bs (d ∷ ds) = refl

  parameter_step : (bs : List RawBinder) (ds : List ℕ) (i : ℕ) (d : RawBinder) (first : Option Fault) → i < length bs
      → noted first (parameter_faults domains n (drop i bs) (drop i ds)) ≡ noted (noted first (parameter_at_faults domains n (get_or bs i d) (slice_get ds i))) (parameter_faults domains n (drop (i + 1) bs) (drop (i + 1) ds))
  parameter_step bs ds i d first h =
      rw (add-one, drop-cons bs i d)
      (ap (noted first) (parameter_first (get_or bs i d) (drop (suc i) bs) (drop i ds))
      ∙ ap (λ (p : Option ℕ). noted first (parameter_at_faults domains n (get_or bs i d) p ++ parameter_faults domains n (drop (suc i) bs) (drop 1 (drop i ds)))) (first_of ds i)
      ∙ ap (λ (rest : List ℕ). noted first (parameter_at_faults domains n (get_or bs i d) (slice_get ds i) ++ parameter_faults domains n (drop (suc i) bs) rest)) (tail_of ds i)
      ∙ noted_append first (parameter_at_faults domains n (get_or bs i d) (slice_get ds i)) (parameter_faults domains n (drop (suc i) bs) (drop (suc i) ds)))

  -- one more parameter, with the item as code has it
  pub parameter_next : (bs : List RawBinder) (ds : List ℕ) (i : ℕ) (x : RawBinder) (first : Option Fault) → i < length bs → x ≡ get_or bs i x
      → noted (noted first (parameter_at_faults domains n x (slice_get ds i))) (parameter_faults domains n (drop (i + 1) bs) (drop (i + 1) ds)) ≡ noted first (parameter_faults domains n (drop i bs) (drop i ds))
  parameter_next bs ds i x first h e =
      ap (λ (y : RawBinder). noted (noted first (parameter_at_faults domains n y (slice_get ds i))) (parameter_faults domains n (drop (i + 1) bs) (drop (i + 1) ds))) e ∙ sym (parameter_step bs ds i x first h)

  pub parameter_end : (bs : List RawBinder) (ds : List ℕ) (first : Option Fault) → bs ≡ [] → noted first (parameter_faults domains n bs ds) ≡ first
  parameter_end bs ds first e = ap (λ (cs : List RawBinder). noted first (parameter_faults domains n cs ds)) e ∙ ap (noted first) (by ds)
    where
      by : (ds : List ℕ) → parameter_faults domains n [] ds ≡ []
      by [] = refl
      by (d ∷ ds) = refl

-- ---- functions

pub noted_five : (first : Option Fault) (a b c d e : List Fault) → noted first (a ++ (b ++ (c ++ (d ++ e)))) ≡ noted (noted (noted (noted (noted first a) b) c) d) e
noted_five first a b c d e =
    noted_append first a (b ++ (c ++ (d ++ e)))
    ∙ noted_append (noted first a) b (c ++ (d ++ e))
    ∙ noted_append (noted (noted first a) b) c (d ++ e)
    ∙ noted_append (noted (noted (noted first a) b) c) d e

-- one part alone
pub one_part : {A : Type 0} (h : A → List Fault) (a : A) (first : Option Fault) → noted first (h a) ≡ noted first (flat_map h (a ∷ []))
one_part h a first = ap (noted first) (sym (append-nil (h a)))

pub functions_split : (v : Vocabulary) (given : Given) (n : ℕ) (fs : List RawFunction) (first : Option Fault)
    → noted first (functions_faults v (may_be given) (functions_of n fs)) ≡ noted (noted first (repeats [] (map (λ (f : RawFunction). (n, f.name)) fs))) (flat_map (body_in v given n) fs)
functions_split v given n fs first =
    let pair : RawFunction → Of RawFunction = λ f. (n, f) in
    let name : Of RawFunction → Of RawName = λ p. (p.0, p.1.name) in
    let body : Of RawFunction → List Fault = λ p. function_body_faults v (may_be given) p (function_named v p.1.name.text) in
    noted_append first (repeats [] (map name (functions_of n fs))) (flat_map body (functions_of n fs))
    ∙ (λ j. noted (noted first (repeats [] (map-map name pair fs j))) (flat_map-map body pair fs j))

-- ---- what all files give

spread : {A B : Type 0} (h : Of A → List B) (f : RawUnit → List A) (units : List LoadedUnit) → flat_map h (all_of f units) ≡ flat_map (λ (p : Of RawUnit). flat_map (λ (a : A). h (p.0, a)) (f p.1)) (numbered units)
spread {A} {B} h f units =
    let pairs : Of RawUnit → List (Of A) = λ p. map (λ (a : A). (p.0, a)) (f p.1) in
    let each : (p : Of RawUnit) → flat_map h (pairs p) ≡ flat_map (λ (a : A). h (p.0, a)) (f p.1) = λ p. flat_map-map h (λ (a : A). (p.0, a)) (f p.1) in
    flat_map-flat_map h pairs (numbered units) ∙ (λ j. flat_map (λ (p : Of RawUnit). each p j) (numbered units))

-- what definitions give that are picked out
pub over_picked : {A B : Type 0} (h : A → List B) (pick : Of RawDefinition → List A) (units : List LoadedUnit)
    → flat_map h (flat_map pick (all_of (λ u. u.definitions) units)) ≡ over_definitions (λ (d : Of RawDefinition). flat_map h (pick d)) units
over_picked {A} {B} h pick units =
    let all : List (Of RawDefinition) = all_of (λ u. u.definitions) units in
    flat_map-flat_map h pick all ∙ spread (λ (d : Of RawDefinition). flat_map h (pick d)) (λ u. u.definitions) units

pub over_declared : {A B : Type 0} (h : A → List B) (pick : Of RawDeclaration → List A) (units : List LoadedUnit)
    → flat_map h (flat_map pick (all_of (λ u. u.declarations) units)) ≡ flat_map (λ (p : Of RawUnit). flat_map (λ (d : RawDeclaration). flat_map h (pick (p.0, d))) p.1.declarations) (numbered units)
over_declared {A} {B} h pick units =
    let all : List (Of RawDeclaration) = all_of (λ u. u.declarations) units in
    flat_map-flat_map h pick all ∙ spread (λ (d : Of RawDeclaration). flat_map h (pick d)) (λ u. u.declarations) units

mapped : {A B : Type 0} (h : A → B) (pick : Of RawDefinition → List A) (units : List LoadedUnit)
    → map h (flat_map pick (all_of (λ u. u.definitions) units)) ≡ over_definitions (λ (d : Of RawDefinition). map h (pick d)) units
mapped {A} {B} h pick units =
    let all : List (Of RawDefinition) = all_of (λ u. u.definitions) units in
    map-flat_map h pick all ∙ spread (λ (d : Of RawDefinition). map h (pick d)) (λ u. u.definitions) units

pub given_names : (units : List LoadedUnit) → map (λ (p : Of RawFunction). (p.0, p.1.name)) (definitions units) ≡ over_definitions given_name units
given_names units = mapped (λ (p : Of RawFunction). (p.0, p.1.name)) definition_in units

-- ---- heads of rules

head_picked : (v : Vocabulary) (n : ℕ) (d : RawDefinition) → map (head_of v) (rule_in (n, d)) ≡ head_in v d
head_picked v n (definition.Range name low high) = refl
head_picked v n (definition.List name numbers) = refl
head_picked v n (definition.Function f) = refl
head_picked v n (definition.Rule r ps body) = refl
head_picked v n (definition.Invariant i) = refl

pub heads_are : (v : Vocabulary) (units : List LoadedUnit) → heads_of v units ≡ flat_map (λ (p : Of RawUnit). flat_map (head_in v) p.1.definitions) (numbered units) ++ main_heads units
heads_are v units =
    let own : List DeclaredRule = flat_map rule_in (all_of (λ u. u.definitions) units) in
    let mains : List (Of RawMain) = named_of (λ u. to_list u.main) units in
    map-append (head_of v) own (map main_in mains)
    ∙ (λ j. map (head_of v) own ++ map-map (head_of v) main_in mains j)
    ∙ ap (λ (hs : List RuleHead). hs ++ main_heads units) (mapped (head_of v) rule_in units ∙ (λ j. flat_map (λ (p : Of RawUnit). flat_map (λ (d : RawDefinition). head_picked v p.0 d j) p.1.definitions) (numbered units)))

-- ---- declared names

-- the names that a file declares
abbrev pub unit_texts : RawUnit → List Name
unit_texts u = flat_map (λ (d : RawDeclaration). texts_of (names_in_declaration d)) u.declarations ++ flat_map (λ (d : RawDefinition). texts_of (names_in_definition d)) u.definitions

unit_texts_are : (u : RawUnit) → texts_of (names_in u) ≡ unit_texts u
unit_texts_are u =
    let text : RawName → Name = λ x. x.text in
    map-append text (flat_map names_in_declaration u.declarations) (flat_map names_in_definition u.definitions)
    ∙ (λ j. map-flat_map text names_in_declaration u.declarations j ++ map-flat_map text names_in_definition u.definitions j)

pub texts_are : (units : List LoadedUnit) → map (λ (p : Of RawName). p.1.text) (declared_names units) ≡ flat_map (λ (p : Of RawUnit). unit_texts p.1) (numbered units) ++ main_texts units
texts_are units =
    let text : Of RawName → Name = λ p. p.1.text in
    let pairs : Of RawUnit → List (Of RawName) = λ p. map (λ (x : RawName). (p.0, x)) (names_in p.1) in
    let each : (p : Of RawUnit) → map text (pairs p) ≡ unit_texts p.1 = λ p. map-map text (λ (x : RawName). (p.0, x)) (names_in p.1) ∙ unit_texts_are p.1 in
    map-append text (all_of names_in units) (named_of main_names units)
    ∙ ap (λ (xs : List Name). xs ++ main_texts units) (map-flat_map text pairs (numbered units) ∙ (λ j. flat_map (λ (p : Of RawUnit). each p j) (numbered units)))

-- ---- names that are met

pub met_one : (first now : Option Fault) (earlier later : List Name) (n : ℕ) (name : RawName) → now ≡ noted first (if is_listed earlier name.text then fault_at Duplicate n name ∷ [] else []) → later ≡ earlier ++ name.text ∷ [] → AreMet first earlier ((n, name) ∷ []) now later
met_one first now earlier later n name a b =
    let faults : now ≡ noted first ((if is_listed earlier name.text then fault_at Duplicate n name ∷ [] else []) ++ []) = a ∙ ap (noted first) (sym (append-nil (if is_listed earlier name.text then fault_at Duplicate n name ∷ [] else []))) in
    λ j. record { first = faults j; names = b j }

-- ---- what the last file alone has

pub none_last : {A : Type 0} (f : RawUnit → List A) (units : List LoadedUnit) → units ≡ [] → named_of f units ≡ []
none_last f units e = ap (named_of f) e

-- the part of the last file, where the file has it or not
pub optional_last : {A B : Type 0} (pick : RawUnit → Option A) (f : A → List B) (units : List LoadedUnit) (i : ℕ) (u : LoadedUnit) (o : Option A) → i + 1 ≡ length units → u ≡ get_or units i u → pick (get_or units i u).unit ≡ o
    → named_of (λ (r : RawUnit). flat_map f (to_list (pick r))) units ≡ map (λ (b : B). (i, b)) (flat_map f (to_list o))
optional_last {A} {B} pick f units i u o end is e =
    named_last (λ (r : RawUnit). flat_map f (to_list (pick r))) units i u end is
    ∙ ap (λ (v : LoadedUnit). map (λ (b : B). (i, b)) (flat_map f (to_list (pick v.unit)))) is
    ∙ ap (λ (p : Option A). map (λ (b : B). (i, b)) (flat_map f (to_list p))) e

pub listed_last : {A : Type 0} (pick : RawUnit → Option A) (units : List LoadedUnit) (i : ℕ) (u : LoadedUnit) (o : Option A) → i + 1 ≡ length units → u ≡ get_or units i u → pick (get_or units i u).unit ≡ o
    → named_of (λ (r : RawUnit). to_list (pick r)) units ≡ map (λ (a : A). (i, a)) (to_list o)
listed_last {A} pick units i u o end is e =
    named_last (λ (r : RawUnit). to_list (pick r)) units i u end is
    ∙ ap (λ (v : LoadedUnit). map (λ (a : A). (i, a)) (to_list (pick v.unit))) is
    ∙ ap (λ (p : Option A). map (λ (a : A). (i, a)) (to_list p)) e

pub no_units : (units : List LoadedUnit) → length units ≡ 0 → units ≡ []
no_units [] e = refl
no_units (u ∷ us) e = absurd (cc (e))

-- ---- all bodies

-- what is wrong with the main rule
abbrev pub main_faults : Vocabulary → List RuleHead → List LoadedUnit → List Fault
main_faults v heads units = flat_map (macro_faults v heads) (map main_in (named_of (λ u. to_list u.main) units))

pub bodies_noted : (v : Vocabulary) (heads : List RuleHead) (names : List Name) (units : List LoadedUnit) (first seen functions own main stated last : Option Fault)
    → heads ≡ heads_of v units → names ≡ map (λ (p : Of RawName). p.1.text) (declared_names units)
    → seen ≡ noted first (repeats [] (over_definitions given_name units))
    → functions ≡ noted seen (over_definitions (part_faults Functions v heads names) units)
    → own ≡ noted functions (over_definitions (part_faults Rules v heads names) units)
    → main ≡ noted own (main_faults v heads units)
    → stated ≡ noted main (over_definitions (part_faults Invariants v heads names) units)
    → last ≡ noted stated (functions_faults v has_initial (initials units))
    → last ≡ noted first (body_faults v units)
bodies_noted v heads names units first seen functions own main stated last hs ns a b c d e f =
    let known : List RuleHead = heads_of v units in
    let declared : List Name = map (λ (p : Of RawName). p.1.text) (declared_names units) in
    let name : Of RawFunction → Of RawName = λ p. (p.0, p.1.name) in
    let body : Of RawFunction → List Fault = λ p. function_body_faults v is_defined_by_term p (function_named v p.1.name.text) in
    let fs : List Fault = repeats [] (map name (definitions units)) in
    let gs : List Fault = flat_map body (definitions units) in
    let own_rules : List DeclaredRule = flat_map rule_in (all_of (λ u. u.definitions) units) in
    let main_rules : List DeclaredRule = map main_in (named_of (λ u. to_list u.main) units) in
    let rs : List Fault = flat_map (macro_faults v known) own_rules in
    let ms : List Fault = flat_map (macro_faults v known) main_rules in
    let is : List Fault = flat_map (invariant_faults v declared) (invariants units) in
    let ts : List Fault = functions_faults v has_initial (initials units) in
    let one : seen ≡ noted first fs = a ∙ ap (λ (xs : List (Of RawName)). noted first (repeats [] xs)) (sym (given_names units)) in
    let two : functions ≡ noted seen gs = b ∙ ap (noted seen) (sym (over_picked body definition_in units)) in
    let three : own ≡ noted functions rs = c ∙ ap (λ (h : List RuleHead). noted functions (over_definitions (part_faults Rules v h names) units)) hs ∙ ap (noted functions) (sym (over_picked (macro_faults v known) rule_in units)) in
    let four : main ≡ noted own ms = d ∙ ap (λ (h : List RuleHead). noted own (main_faults v h units)) hs in
    let five : stated ≡ noted main is = e ∙ ap (λ (n : List Name). noted main (over_definitions (part_faults Invariants v heads n) units)) ns ∙ ap (noted main) (sym (over_picked (invariant_faults v declared) invariant_in units)) in
    let definitions_noted : functions ≡ noted first (fs ++ gs) = two ∙ ap (λ (x : Option Fault). noted x gs) one ∙ sym (noted_append first fs gs) in
    let rules_noted : main ≡ noted functions (flat_map (macro_faults v known) (rules units)) =
    four ∙ ap (λ (x : Option Fault). noted x ms) three ∙ sym (noted_append functions rs ms) ∙ ap (noted functions) (sym (flat_map-append (macro_faults v known) own_rules main_rules)) in
    let all_rules : List Fault = flat_map (macro_faults v known) (rules units) in
    f
    ∙ ap (λ (x : Option Fault). noted x ts) (five ∙ ap (λ (x : Option Fault). noted x is) (rules_noted ∙ ap (λ (x : Option Fault). noted x all_rules) definitions_noted))
    ∙ sym (noted_append (noted (noted first (fs ++ gs)) all_rules) is ts)
    ∙ sym (noted_append (noted first (fs ++ gs)) all_rules (is ++ ts))
    ∙ sym (noted_append first (fs ++ gs) (all_rules ++ (is ++ ts)))
