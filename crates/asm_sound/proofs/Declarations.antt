-- The domains of files in which nothing is wrong have elements, and those of an abstract domain are its constants.
use Rattle.std.proofs.Common.{◌≡◌, ℕ, suc, zero, ◌+◌, ◌<◌, ◌≤◌, Bool as Truth, true, false, true≢false, ◌||◌, ◌&&◌, cond, List, [], ◌∷◌, ◌++◌, length, Option, Some, None, nat_eq, nat_lt, get_or, if◌then◌else◌, slice_get, ℤ, pos, ◌+ℤ◌, ◌-ℤ◌, refl, sym, ap, subst, ◌∙◌, arith}
use Rattle.std.specs.Prelude.{map, bytes_eq}
use Rattle.std.specs.List.{flat_map, filter, list_any, enumerate_from, position}
use Rattle.std.specs.Option.{option_map, unwrap_or}
use Rattle.std.proofs.lemmas.Bool.{ltb-false, eqb-true as same_number, eq-eqb as number_same}
use Rattle.std.proofs.lemmas.Bool.Decides.{nat_tests}
use Rattle.std.proofs.lemmas.Iterator.Adapters.{position_from-zero}
use Rattle.std.proofs.lemmas.List.Quantifiers.{position-Some}
use Rattle.std.proofs.lemmas.Option.{slice_get-map, slice_get-get_or, slice_get_within}
use Rattle.std.proofs.lemmas.Slice.Eq.{bytes_eq-Decides}
use Rattle.asm_domain.specs.Universe.{Universe, Truths, Numbers, Named, elements, above_zero, AreDistinct, MakeDomain}
use Rattle.asm_domain.proofs.Elements.{numbers_make, names_make, truths_make, upwards_distinct}
use Rattle.asm_sign.specs.declared.function.DeclaredDomain as sign
use Rattle.asm_sign.specs.declared.function.Function.{Function}
use Rattle.asm_node.specs.Declarations as told
use Rattle.asm_node.specs.Declarations.{AreDeclarations}
use Rattle.asm_node.specs.Values.{whole}
use Rattle.asm_tree.specs.declared.term.RawName.{RawName}
use Rattle.asm_tree.specs.declared.unit.RawFunctionKind.{RawFunctionKind}
use Rattle.asm_tree.specs.declared.unit.RawFunctionKind.TheVariants as function_kind
use Rattle.asm_tree.specs.declared.unit.LoadedUnit.{LoadedUnit}
use Rattle.asm_faults.specs.declared.fault.Fault.{Fault}
use Rattle.asm_faults.specs.declared.fault.ModelFault.TheVariants.{EmptyDomain, DomainTooLarge, NoDefinition, WrongKind}
use Rattle.asm_faults.specs.At.{Name, fault_at}
use Rattle.asm_faults.specs.DomainFaults.{DomainDefinition, Numerals, Range, Listing, boolean, integer, is_constant_of, is_listed, name_faults, domain_definitions, definition_of_domain, numbers_of, constants_of, count_in, size_faults, part_faults, declaration_faults, target_faults, numeral_faults, number_repeats, definition_repeats, domain_faults}
use Rattle.asm_faults.specs.Files.{DomainForm, Enumerated, Part, Abstract, DeclaredDomain, domain_in, domains, has_name, DeclaredFunction, functions, declared_names}
use Rattle.asm_faults.specs.FunctionFaults.{domain_number, is_domain_named, declared_domain, domains_of, function_of, kind_of, number_or_whole, signature_of, truth_values}
use Rattle.asm_sound.proofs.Among.{items_among, place_among}
use Rattle.asm_sound.proofs.Declared.{apart, chosen_distinct, domain_name, domains_distinct, elements_distinct, enumerated_at, functions_distinct, listed_distinct, own_domain}
use Rattle.asm_sound.proofs.Definitions.{not_listed}
use Rattle.asm_sound.proofs.Heads.{none_at, find_place, some_is}
use Rattle.asm_sound.proofs.Scopes.{full, none_left, none_right, fails, both_ways}
use Rattle.asm_sound.proofs.Signature.{declared_at, only_place, signature_numbered, universe_by}
use Rattle.asm_sound.proofs.TypedTerms.{no_some}

-- ---- lists

-- an item that passes a test
record Passing {A : Type 0} (test : A → Truth) (xs : List A) : Type 0 where
  place : ℕ
  item : A
  is_item : slice_get xs place ≡ Some item
  passes : test item ≡ true

passing : {A : Type 0} (test : A → Truth) (xs : List A) → list_any test xs ≡ true → Passing test xs
passing test [] e = absurd (true≢false (sym e))
passing {A} test (x ∷ xs) e = by (test x) refl e (λ f. passing test xs f)
  where
    by : (b : Truth) → test x ≡ b → (b || list_any test xs) ≡ true → (list_any test xs ≡ true → Passing test xs) → Passing test (x ∷ xs)
    by true is e later = record { place = 0; item = x; is_item = refl; passes = is }
    by false is e later = (let p = later e in record { place = suc p.place; item = p.item; is_item = p.is_item; passes = p.passes })

get-enumerate : {A : Type 0} (n : ℕ) (xs : List A) (k : ℕ) → slice_get (enumerate_from n xs) k ≡ option_map (λ (x : A). (n + k, x)) (slice_get xs k)
get-enumerate n [] k = refl
get-enumerate {A} n (x ∷ xs) zero = ap (λ (m : ℕ). Some (m, x)) (omega arith)
get-enumerate {A} n (x ∷ xs) (suc k) = get-enumerate (n + 1) xs k ∙ ap (λ (m : ℕ). option_map (λ (y : A). (m, y)) (slice_get xs k)) (omega arith)

-- ---- sizes

sized_by : (count : ℕ) (x y : Fault) → (if nat_eq count 0 then x ∷ [] else (if nat_lt 256 count then y ∷ [] else [])) ≡ [] → (0 < count) × (count ≤ 256)
sized_by count x y none = by (nat_eq count 0) refl none
  where
    by : (b : Truth) → nat_eq count 0 ≡ b → (if b then x ∷ [] else (if nat_lt 256 count then y ∷ [] else [])) ≡ [] → (0 < count) × (count ≤ 256)
    by true e none = absurd (full x [] none)
    by false e none = (grind (arith, nat_tests, e), ltb-false 256 count (fails (nat_lt 256 count) y none))

abbrev numeral_by : ℕ → Numerals → List Fault
numeral_by n (Range low high) = []
numeral_by n (Listing xs) = number_repeats n [] xs

numerals_distinct : (x : DomainDefinition) → numeral_faults x ≡ [] → AreDistinct (numbers_of x.numerals)
numerals_distinct x none = of x.numerals none
  where
    of : (numerals : Numerals) → numeral_by x.unit numerals ≡ [] → AreDistinct (numbers_of numerals)
    of (Range low high) none = upwards_distinct low.value (above_zero (high.value +ℤ pos 1 -ℤ low.value))
    of (Listing xs) none = listed_distinct x.unit xs none

-- ---- the declared domain of a place

domain_at : (units : List LoadedUnit) (k : ℕ) (d : sign.DeclaredDomain) → slice_get (domains_of units) (suc k) ≡ Some d → (e : DeclaredDomain) × (slice_get (domains units) k ≡ Some e) × (declared_domain units (suc k, e) ≡ d)
domain_at units k d is =
    by (slice_get (domains units) k) refl
    (sym (slice_get-map (declared_domain units) (enumerate_from 1 (domains units)) k ∙ ap (option_map (declared_domain units)) (get-enumerate 1 (domains units) k)) ∙ is)
  where
    by : (o : Option DeclaredDomain) → slice_get (domains units) k ≡ o → option_map (declared_domain units) (option_map (λ (x : DeclaredDomain). (1 + k, x)) o) ≡ Some d → (e : DeclaredDomain) × (slice_get (domains units) k ≡ Some e) × (declared_domain units (suc k, e) ≡ d)
    by None at e = absurd (no_some d e)
    by (Some x) at e = (let place : suc k ≡ 1 + k = omega arith in (x, at, ap (λ (n : ℕ). declared_domain units (n, x)) place ∙ some_is (declared_domain units (1 + k, x)) d e))

abbrev names_of : Universe → List Name
names_of Truths = []
names_of (Numbers numbers) = []
names_of (Named number names) = names

module _ (units : List LoadedUnit) (named : name_faults units ≡ []) (none : domain_faults units ≡ []) where
  abbrev in_domains : List Fault
  in_domains = flat_map (declaration_faults units) (domains units)

  abbrev in_definitions : List Fault
  in_definitions = flat_map (λ (d : DomainDefinition). target_faults units d ++ numeral_faults d) (domain_definitions units)

  others_none : in_domains ++ in_definitions ≡ []
  others_none = none_right (definition_repeats (domain_definitions units)) (in_domains ++ in_definitions) none

  domain_fine : (k : ℕ) (d : DeclaredDomain) → slice_get (domains units) k ≡ Some d → declaration_faults units d ≡ []
  domain_fine k d at = none_at (declaration_faults units) (domains units) k d (none_left in_domains in_definitions others_none) at

  numerals_fine : (k : ℕ) (x : DomainDefinition) → slice_get (domain_definitions units) k ≡ Some x → numeral_faults x ≡ []
  numerals_fine k x at =
      none_right (target_faults units x) (numeral_faults x)
      (none_at (λ (d : DomainDefinition). target_faults units d ++ numeral_faults d) (domain_definitions units) k x (none_right in_domains in_definitions others_none) at)

  -- what is wrong with a declared domain, by its form
  abbrev faults_by : DeclaredDomain → DomainForm → List Fault
  faults_by d (Enumerated es) = size_faults units d
  faults_by d (Part base) = (if has_name integer base then [] else fault_at WrongKind d.unit base ∷ []) ++ part_faults units d (definition_of_domain units d.name.text)
  faults_by d Abstract = size_faults units d

  abbrev size_by : DeclaredDomain → DomainForm → List Fault
  size_by d form =
      if nat_eq (count_in (universe_by units 0 d form)) 0 then fault_at EmptyDomain d.unit d.name ∷ []
      else (if nat_lt 256 (count_in (universe_by units 0 d form)) then fault_at DomainTooLarge d.unit d.name ∷ [] else [])

  abbrev sized : (d : DeclaredDomain) (form : DomainForm) → size_by d form ≡ [] → (0 < count_in (universe_by units 0 d form)) × (count_in (universe_by units 0 d form) ≤ 256)
  sized d form fine = sized_by (count_in (universe_by units 0 d form)) (fault_at EmptyDomain d.unit d.name) (fault_at DomainTooLarge d.unit d.name) fine

  makes : (k n : ℕ) (d : DeclaredDomain) → slice_get (domains units) k ≡ Some d → MakeDomain (elements (universe_by units n d d.form))
  makes k n d at = by d.form refl (domain_fine k d at)
    where
      by : (form : DomainForm) → d.form ≡ form → faults_by d form ≡ [] → MakeDomain (elements (universe_by units n d form))
      by (Enumerated es) is fine =
          (let sizes = sized d (Enumerated es) (subst (λ (f : DomainForm). size_by d f ≡ []) is fine) in
          names_make n (map (λ (e : RawName). e.text) es) (record { some = sizes.0; few = sizes.1; distinct = elements_distinct units named es (enumerated_at units k d es at is) }))
      by (Part base) is fine =
          of_definition (definition_of_domain units d.name.text) refl
          (none_right (if has_name integer base then [] else fault_at WrongKind d.unit base ∷ []) (part_faults units d (definition_of_domain units d.name.text)) fine)
        where
          of_definition : (o : Option DomainDefinition) → definition_of_domain units d.name.text ≡ o → part_faults units d o ≡ [] → MakeDomain (elements (universe_by units n d (Part base)))
          of_definition None e wrong = absurd (full (fault_at NoDefinition d.unit d.name) [] wrong)
          of_definition (Some x) e fine =
              (let numbers : List ℤ = unwrap_or (option_map (λ (x : DomainDefinition). numbers_of x.numerals) (definition_of_domain units d.name.text)) [] in
              let sizes = sized d (Part base) (subst (λ (f : DomainForm). size_by d f ≡ []) is fine) in
              let place = find_place (λ (x : DomainDefinition). has_name d.name.text x.name) (domain_definitions units) x e in
              let same : numbers_of x.numerals ≡ numbers = ap (λ (o : Option DomainDefinition). unwrap_or (option_map (λ (x : DomainDefinition). numbers_of x.numerals) o) []) (sym e) in
              numbers_make numbers (record { some = sizes.0; few = sizes.1; distinct = subst AreDistinct same (numerals_distinct x (numerals_fine place.0 x place.2)) }))
      by Abstract is fine =
          (let sizes = sized d Abstract (subst (λ (f : DomainForm). size_by d f ≡ []) is fine) in
          names_make n (constants_of units d.name.text) (record { some = sizes.0; few = sizes.1; distinct = chosen_distinct units named (is_constant_of d.name.text) }))

  domains_make : (k : ℕ) (d : sign.DeclaredDomain) → slice_get (domains_of units) k ≡ Some d → MakeDomain (elements d.domain)
  domains_make zero d at = subst (λ (x : sign.DeclaredDomain). MakeDomain (elements x.domain)) (some_is truth_values d at) truths_make
  domains_make (suc k) d at = (let e = domain_at units k d at in subst (λ (x : sign.DeclaredDomain). MakeDomain (elements x.domain)) e.2 (makes k (suc k) e.0 e.1))

  -- ---- constants

  module _ (few : length (domains_of units) ≤ whole) (k : ℕ) (e : DeclaredDomain) (at : slice_get (domains units) k ≡ Some e) where
    abbrev all : List sign.DeclaredDomain
    all = domains_of units

    abbrev own : sign.DeclaredDomain
    own = declared_domain units (suc k, e)

    own_at : slice_get all (suc k) ≡ Some own
    own_at =
        (let place : 1 + k ≡ suc k = omega arith in
        slice_get-map (declared_domain units) (enumerate_from 1 (domains units)) k
        ∙ ap (option_map (declared_domain units)) (get-enumerate 1 (domains units) k)
        ∙ ap (λ (o : Option DeclaredDomain). option_map (declared_domain units) (option_map (λ (x : DeclaredDomain). (1 + k, x)) o)) at
        ∙ ap (λ (n : ℕ). Some (declared_domain units (n, e))) place)

    within_whole : suc k < whole
    within_whole = (let lt = slice_get_within all (suc k) own own_at in omega (arith, lt, few))

    -- no declared domain has the name of one that is always there
    undeclared : (text : Name) → is_listed (boolean ∷ integer ∷ []) text ≡ true → e.name.text ≡ text → ⊥
    undeclared text listed same =
        let there = place_among (items_among domain_in domain_name own_domain units) k (e.unit, e.name) (slice_get-map domain_name (domains units) k ∙ ap (option_map domain_name) at) in
        not_listed (boolean ∷ integer ∷ []) (declared_names units) named there.0 (e.unit, e.name) there.1 (ap (is_listed (boolean ∷ integer ∷ [])) same ∙ listed)

    abbrev named_by : Name → Option Name → Truth
    named_by text None = false
    named_by text (Some name) = bytes_eq name text

    name_is : (text : Name) (o : Option Name) → named_by text o ≡ true → o ≡ Some text
    name_is text None e = absurd (true≢false (sym e))
    name_is text (Some name) e = ap (λ (t : Name). Some t) ((bytes_eq-Decides name text).0 e)

    one : (j : ℕ) (d : sign.DeclaredDomain) → slice_get all j ≡ Some d → is_domain_named e.name.text d ≡ true → j ≡ suc k
    one j d at_j passes =
        (domains_distinct units named).one_place j (suc k) (Some e.name.text)
        (slice_get-map (λ (x : sign.DeclaredDomain). x.name) all j ∙ ap (option_map (λ (x : sign.DeclaredDomain). x.name)) at_j ∙ ap (λ (o : Option Name). Some o) (name_is e.name.text d.name passes))
        (slice_get-map (λ (x : sign.DeclaredDomain). x.name) all (suc k) ∙ ap (option_map (λ (x : sign.DeclaredDomain). x.name)) own_at)

    number_is : domain_number all e.name.text ≡ Some (suc k)
    number_is = by (bytes_eq e.name.text boolean) refl (bytes_eq e.name.text integer) refl
      where
        test : sign.DeclaredDomain → Truth
        test d = is_domain_named e.name.text d

        by : (b : Truth) → bytes_eq e.name.text boolean ≡ b → (c : Truth) → bytes_eq e.name.text integer ≡ c → (if b then Some 0 else (if c then Some whole else position (is_domain_named e.name.text) all)) ≡ Some (suc k)
        by true is c is_c = absurd (undeclared boolean refl ((bytes_eq-Decides e.name.text boolean).0 is))
        by false is true is_c = absurd (undeclared integer refl ((bytes_eq-Decides e.name.text integer).0 is_c))
        by false is false is_c =
            position_from-zero (is_domain_named e.name.text) all
            ∙ only_place (is_domain_named e.name.text) 0 all (suc k) own own_at ((bytes_eq-Decides e.name.text e.name.text).1 refl) one
            ∙ ap (λ (z : ℕ). Some z) (omega arith)

    numbered_so : (c : RawName) → has_name e.name.text c ≡ true → nat_eq (number_or_whole all c) (suc k) ≡ true
    numbered_so c is =
        let same : c.text ≡ e.name.text = (bytes_eq-Decides c.text e.name.text).0 is in
        number_same (number_or_whole all c) (suc k) (ap (λ (t : Name). unwrap_or (domain_number all t) whole) same ∙ ap (λ (o : Option ℕ). unwrap_or o whole) number_is)

    named_so : (c : RawName) → nat_eq (number_or_whole all c) (suc k) ≡ true → has_name e.name.text c ≡ true
    named_so c is = by (bytes_eq c.text boolean) (bytes_eq c.text integer) (same_number (number_or_whole all c) (suc k) is)
      where
        of_place : (o : Option ℕ) → position (is_domain_named c.text) all ≡ o → unwrap_or o whole ≡ suc k → has_name e.name.text c ≡ true
        of_place None e same = absurd (let lt = within_whole in omega (arith, same, lt))
        of_place (Some j) is same =
            (let found = position-Some (is_domain_named c.text) all (suc k) own (is ∙ ap (λ (z : ℕ). Some z) same) in
            let item = some_is (get_or all (suc k) own) own (sym (slice_get-get_or all (suc k) own found.0) ∙ own_at) in
            let text : e.name.text ≡ c.text = (bytes_eq-Decides e.name.text c.text).0 (ap (is_domain_named c.text) (sym item) ∙ found.1) in
            (bytes_eq-Decides c.text e.name.text).1 (sym text))

        by : (b d : Truth) → unwrap_or (if b then Some 0 else (if d then Some whole else position (is_domain_named c.text) all)) whole ≡ suc k → has_name e.name.text c ≡ true
        by true d same = absurd (omega (arith, same))
        by false true same = absurd (let lt = within_whole in omega (arith, same, lt))
        by false false same = of_place (position (is_domain_named c.text) all) refl same

    codomain_same : (c : RawName) → has_name e.name.text c ≡ nat_eq (number_or_whole all c) (suc k)
    codomain_same c = both_ways (has_name e.name.text c) (nat_eq (number_or_whole all c) (suc k)) (numbered_so c) (named_so c)

    abbrev constant_by : RawFunctionKind → List RawName → Truth
    constant_by function_kind.Static [] = true
    constant_by _ _ = false

    kind_same : (kind : RawFunctionKind) (ds : List RawName) (a b : Truth) → a ≡ b → (constant_by kind ds && a) ≡ (told.is_constant (kind_of kind) (map (number_or_whole all) ds) && b)
    kind_same function_kind.Static [] a b same = same
    kind_same function_kind.Static (d ∷ ds) a b same = refl
    kind_same function_kind.Derived ds a b same = refl
    kind_same function_kind.Controlled ds a b same = refl
    kind_same function_kind.Monitored ds a b same = refl
    kind_same function_kind.Shared ds a b same = refl
    kind_same function_kind.Out ds a b same = refl

    test_same : (f : DeclaredFunction) → is_constant_of e.name.text f ≡ told.is_constant_of (suc k) (function_of all f)
    test_same f = kind_same f.kind f.domains (has_name e.name.text f.codomain) (nat_eq (number_or_whole all f.codomain) (suc k)) (codomain_same f.codomain)

    constants_from : (fs : List DeclaredFunction) → map (λ (f : DeclaredFunction). f.name.text) (filter (is_constant_of e.name.text) fs) ≡ map (λ (g : Function). g.name) (filter (told.is_constant_of (suc k)) (map (function_of all) fs))
    constants_from [] = refl
    constants_from (f ∷ fs) = by (is_constant_of e.name.text f) (told.is_constant_of (suc k) (function_of all f)) (test_same f) (constants_from fs)
      where
        by : (b c : Truth) → b ≡ c → map (λ (f : DeclaredFunction). f.name.text) (filter (is_constant_of e.name.text) fs) ≡ map (λ (g : Function). g.name) (filter (told.is_constant_of (suc k)) (map (function_of all) fs))
            → map (λ (f : DeclaredFunction). f.name.text) (cond b (f ∷ filter (is_constant_of e.name.text) fs) (filter (is_constant_of e.name.text) fs))
            ≡ map (λ (g : Function). g.name) (cond c (function_of all f ∷ filter (told.is_constant_of (suc k)) (map (function_of all) fs)) (filter (told.is_constant_of (suc k)) (map (function_of all) fs)))
        by true true same rest = ap (λ (names : List Name). f.name.text ∷ names) rest
        by true false same rest = absurd (true≢false same)
        by false true same rest = absurd (true≢false (sym same))
        by false false same rest = rest

    constants_same : constants_of units e.name.text ≡ told.constants_of (signature_of units) (suc k)
    constants_same = constants_from (functions units)

    -- no function has the name of an enumeration's element
    not_abstract : (es : List RawName) → e.form ≡ Enumerated es → told.is_abstract (signature_of units) (map (λ (x : RawName). x.text) es) ≡ true → ⊥
    not_abstract es form is =
        let p = passing (λ (f : Function). list_any (bytes_eq f.name) (map (λ (x : RawName). x.text) es)) (signature_of units).functions is in
        let q = passing (bytes_eq p.item.name) (map (λ (x : RawName). x.text) es) p.passes in
        let f = declared_at units p.place p.item p.is_item in
        of p.item f.0 p.place q.place q.item f.1 f.2 ((bytes_eq-Decides p.item.name q.item).0 q.passes) (slice_get es q.place) refl (sym (slice_get-map (λ (x : RawName). x.text) es q.place) ∙ q.is_item)
      where
        of : (g : Function) (f : DeclaredFunction) (i j : ℕ) (t : Name) → slice_get (functions units) i ≡ Some f → function_of all f ≡ g → g.name ≡ t → (o : Option RawName) → slice_get es j ≡ o → option_map (λ (x : RawName). x.text) o ≡ Some t → ⊥
        of g f i j t at_f made same None at_j is = no_some t is
        of g f i j t at_f made same (Some x) at_j is =
            apart units named es (enumerated_at units k e es at form) j i x f at_j at_f (ap (λ (z : Function). z.name) made ∙ same ∙ sym (some_is x.text t is))

    abstract_constants : (number : ℕ) (names : List Name) → universe_by units (suc k) e e.form ≡ Named number names → told.is_abstract (signature_of units) names ≡ true → names ≡ told.constants_of (signature_of units) (suc k)
    abstract_constants number names made is = by e.form refl made
      where
        by : (form : DomainForm) → e.form ≡ form → universe_by units (suc k) e form ≡ Named number names → names ≡ told.constants_of (signature_of units) (suc k)
        by (Enumerated es) form made = absurd (not_abstract es form (ap (told.is_abstract (signature_of units)) (ap names_of made) ∙ is))
        by (Part base) form made = absurd (cc made)
        by Abstract form made = sym (ap names_of made) ∙ constants_same

  constants_at : length (domains_of units) ≤ whole → (k number : ℕ) (names : List Name) (d : sign.DeclaredDomain) → slice_get (domains_of units) k ≡ Some d → d.domain ≡ Named number names → told.is_abstract (signature_of units) names ≡ true → names ≡ told.constants_of (signature_of units) k
  constants_at few zero number names d at made is =
      (let other : Truths ≡ Named number names = ap (λ (z : sign.DeclaredDomain). z.domain) (some_is truth_values d at) ∙ made in
      absurd (cc other))
  constants_at few (suc k) number names d at made is =
      (let e = domain_at units k d at in
      abstract_constants few k e.0 e.1 number names (ap (λ (z : sign.DeclaredDomain). z.domain) e.2 ∙ made) is)

  truths_once : (k : ℕ) (d : sign.DeclaredDomain) → slice_get (domains_of units) k ≡ Some d → d.domain ≡ Truths → k ≡ 0
  truths_once zero d at made = refl
  truths_once (suc k) d at made = (let e = domain_at units k d at in absurd (never (suc k) e.0 e.0.form (ap (λ (z : sign.DeclaredDomain). z.domain) e.2 ∙ made)))
    where
      never : (n : ℕ) (d : DeclaredDomain) (form : DomainForm) → universe_by units n d form ≡ Truths → ⊥
      never n d (Enumerated es) made = cc made
      never n d (Part base) made = cc made
      never n d Abstract made = cc made

  -- where nothing is wrong with names and domains, the domains and functions are as a model keeps them
  pub signature_declarations : length (domains_of units) ≤ whole → AreDeclarations (signature_of units)
  signature_declarations few = record {
    truths = truth_values;
    are_first = refl;
    are_truths = refl;
    once = truths_once;
    numbered = signature_numbered units;
    have_elements = domains_make;
    domain_names = domains_distinct units named;
    function_names = functions_distinct units named;
    constants = constants_at few;
  }
