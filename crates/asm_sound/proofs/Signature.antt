-- The signature of a model in whose names, domains and functions nothing is wrong.
use Rattle.std.proofs.Common.{◌≡◌, ℕ, suc, zero, ◌+◌, ◌<◌, ◌≤◌, All, Bool as Truth, true, false, true≢false, not, ◌&&◌, ◌||◌, cond, List, [], ◌∷◌, ◌++◌, length, Option, Some, None, nat_lt, if◌then◌else◌, slice_get, refl, sym, ap, subst, ◌∙◌, arith}
use Rattle.std.specs.Prelude.{map, bytes_eq}
use Rattle.std.specs.List.{flat_map, find, position, position_from, list_any, enumerate_from}
use Rattle.std.specs.Option.{option_map, unwrap_or}
use Rattle.std.proofs.Math.ListN.{length-map}
use Rattle.std.proofs.lemmas.Bool.{ltb-false}
use Rattle.std.proofs.lemmas.List.Quantifiers.{position-Some}
use Rattle.asm_domain.specs.Universe.{Universe, Truths, Numbers, Named}
use Rattle.std.proofs.lemmas.Iterator.Adapters.{position_from-zero}
use Rattle.std.proofs.lemmas.Option.{slice_get-map}
use Rattle.std.proofs.lemmas.Slice.Eq.{bytes_eq-Decides}
use Rattle.asm_sign.specs.declared.function.DeclaredDomain as sign
use Rattle.asm_sign.specs.declared.function.Function.{Function}
use Rattle.asm_sign.specs.Kind.{is_dynamic}
use Rattle.asm_sign.specs.Vocabulary.{AreNumbered, IsDeclared}
use Rattle.asm_node.specs.Values.{whole, is_undef}
use Rattle.asm_node.specs.WellFormed.{IsDefined}
use Rattle.asm_tree.specs.declared.term.RawName.{RawName}
use Rattle.asm_tree.specs.declared.unit.RawDeclaration.{RawDeclaration}
use Rattle.asm_tree.specs.declared.unit.RawDeclaration.TheVariants as declaration
use Rattle.asm_tree.specs.declared.unit.RawFunction.{RawFunction}
use Rattle.asm_tree.specs.declared.unit.LoadedUnit.{LoadedUnit}
use Rattle.asm_faults.specs.declared.fault.Fault.{Fault}
use Rattle.asm_faults.specs.declared.fault.ModelFault.TheVariants.{Unknown, NoDefinition, WrongArity, DomainTooLarge}
use Rattle.asm_faults.specs.At.{Name, fault_at}
use Rattle.asm_faults.specs.DomainFaults.{DomainDefinition, numbers_of, definition_of_domain, constants_of, boolean, integer, is_listed, name_faults}
use Rattle.asm_faults.specs.Files.{domains as declared_domains, DomainForm, Enumerated, Part, Abstract, DeclaredDomain, Of, has_name, DeclaredFunction, function_in, functions, definitions, names_in_declaration, declared_names}
use Rattle.asm_faults.specs.FunctionFaults.{domain_number, is_domain_named, declared_domain, number_or_whole, domains_of, function_of, signature_of, truth_values, unknown_domain, infinite_domain, own_faults, location_faults, function_faults, kind_of}
use Rattle.asm_faults.specs.Bodies.{is_defined_by_term}
use Rattle.asm_faults.specs.Missing.{defined_names, undefined}
use Rattle.asm_faults.specs.Calls.{definition_named}
use Rattle.asm_faults.specs.Model.{definition_of}
use Rattle.asm_sound.proofs.Among.{Among, Empty, With, among_none, fresh_among, items_among, of_unit}
use Rattle.asm_sound.proofs.Inductions.{Every}
use Rattle.asm_sound.proofs.Scopes.{full, none_left, none_right, fails, HasTruths, typed_domain}
use Rattle.asm_sound.proofs.TypedTerms.{Typed, IsReady, no_some}
use Rattle.asm_sound.proofs.Heads.{none_at, all_found, some_is}
use Rattle.asm_sound.proofs.Chains.{Placed, IsKnownBody, machine, definition_at}

-- ---- domains have their places as numbers

abbrev pub universe_by : List LoadedUnit → ℕ → DeclaredDomain → DomainForm → Universe
universe_by units number d (Enumerated es) = Named number (map (λ (e : RawName). e.text) es)
universe_by units number d (Part base) = Numbers (unwrap_or (option_map (λ (x : DomainDefinition). numbers_of x.numerals) (definition_of_domain units d.name.text)) [])
universe_by units number d Abstract = Named number (constants_of units d.name.text)

number_by : (units : List LoadedUnit) (i : ℕ) (d : DeclaredDomain) (form : DomainForm) (number : ℕ) (names : List Name) → universe_by units i d form ≡ Named number names → number ≡ i
number_by units i d (Enumerated es) number names e = cc e
number_by units i d (Part base) number names e = absurd (cc e)
number_by units i d Abstract number names e = cc e

enumerated_at : {A : Type 0} (n : ℕ) (xs : List A) (k : ℕ) (p : ℕ × A) → slice_get (enumerate_from n xs) k ≡ Some p → p.0 ≡ n + k
enumerated_at n [] k p is = absurd (no_some p is)
enumerated_at {A} n (x ∷ xs) zero p is = ap (λ (z : ℕ × A). z.0) (sym (some_is (n, x) p is)) ∙ omega arith
enumerated_at n (x ∷ xs) (suc k) p is = omega (arith, enumerated_at (n + 1) xs k p is)

-- each enumeration and abstract domain of files has its place as its number
pub signature_numbered : (units : List LoadedUnit) → AreNumbered (domains_of units)
signature_numbered units = record { number_is = number_at }
  where
    items : List (ℕ × DeclaredDomain)
    items = enumerate_from 1 (declared_domains units)

    by : (k number : ℕ) (names : List Name) (d : sign.DeclaredDomain) (o : Option (ℕ × DeclaredDomain)) → slice_get items k ≡ o → option_map (declared_domain units) o ≡ Some d → d.domain ≡ Named number names → number ≡ suc k
    by k number names d None at is named = absurd (no_some d is)
    by k number names d (Some p) at is named =
        (let place : p.0 ≡ 1 + k = enumerated_at 1 (declared_domains units) k p at in
        let own = number_by units p.0 p.1 p.1.form number names (ap (λ (z : sign.DeclaredDomain). z.domain) (some_is (declared_domain units p) d is) ∙ named) in
        omega (arith, place, own))

    number_at : (k number : ℕ) (names : List Name) (d : sign.DeclaredDomain) → slice_get (domains_of units) k ≡ Some d → d.domain ≡ Named number names → number ≡ k
    number_at zero number names d is named =
        (let other : Truths ≡ Named number names = ap (λ (z : sign.DeclaredDomain). z.domain) (some_is truth_values d is) ∙ named in
        absurd (cc other))
    number_at (suc k) number names d is named = by k number names d (slice_get items k) refl (sym (slice_get-map (declared_domain units) items k) ∙ is) named

-- ---- functions have declared domains

truths_of : (units : List LoadedUnit) → HasTruths (signature_of units)
truths_of units = record { first = truth_values; is_first = refl }

module _ (units : List LoadedUnit) where
  abbrev domains : List sign.DeclaredDomain
  domains = domains_of units

  typed_arguments : (n : ℕ) (ds : List RawName) → flat_map (λ (d : RawName). unknown_domain domains n d ++ infinite_domain n d) ds ≡ [] → Every (Typed (signature_of units)) (map (number_or_whole domains) ds)
  typed_arguments n [] none = tt
  typed_arguments n (d ∷ ds) none =
      let own : List Fault = unknown_domain domains n d ++ infinite_domain n d in
      let others : List Fault = flat_map (λ (d : RawName). unknown_domain domains n d ++ infinite_domain n d) ds in
      (typed_domain (signature_of units) n d (truths_of units) (none_left (unknown_domain domains n d) (infinite_domain n d) (none_left own others none)), typed_arguments n ds (none_right own others none))

  function_typed : (f : DeclaredFunction) → own_faults domains f ≡ [] → Every (Typed (signature_of units)) (function_of domains f).domains × Typed (signature_of units) (function_of domains f).codomain
  function_typed f none =
      let arguments : List Fault = flat_map (λ (d : RawName). unknown_domain domains f.unit d ++ infinite_domain f.unit d) f.domains in
      let codomain : List Fault = unknown_domain domains f.unit f.codomain in
      let infinite : List Fault = if is_dynamic (kind_of f.kind) then infinite_domain f.unit f.codomain else [] in
      let arity : List Fault = if nat_lt 4 (length f.domains) then fault_at WrongArity f.unit f.name ∷ [] else [] in
      let rest = none_right arguments (codomain ++ (infinite ++ arity)) none in
      (typed_arguments f.unit f.domains (none_left arguments (codomain ++ (infinite ++ arity)) none), typed_domain (signature_of units) f.unit f.codomain (truths_of units) (none_left codomain (infinite ++ arity) rest))

  -- the functions of the signature are those that are declared
  pub declared_at : (k : ℕ) (g : Function) → slice_get (signature_of units).functions k ≡ Some g → (f : DeclaredFunction) × (slice_get (functions units) k ≡ Some f) × (function_of domains f ≡ g)
  declared_at k g is = by (slice_get (functions units) k) refl (sym (slice_get-map (function_of domains) (functions units) k) ∙ is)
    where
      by : (o : Option DeclaredFunction) → slice_get (functions units) k ≡ o → option_map (function_of domains) o ≡ Some g → (f : DeclaredFunction) × (slice_get (functions units) k ≡ Some f) × (function_of domains f ≡ g)
      by None at e = absurd (no_some g e)
      by (Some f) at e = (f, at, some_is (function_of domains f) g e)

  all_typed : function_faults units ≡ [] → (k : ℕ) (g : Function) → slice_get (signature_of units).functions k ≡ Some g → Every (Typed (signature_of units)) g.domains × Typed (signature_of units) g.codomain
  all_typed none k g is =
      let f = declared_at k g is in
      let own = none_at (own_faults domains) (functions units) k f.0 (none_left (flat_map (own_faults domains) (functions units)) (location_faults domains 0 (functions units)) none) f.1 in
      subst (λ (h : Function). Every (Typed (signature_of units)) h.domains × Typed (signature_of units) h.codomain) f.2 (function_typed f.0 own)

  -- a domain other than the whole numbers has a place
  below : (n : ℕ) (d : RawName) → unknown_domain domains n d ≡ [] → infinite_domain n d ≡ [] → number_or_whole domains d < length domains
  below n d known finite = by (domain_number domains d.text) refl
    where
      unless_number : Option ℕ → List Fault
      unless_number None = fault_at Unknown n d ∷ []
      unless_number (Some k) = []

      placed_below : (k : ℕ) (b c : Truth) → c ≡ false → (if b then Some 0 else (if c then Some whole else position (is_domain_named d.text) domains)) ≡ Some k → k < length domains
      placed_below k true c no_whole e = (let same : 0 ≡ k = some_is 0 k e in subst (λ (z : ℕ). z < length domains) same (omega arith))
      placed_below k false true no_whole e = absurd (true≢false no_whole)
      placed_below k false false no_whole e = (position-Some (is_domain_named d.text) domains k truth_values e).0

      by : (o : Option ℕ) → domain_number domains d.text ≡ o → number_or_whole domains d < length domains
      by None e = absurd (full (fault_at Unknown n d) [] (sym (ap unless_number e) ∙ known))
      by (Some k) e =
          subst (λ (z : ℕ). z < length domains) (sym (ap (λ (o : Option ℕ). unwrap_or o whole) e))
          (placed_below k (bytes_eq d.text boolean) (bytes_eq d.text integer) (fails (has_name integer d) (fault_at DomainTooLarge n d) finite) e)

  all_below : (n : ℕ) (ds : List RawName) → flat_map (λ (d : RawName). unknown_domain domains n d ++ infinite_domain n d) ds ≡ [] → All (λ (k : ℕ). k < length domains) (map (number_or_whole domains) ds)
  all_below n [] none k d lt = absurd (omega (arith, lt))
  all_below n (b ∷ ds) none zero d lt =
      let own = none_left (unknown_domain domains n b ++ infinite_domain n b) (flat_map (λ (d : RawName). unknown_domain domains n d ++ infinite_domain n d) ds) none in
      below n b (none_left (unknown_domain domains n b) (infinite_domain n b) own) (none_right (unknown_domain domains n b) (infinite_domain n b) own)
  all_below n (b ∷ ds) none (suc k) d lt = all_below n ds (none_right (unknown_domain domains n b ++ infinite_domain n b) (flat_map (λ (d : RawName). unknown_domain domains n d ++ infinite_domain n d) ds) none) k d (omega (arith, lt))

  function_declared : (f : DeclaredFunction) → own_faults domains f ≡ [] → IsDeclared domains (function_of domains f)
  function_declared f none =
      let arguments : List Fault = flat_map (λ (d : RawName). unknown_domain domains f.unit d ++ infinite_domain f.unit d) f.domains in
      let codomain : List Fault = unknown_domain domains f.unit f.codomain in
      let infinite : List Fault = if is_dynamic (kind_of f.kind) then infinite_domain f.unit f.codomain else [] in
      let arity : List Fault = if nat_lt 4 (length f.domains) then fault_at WrongArity f.unit f.name ∷ [] else [] in
      let rest = none_right arguments (codomain ++ (infinite ++ arity)) none in
      let last = none_right codomain (infinite ++ arity) rest in
      let few : length f.domains ≤ 4 = ltb-false 4 (length f.domains) (fails (nat_lt 4 (length f.domains)) (fault_at WrongArity f.unit f.name) (none_right infinite arity last)) in
      record {
        few = omega (arith, few, length-map f.domains (number_or_whole domains));
        declared = all_below f.unit f.domains (none_left arguments (codomain ++ (infinite ++ arity)) none);
        codomain = λ dynamic. below f.unit f.codomain (none_left codomain (infinite ++ arity) rest) (sym (ap (λ (b : Truth). if b then infinite_domain f.unit f.codomain else []) dynamic) ∙ none_left infinite arity last);
      }

  -- where nothing is wrong with functions, those of the signature are declared as it asks
  pub signature_declared : function_faults units ≡ [] → All (IsDeclared domains) (signature_of units).functions
  signature_declared none =
      all_found (IsDeclared domains) (signature_of units).functions
      (λ k g is. (let f = declared_at k g is in
      subst (IsDeclared domains) f.2 (function_declared f.0 (none_at (own_faults domains) (functions units) k f.0 (none_left (flat_map (own_faults domains) (functions units)) (location_faults domains 0 (functions units)) none) f.1))))

  -- where nothing is wrong with functions, their domains are declared
  pub signature_ready : length domains ≤ whole → function_faults units ≡ [] → IsReady (signature_of units)
  signature_ready few none = record {
    truths = truths_of units;
    few = few;
    numbered = signature_numbered units;
    arguments = λ k g is. (all_typed none k g is).0;
    results = λ k g is. (all_typed none k g is).1;
  }

-- ---- names are declared once

-- the names of functions
abbrev name_of : DeclaredFunction → Of RawName
name_of f = (f.unit, f.name)

declared_among : (n : ℕ) (d : RawDeclaration) → Among (map name_of (function_in (n, d))) (of_unit n (names_in_declaration d))
declared_among n (declaration.Enumeration d es) = among_none (of_unit n (d ∷ es))
declared_among n (declaration.Subset d base) = among_none (of_unit n (d ∷ []))
declared_among n (declaration.Abstract d) = among_none (of_unit n (d ∷ []))
declared_among n (declaration.Function kind f ds c) = With (n, f) Empty

functions_among : (units : List LoadedUnit) → Among (map name_of (functions units)) (declared_names units)
functions_among units = items_among function_in name_of declared_among units

-- the first item that passes is the only one
pub only_place : {A : Type 0} (test : A → Truth) (i : ℕ) (xs : List A) (k : ℕ) (x : A) → slice_get xs k ≡ Some x → test x ≡ true → ((j : ℕ) (y : A) → slice_get xs j ≡ Some y → test y ≡ true → j ≡ k) → position_from test i xs ≡ Some (i + k)
only_place test i [] k x is passes one = absurd (no_some x is)
only_place test i (y ∷ xs) zero x is passes one =
    ap (λ (b : Truth). cond b (Some i) (position_from test (i + 1) xs)) (ap test (some_is y x is) ∙ passes) ∙ ap (λ (z : ℕ). Some z) (omega arith)
only_place test i (y ∷ xs) (suc k) x is passes one =
    ap (λ (b : Truth). cond b (Some i) (position_from test (i + 1) xs)) (not_first (test y) refl)
    ∙ only_place test (i + 1) xs k x is passes (λ j z at ok. omega (arith, one (suc j) z at ok))
    ∙ ap (λ (z : ℕ). Some z) (omega arith)
  where
    not_first : (b : Truth) → test y ≡ b → test y ≡ false
    not_first true e = absurd (omega (arith, one 0 y refl e))
    not_first false e = e

-- where no name is declared twice, each function is the first of its name
pub signature_placed : (units : List LoadedUnit) → name_faults units ≡ [] → Placed (signature_of units)
signature_placed units none k g is =
    position_from-zero test (signature_of units).functions
    ∙ only_place test 0 (signature_of units).functions k g is ((bytes_eq-Decides g.name g.name).1 refl) one ∙ ap (λ (z : ℕ). Some z) (omega arith)
  where
    test : Function → Truth
    test f = bytes_eq f.name g.name

    name_at : (j : ℕ) (h : Function) → slice_get (signature_of units).functions j ≡ Some h → (p : Of RawName) × (slice_get (map name_of (functions units)) j ≡ Some p) × (p.1.text ≡ h.name)
    name_at j h at = (let f = declared_at units j h at in (name_of f.0, slice_get-map name_of (functions units) j ∙ ap (option_map name_of) f.1, ap (λ (z : Function). z.name) f.2))

    one : (j : ℕ) (h : Function) → slice_get (signature_of units).functions j ≡ Some h → test h ≡ true → j ≡ k
    one j h at ok =
        (let p = name_at j h at in
        let q = name_at k g is in
        fresh_among (boolean ∷ integer ∷ []) (functions_among units) none j k p.0 q.0 p.1 q.1 (p.2 ∙ (bytes_eq-Decides h.name g.name).0 ok ∙ sym q.2))

-- ---- each function that needs a definition has one

none_found : {A : Type 0} (test : A → Truth) (xs : List A) → find test xs ≡ None → list_any test xs ≡ false
none_found test [] e = refl
none_found {A} test (x ∷ xs) e = by (test x) (find test xs) (none_found test xs) e
  where
    by : (b : Truth) (later : Option A) → (later ≡ None → list_any test xs ≡ false) → cond b (Some x) later ≡ None → (b || list_any test xs) ≡ false
    by true later f q = absurd (no_some x (sym q))
    by false later f q = f q

any_map : {A B : Type 0} (test : B → Truth) (h : A → B) (xs : List A) → list_any test (map h xs) ≡ list_any (λ (x : A). test (h x)) xs
any_map test h [] = refl
any_map test h (x ∷ xs) = ap (λ (b : Truth). test (h x) || b) (any_map test h xs)

module _ (number : Name → ℕ) (units : List LoadedUnit) (placed : Placed (signature_of units)) (fine : (k : ℕ) (p : Of RawFunction) → slice_get (definitions units) k ≡ Some p → IsKnownBody (signature_of units) p) where
  -- a static or derived function has a definition, unless it is the constant of an abstract domain
  pub functions_defined : flat_map (undefined units) (functions units) ≡ [] → (k : ℕ) (g : Function) → slice_get (signature_of units).functions k ≡ Some g → IsDefined (machine number (signature_of units) units placed fine) k g
  functions_defined none k g is not_dynamic no_definition is_undefined =
      let f = declared_at units k g is in
      let missing = none_at (undefined units) (functions units) k f.0 none f.1 in
      let needs : is_defined_by_term (domains_of units) g ≡ true = (λ i. not (not_dynamic i) && is_undef (is_undefined i)) in
      let needed : is_defined_by_term (domains_of units) (function_of (domains_of units) f.0) ≡ true = ap (is_defined_by_term (domains_of units)) f.2 ∙ needs in
      let unlisted = fails (is_defined_by_term (domains_of units) (function_of (domains_of units) f.0) && not (is_listed (defined_names units) f.0.name.text)) (fault_at NoDefinition f.0.unit f.0.name) missing in
      let named : definition_named units g.name ≡ None = no_value (definition_named units g.name) (sym (definition_at number (signature_of units) units placed fine k g is) ∙ no_definition) in
      let not_listed_there : is_listed (defined_names units) g.name ≡ false = any_map (λ (other : Name). bytes_eq other g.name) (λ (p : Of RawFunction). p.1.name.text) (definitions units) ∙ none_found (λ (p : Of RawFunction). has_name g.name p.1.name) (definitions units) named in
      let same_name : f.0.name.text ≡ g.name = ap (λ (h : Function). h.name) f.2 in
      let wanted : (is_defined_by_term (domains_of units) (function_of (domains_of units) f.0) && not (is_listed (defined_names units) f.0.name.text)) ≡ true =
      (λ i. needed i && not ((ap (is_listed (defined_names units)) same_name ∙ not_listed_there) i)) in
      true≢false (sym wanted ∙ unlisted)
    where
      no_value : (o : Option (Of RawFunction)) → option_map (definition_of number (signature_of units) units) o ≡ None → o ≡ None
      no_value None e = refl
      no_value (Some p) e = absurd (no_some (definition_of number (signature_of units) units p) (sym e))
