-- Where nothing is wrong with the bodies of files, definitions, initial terms, rules, invariants and the main rule are well typed.
use Rattle.std.proofs.Common.{◌≡◌, ℕ, suc, zero, Bool as Truth, true, false, true≢false, not, ◌&&◌, ◌||◌, cond, List, [], ◌∷◌, ◌++◌, length, Option, Some, None, nat_eq, slice_get, get_or, All, refl, sym, ap, subst, ◌∙◌, arith}
use Rattle.std.proofs.Math.ListN.{length-map}
use Rattle.std.specs.Prelude.{map, bytes_eq}
use Rattle.std.specs.List.{flat_map, list_any}
use Rattle.std.specs.Option.{unwrap_or, option_map}
use Rattle.std.proofs.lemmas.Bool.{eqb-true as same_number}
use Rattle.std.proofs.lemmas.List.Folds.{list_any-append}
use Rattle.std.proofs.lemmas.List.Quantifiers.{position-Some}
use Rattle.std.proofs.lemmas.Option.{slice_get-get_or, slice_get-map}
use Rattle.std.proofs.lemmas.Slice.Eq.{bytes_eq-Decides}
use Rattle.asm_domain.specs.Universe.{AreDistinct}
use Rattle.asm_sign.specs.declared.function.DeclaredDomain.{DeclaredDomain}
use Rattle.asm_sign.specs.declared.function.Function.{Function}
use Rattle.asm_sign.specs.declared.function.FunKind.{FunKind}
use Rattle.asm_sign.specs.Kind.{is_dynamic, is_kept}
use Rattle.asm_sign.specs.Vocabulary.{Vocabulary}
use Rattle.asm_node.specs.declared.term_type.TermType.{TermType}
use Rattle.asm_node.specs.Machine.{Definition, constant_of}
use Rattle.asm_node.specs.Values.{is_undef, whole}
use Rattle.asm_node.specs.Types.{Types, no_types, domain_type, of_domain, put_type, bound_types, parameter_types, HasType}
use Rattle.asm_node.specs.WellFormed.{is_defined}
use Rattle.asm_tree.specs.declared.term.RawName.{RawName}
use Rattle.asm_tree.specs.declared.term.RawBinder.{RawBinder}
use Rattle.asm_tree.specs.declared.unit.RawFunction.{RawFunction}
use Rattle.asm_tree.specs.declared.unit.LoadedUnit.{LoadedUnit}
use Rattle.asm_faults.specs.declared.fault.Fault.{Fault}
use Rattle.asm_faults.specs.declared.fault.ModelFault.TheVariants.{Duplicate, Unknown, WrongKind, WrongArity, WrongType}
use Rattle.asm_faults.specs.At.{Name, fault_at, token}
use Rattle.asm_faults.specs.DomainFaults.{is_listed, repeats}
use Rattle.asm_faults.specs.Files.{Of}
use Rattle.asm_faults.specs.FunctionFaults.{domain_number, number_or_whole, unknown_domain}
use Rattle.asm_faults.specs.Terms.{judged, function_place, function_named, within, binder_faults, asked, arity_faults}
use Rattle.asm_faults.specs.Bodies.{is_defined_by_term, has_initial, of_parameters, parameter_faults, function_body_faults, functions_faults}
use Rattle.asm_faults.specs.Model.{IsNumbering, function_number, binders_of, tree_of, definition_of}
use Rattle.asm_sound.proofs.Scopes.{full, none_left, none_right, holds, fails, Agrees, agrees_within}
use Rattle.asm_sound.proofs.TypedTerms.{IsReady, no_some, function_found, term_typed, asked_typed}
use Rattle.asm_sound.proofs.Heads.{none_at, all_found, some_is, unknown_none}

-- ---- parameters

-- no variable is bound
pub agrees_none : (number : Name → ℕ) → Agrees number [] no_types
agrees_none number y = refl

abbrev unless_same : ℕ → ℕ → RawName → Option ℕ → List Fault
unless_same d n name o = of_parameters o d n name

pub parameter_domain : (domains : List DeclaredDomain) (b : RawBinder) (d n : ℕ) → unknown_domain domains n b.domain ≡ [] → of_parameters (domain_number domains b.domain.text) d n b.domain ≡ [] → d ≡ number_or_whole domains b.domain
parameter_domain domains b d n known none = by (domain_number domains b.domain.text) refl
  where
    unless_number : Option ℕ → List Fault
    unless_number None = fault_at Unknown n b.domain ∷ []
    unless_number (Some k) = []

    by : (o : Option ℕ) → domain_number domains b.domain.text ≡ o → d ≡ number_or_whole domains b.domain
    by None e = absurd (full (fault_at Unknown n b.domain) [] (sym (ap unless_number e) ∙ known))
    by (Some k) e =
        (let same : k ≡ d = same_number k d (holds (nat_eq k d) (fault_at WrongType n b.domain) (sym (ap (unless_same d n b.domain) e) ∙ none)) in
        sym same ∙ sym (ap (λ (o : Option ℕ). unwrap_or o whole) e))

-- the types of parameters by the function's domains and by their own
parameters_same : (number : Name → ℕ) (v : Vocabulary) (n : ℕ) (bs : List RawBinder) (ds : List ℕ) → length ds ≡ length bs → flat_map (λ (b : RawBinder). unknown_domain v.domains n b.domain) bs ≡ [] → parameter_faults v.domains n bs ds ≡ []
    → bound_types v.domains (binders_of number v bs) no_types ≡ parameter_types v.domains (map (λ (b : RawBinder). number b.variable.text) bs) ds
parameters_same number v n [] [] lengths known none = refl
parameters_same number v n [] (d ∷ ds) lengths known none = absurd (omega (arith, lengths))
parameters_same number v n (b ∷ bs) [] lengths known none = absurd (omega (arith, lengths))
parameters_same number v n (b ∷ bs) (d ∷ ds) lengths known none =
    let own = of_parameters (domain_number v.domains b.domain.text) d n b.domain in
    let same = parameter_domain v.domains b d n (none_left (unknown_domain v.domains n b.domain) (flat_map (λ (c : RawBinder). unknown_domain v.domains n c.domain) bs) known) (none_left own (parameter_faults v.domains n bs ds) none) in
    ap (λ (k : ℕ). put_type (number b.variable.text) (of_domain v.domains k) (bound_types v.domains (binders_of number v bs) no_types)) (sym same)
    ∙ ap (put_type (number b.variable.text) (of_domain v.domains d))
    (parameters_same number v n bs ds (omega (arith, lengths)) (none_right (unknown_domain v.domains n b.domain) (flat_map (λ (c : RawBinder). unknown_domain v.domains n c.domain) bs) known) (none_right own (parameter_faults v.domains n bs ds) none))

-- ---- definitions

-- a definition of a function of one of these kinds, with a parameter for each argument and a body of the codomain's type
pub record IsTypedDefinition (v : Vocabulary) (kinds : FunKind → Truth) (d : Definition) : Type 0 where
  pub function : Function
  pub is_function : slice_get v.functions d.function ≡ Some function
  pub is_of_kind : kinds function.kind ≡ true
  pub parameters : length d.parameters ≡ length function.domains
  pub type : TermType
  pub is_type : domain_type v.domains function.codomain ≡ Some type
  pub typed : HasType v (parameter_types v.domains d.parameters function.domains) d.body type

module _ (number : Name → ℕ) (numbering : IsNumbering number) (v : Vocabulary) (ready : IsReady v) (units : List LoadedUnit) where
  abbrev definition : Of RawFunction → Definition
  definition p = definition_of number v units p

  pub definition_typed : (may : List DeclaredDomain → Function → Truth) (kinds : FunKind → Truth) → ((g : Function) → may v.domains g ≡ true → kinds g.kind ≡ true) → (p : Of RawFunction)
      → function_body_faults v may p (function_named v p.1.name.text) ≡ [] → IsTypedDefinition v kinds (definition p)
  definition_typed may kinds of_kind (n, f) none = by (function_named v f.name.text) refl none
    where
      by : (o : Option Function) → function_named v f.name.text ≡ o → function_body_faults v may (n, f) o ≡ [] → IsTypedDefinition v kinds (definition (n, f))
      by None is e = absurd (full (fault_at Unknown n f.name) [] e)
      by (Some g) is e =
          (let kind : List Fault = cond (may v.domains g) [] (fault_at WrongKind n f.name ∷ []) in
          let arity : List Fault = arity_faults v n f.name.at f.name.text (length g.domains) (length f.parameters) in
          let binders : List Fault = binder_faults v n f.parameters in
          let own : List Fault = parameter_faults v.domains n f.parameters g.domains in
          let value : List Fault = asked v n (domain_type v.domains g.codomain) (within v n f.parameters []) (judged v n f.term) in
          let after_kind = none_right kind (arity ++ (binders ++ (own ++ value))) e in
          let after_arity = none_right arity (binders ++ (own ++ value)) after_kind in
          let after_binders = none_right binders (own ++ value) after_arity in
          let lengths = same_number (length g.domains) (length f.parameters) (holds (nat_eq (length g.domains) (length f.parameters)) (token WrongArity n f.name.at f.name.text) (none_left arity (binders ++ (own ++ value)) after_kind)) in
          let known = unknown_none v n f.parameters (none_left binders (own ++ value) after_arity) in
          let here = function_found number v f.name.text g is in
          let result = ready.results (function_number number v f.name.text) g here in
          let same = parameters_same number v n f.parameters g.domains lengths known (none_left own value after_binders) in
          let agrees = agrees_within number numbering v n ready.truths f.parameters [] no_types (agrees_none number) known in
          let types : Types = bound_types v.domains (binders_of number v f.parameters) no_types in
          let body = asked_typed number numbering v ready n result.0 (judged v n f.term) (tree_of number v f.term) (term_typed number numbering v ready n f.term) (within v n f.parameters []) types agrees
          (subst (λ (o : Option TermType). asked v n o (within v n f.parameters []) (judged v n f.term) ≡ []) result.1 (none_right own value after_binders)) in
          record {
            function = g;
            is_function = here;
            is_of_kind = of_kind g (holds (may v.domains g) (fault_at WrongKind n f.name) (none_left kind (arity ++ (binders ++ (own ++ value))) e));
            parameters = length-map f.parameters (λ (b : RawBinder). number b.variable.text) ∙ sym lengths;
            type = result.0;
            is_type = result.1;
            typed = subst (λ (ts : Types). HasType v ts (tree_of number v f.term) result.0) same body;
          })

  -- the definitions and initial terms of files
  pub functions_typed : (may : List DeclaredDomain → Function → Truth) (kinds : FunKind → Truth) → ((g : Function) → may v.domains g ≡ true → kinds g.kind ≡ true) → (fs : List (Of RawFunction))
      → functions_faults v may fs ≡ [] → All (IsTypedDefinition v kinds) (map definition fs)
  functions_typed may kinds of_kind fs none =
      all_found (IsTypedDefinition v kinds) (map definition fs) (λ k d is. by k d (slice_get fs k) refl (sym (slice_get-map definition fs k) ∙ is))
    where
      bodies : flat_map (λ (p : Of RawFunction). function_body_faults v may p (function_named v p.1.name.text)) fs ≡ []
      bodies = none_right (repeats [] (map (λ (p : Of RawFunction). (p.0, p.1.name)) fs)) (flat_map (λ (p : Of RawFunction). function_body_faults v may p (function_named v p.1.name.text)) fs) none

      by : (k : ℕ) (d : Definition) (o : Option (Of RawFunction)) → slice_get fs k ≡ o → option_map definition o ≡ Some d → IsTypedDefinition v kinds d
      by k d None at is = absurd (no_some d is)
      by k d (Some p) at is = subst (IsTypedDefinition v kinds) (some_is (definition p) d is) (definition_typed may kinds of_kind p (none_at (λ (p : Of RawFunction). function_body_faults v may p (function_named v p.1.name.text)) fs k p bodies at))

and_first : (a b : Truth) → (a && b) ≡ true → a ≡ true
and_first true b is = refl
and_first false b is = is

-- a definition is of a static or derived function
pub defined_kind : (domains : List DeclaredDomain) (g : Function) → is_defined_by_term domains g ≡ true → is_defined g.kind ≡ true
defined_kind domains g is = and_first (not (is_dynamic g.kind)) (is_undef (constant_of domains g)) is

-- an initial term is of a kept function
pub initial_kind : (domains : List DeclaredDomain) (g : Function) → has_initial domains g ≡ true → is_kept g.kind ≡ true
initial_kind domains g is = is

-- ---- no function twice

listed_here : (earlier : List Name) (name : Name) → is_listed (earlier ++ name ∷ []) name ≡ true
listed_here earlier name =
    list_any-append (λ (other : Name). bytes_eq other name) earlier (name ∷ []) ∙ ap (λ (b : Truth). list_any (λ (other : Name). bytes_eq other name) earlier || (b || false)) ((bytes_eq-Decides name name).1 refl) ∙ or_true (list_any (λ (other : Name). bytes_eq other name) earlier)
  where
    or_true : (b : Truth) → (b || true) ≡ true
    or_true true = refl
    or_true false = refl

listed_before : (earlier : List Name) (name other : Name) → is_listed earlier other ≡ true → is_listed (earlier ++ name ∷ []) other ≡ true
listed_before earlier name other is = list_any-append (λ (z : Name). bytes_eq z other) earlier (name ∷ []) ∙ ap (λ (b : Truth). b || list_any (λ (z : Name). bytes_eq z other) (name ∷ [])) is

-- a name that isn't repeated stands in no earlier list
pub not_listed : (earlier : List Name) (ns : List (Of RawName)) → repeats earlier ns ≡ [] → (k : ℕ) (p : Of RawName) → slice_get ns k ≡ Some p → is_listed earlier p.1.text ≡ true → ⊥
not_listed earlier [] none k p is listed = no_some p is
not_listed earlier ((n, name) ∷ ns) none zero p is listed =
    let same = some_is (n, name) p is in
    let fresh = fails (is_listed earlier name.text) (fault_at Duplicate n name) (none_left (cond (is_listed earlier name.text) (fault_at Duplicate n name ∷ []) []) (repeats (earlier ++ name.text ∷ []) ns) none) in
    true≢false (sym listed ∙ ap (λ (q : Of RawName). is_listed earlier q.1.text) (sym same) ∙ fresh)
not_listed earlier ((n, name) ∷ ns) none (suc k) p is listed =
    not_listed (earlier ++ name.text ∷ []) ns (none_right (cond (is_listed earlier name.text) (fault_at Duplicate n name ∷ []) []) (repeats (earlier ++ name.text ∷ []) ns) none) k p is (listed_before earlier name.text p.1.text listed)

-- two places of one name are one place
pub one_place_of : (earlier : List Name) (ns : List (Of RawName)) → repeats earlier ns ≡ [] → (i j : ℕ) (p q : Of RawName) → slice_get ns i ≡ Some p → slice_get ns j ≡ Some q → p.1.text ≡ q.1.text → i ≡ j
one_place_of earlier [] none i j p q at_i at_j same = absurd (no_some p at_i)
one_place_of earlier ((n, name) ∷ ns) none zero zero p q at_i at_j same = refl
one_place_of earlier ((n, name) ∷ ns) none zero (suc j) p q at_i at_j same =
    let rest = none_right (cond (is_listed earlier name.text) (fault_at Duplicate n name ∷ []) []) (repeats (earlier ++ name.text ∷ []) ns) none in
    let first : name.text ≡ q.1.text = ap (λ (z : Of RawName). z.1.text) (some_is (n, name) p at_i) ∙ same in
    absurd (not_listed (earlier ++ name.text ∷ []) ns rest j q at_j (ap (is_listed (earlier ++ name.text ∷ [])) (sym first) ∙ listed_here earlier name.text))
one_place_of earlier ((n, name) ∷ ns) none (suc i) zero p q at_i at_j same =
    let rest = none_right (cond (is_listed earlier name.text) (fault_at Duplicate n name ∷ []) []) (repeats (earlier ++ name.text ∷ []) ns) none in
    let first : name.text ≡ p.1.text = ap (λ (z : Of RawName). z.1.text) (some_is (n, name) q at_j) ∙ sym same in
    absurd (not_listed (earlier ++ name.text ∷ []) ns rest i p at_i (ap (is_listed (earlier ++ name.text ∷ [])) (sym first) ∙ listed_here earlier name.text))
one_place_of earlier ((n, name) ∷ ns) none (suc i) (suc j) p q at_i at_j same =
    let rest = none_right (cond (is_listed earlier name.text) (fault_at Duplicate n name ∷ []) []) (repeats (earlier ++ name.text ∷ []) ns) none in
    ap suc (one_place_of (earlier ++ name.text ∷ []) ns rest i j p q at_i at_j same)

-- the function of a place has the name that it was found by
pub placed_name : (v : Vocabulary) (text : Name) (k : ℕ) (g : Function) → function_place v text ≡ Some k → slice_get v.functions k ≡ Some g → g.name ≡ text
placed_name v text k g place is =
    let at = position-Some (λ (f : Function). bytes_eq f.name text) v.functions k g place in
    let same = some_is (get_or v.functions k g) g (sym (slice_get-get_or v.functions k g at.0) ∙ is) in
    (bytes_eq-Decides g.name text).0 (ap (λ (f : Function). bytes_eq f.name text) (sym same) ∙ at.1)

-- a declared function has a place
pub place_of_named : (v : Vocabulary) (text : Name) (g : Function) → function_named v text ≡ Some g → (k : ℕ) × (function_place v text ≡ Some k) × (slice_get v.functions k ≡ Some g)
place_of_named v text g is = by (function_place v text) refl
  where
    at_place : Option ℕ → Option Function
    at_place None = None
    at_place (Some f) = slice_get v.functions f

    by : (o : Option ℕ) → function_place v text ≡ o → (k : ℕ) × (function_place v text ≡ Some k) × (slice_get v.functions k ≡ Some g)
    by None p = absurd (no_some g (sym (ap at_place p) ∙ is))
    by (Some k) p = (k, p, sym (ap at_place p) ∙ is)

-- functions of one number have one name
pub one_name : (number : Name → ℕ) (v : Vocabulary) (x y : Name) (g h : Function) → function_named v x ≡ Some g → function_named v y ≡ Some h → function_number number v x ≡ function_number number v y → x ≡ y
one_name number v x y g h is_g is_h same =
    let p = place_of_named v x g is_g in
    let q = place_of_named v y h is_h in
    let places : p.0 ≡ q.0 = sym (ap (λ (o : Option ℕ). unwrap_or o 0) p.1) ∙ same ∙ ap (λ (o : Option ℕ). unwrap_or o 0) q.1 in
    sym (placed_name v x p.0 g p.1 p.2) ∙ placed_name v y p.0 g (q.1 ∙ ap (λ (k : ℕ). Some k) (sym places)) p.2

module _ (number : Name → ℕ) (v : Vocabulary) (units : List LoadedUnit) where
  abbrev number_in : Of RawFunction → ℕ
  number_in p = function_number number v p.1.name.text

  named_in : (may : List DeclaredDomain → Function → Truth) (p : Of RawFunction) → function_body_faults v may p (function_named v p.1.name.text) ≡ [] → (g : Function) × (function_named v p.1.name.text ≡ Some g)
  named_in may (n, f) none = by (function_named v f.name.text) refl none
    where
      by : (o : Option Function) → function_named v f.name.text ≡ o → function_body_faults v may (n, f) o ≡ [] → (g : Function) × (function_named v f.name.text ≡ Some g)
      by None is e = absurd (full (fault_at Unknown n f.name) [] e)
      by (Some g) is e = (g, is)

  twice : (o : Option (Of RawFunction)) → option_map (λ (d : Definition). d.function) (option_map (definition_of number v units) o) ≡ option_map number_in o
  twice None = refl
  twice (Some p) = refl

  -- no function has two definitions, and none two initial terms
  pub functions_distinct : (may : List DeclaredDomain → Function → Truth) (fs : List (Of RawFunction)) → functions_faults v may fs ≡ [] → AreDistinct (map (λ (d : Definition). d.function) (map (definition_of number v units) fs))
  functions_distinct may fs none = record { one_place = λ i j x at_i at_j. one i j x (slice_get fs i) (slice_get fs j) refl refl (sym (at i) ∙ at_i) (sym (at j) ∙ at_j) }
    where
      names : List (Of RawName)
      names = map (λ (p : Of RawFunction). (p.0, p.1.name)) fs

      fresh : repeats [] names ≡ []
      fresh = none_left (repeats [] names) (flat_map (λ (p : Of RawFunction). function_body_faults v may p (function_named v p.1.name.text)) fs) none

      bodies : flat_map (λ (p : Of RawFunction). function_body_faults v may p (function_named v p.1.name.text)) fs ≡ []
      bodies = none_right (repeats [] names) (flat_map (λ (p : Of RawFunction). function_body_faults v may p (function_named v p.1.name.text)) fs) none

      at : (k : ℕ) → slice_get (map (λ (d : Definition). d.function) (map (definition_of number v units) fs)) k ≡ option_map number_in (slice_get fs k)
      at k = slice_get-map (λ (d : Definition). d.function) (map (definition_of number v units) fs) k ∙ ap (option_map (λ (d : Definition). d.function)) (slice_get-map (definition_of number v units) fs k) ∙ twice (slice_get fs k)

      name_at : (k : ℕ) (p : Of RawFunction) → slice_get fs k ≡ Some p → slice_get names k ≡ Some (p.0, p.1.name)
      name_at k p is = slice_get-map (λ (p : Of RawFunction). (p.0, p.1.name)) fs k ∙ ap (option_map (λ (p : Of RawFunction). (p.0, p.1.name))) is

      one : (i j x : ℕ) (o p : Option (Of RawFunction)) → slice_get fs i ≡ o → slice_get fs j ≡ p → option_map number_in o ≡ Some x → option_map number_in p ≡ Some x → i ≡ j
      one i j x None p is_i is_j e d = absurd (no_some x e)
      one i j x (Some a) None is_i is_j e d = absurd (no_some x d)
      one i j x (Some a) (Some b) is_i is_j e d =
          (let f = named_in may a (none_at (λ (p : Of RawFunction). function_body_faults v may p (function_named v p.1.name.text)) fs i a bodies is_i) in
          let g = named_in may b (none_at (λ (p : Of RawFunction). function_body_faults v may p (function_named v p.1.name.text)) fs j b bodies is_j) in
          let same = one_name number v a.1.name.text b.1.name.text f.0 g.0 f.1 g.1 (some_is (number_in a) x e ∙ sym (some_is (number_in b) x d)) in
          one_place_of [] names fresh i j (a.0, a.1.name) (b.0, b.1.name) (name_at i a is_i) (name_at j b is_j) same)
