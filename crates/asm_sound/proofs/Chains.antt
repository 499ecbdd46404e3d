-- Where no chain of calls is too long, definitions and macro rules end.
use Rattle.std.proofs.Common.{◌≡◌, ℕ, suc, zero, ◌+◌, Bool as Truth, true, false, true≢false, ◌||◌, cond, List, [], ◌∷◌, ◌++◌, length, Option, Some, None, nat_eq, if◌then◌else◌, slice_get, slice_index_or, refl, sym, ap, subst, ◌∙◌, arith}
use Rattle.std.specs.Prelude.{map, bytes_eq}
use Rattle.std.specs.List.{flat_map, find, list_any, enumerate_from}
use Rattle.std.specs.Option.{unwrap_or, option_map}
use Rattle.std.proofs.lemmas.Bool.{eqb-true as same_number, eq-eqb as number_same}
use Rattle.std.proofs.lemmas.Option.{get_or_from_slice_get, slice_get-map}
use Rattle.std.proofs.lemmas.Slice.Eq.{bytes_eq-Decides}
use Rattle.asm_sign.specs.declared.function.DeclaredDomain.{DeclaredDomain}
use Rattle.asm_sign.specs.declared.function.Function.{Function}
use Rattle.asm_sign.specs.declared.function.FunKind.{FunKind}
use Rattle.asm_sign.specs.Vocabulary.{Vocabulary}
use Rattle.asm_node.specs.Machine.{Machine, Definition, definition_of as definition_among, has_kind}
use Rattle.asm_node.specs.Reads.{may_be_read, may_be_called, DefinitionReadsOnly, MacroCallsOnly}
use Rattle.asm_node.specs.WellFormed.{any_kind}
use Rattle.asm_tree.specs.declared.unit.RawFunction.{RawFunction}
use Rattle.asm_tree.specs.declared.unit.LoadedUnit.{LoadedUnit}
use Rattle.call_graph.specs.declared.graph.Node.{Node}
use Rattle.call_graph.specs.Calls.{no_node, calls_of, is_there, calls_at, has_chain}
use Rattle.asm_faults.specs.declared.fault.Fault.{Fault}
use Rattle.asm_faults.specs.declared.fault.ModelFault.TheVariants.{Unknown, WrongKind, CallsTooDeep}
use Rattle.asm_faults.specs.At.{Name, fault_at}
use Rattle.asm_faults.specs.Files.{Of, to_list, has_name, DeclaredRule, rules, definitions}
use Rattle.asm_faults.specs.Terms.{judged, within, function_place, function_named, binder_faults, asked, arity_faults}
use Rattle.asm_faults.specs.Bodies.{RuleHead, head_of, heads_of, head_named, rule_faults, parameter_faults, function_body_faults, macro_faults}
use Rattle.asm_faults.specs.Calls.{Names, Thing, called, called_rules, numbers_of, node_of, definition_named, function_node, function_graph, rule_place, rule_node, rule_graph, defined_things, rule_things, cycles, deep, or_next, call_faults}
use Rattle.asm_faults.specs.Model.{function_number, definition_of, macro_of, file_of, machine_in}
use Rattle.asm_node.specs.Types.{domain_type}
use Rattle.asm_sound.proofs.Inductions.{Every}
use Rattle.asm_sound.proofs.Scopes.{full, none_left, none_right, fails, both_ways}
use Rattle.asm_sound.proofs.TypedTerms.{no_some, asked_own}
use Rattle.asm_sound.proofs.Heads.{none_at, find_place, some_is, head_found}
use Rattle.asm_sound.proofs.Definitions.{placed_name, place_of_named}
use Rattle.asm_sound.proofs.Called.{every_left, every_right, IsNamed, HasHead, term_reads, term_declares, rule_calls, rule_heads}

-- ---- lists

pub or_left : (a b : Truth) → (a || b) ≡ false → a ≡ false
or_left true b e = e
or_left false b e = refl

pub or_right : (a b : Truth) → (a || b) ≡ false → b ≡ false
or_right true b e = absurd (true≢false e)
or_right false b e = e

pub each_fails : {A : Type 0} (test : A → Truth) (xs : List A) → list_any test xs ≡ false → Every (λ (x : A). test x ≡ false) xs
each_fails test [] e = tt
each_fails test (x ∷ xs) e = (or_left (test x) (list_any test xs) e, each_fails test xs (or_right (test x) (list_any test xs) e))

pub every_zip : {A : Type 0} (P Q R : A → Type 0) → ((x : A) → P x → Q x → R x) → (xs : List A) → Every P xs → Every Q xs → Every R xs
every_zip P Q R f [] p q = tt
every_zip P Q R f (x ∷ xs) p q = (f x p.0 q.0, every_zip P Q R f xs p.1 q.1)

-- what holds of the numbers of names holds of the number of each
pub of_names : (Q : ℕ → Type 0) (place : Name → Option ℕ) (names : Names) → Every Q (numbers_of place names) → Every (λ (f : Name). (k : ℕ) → place f ≡ Some k → Q k) names
of_names Q place [] e = tt
of_names Q place (f ∷ names) e =
    (λ k is. (subst (λ (o : Option ℕ). Every Q (to_list o)) is (every_left Q (to_list (place f)) (numbers_of place names) e)).0, of_names Q place names (every_right Q (to_list (place f)) (numbers_of place names) e))

mapped_or : {A B : Type 0} (h : A → B) (x : A) (later : Option B) (own : Option A) → later ≡ option_map h own → (b : Truth) → cond b (Some (h x)) later ≡ option_map h (cond b (Some x) own)
mapped_or h x later own e true = refl
mapped_or h x later own e false = e

find_map : {A B : Type 0} (test : B → Truth) (h : A → B) (xs : List A) → find test (map h xs) ≡ option_map h (find (λ (x : A). test (h x)) xs)
find_map test h [] = refl
find_map {A} test h (x ∷ xs) = mapped_or h x (find test (map h xs)) (find (λ (y : A). test (h y)) xs) (find_map test h xs) (test (h x))

find_alike : {A : Type 0} (t u : A → Truth) (xs : List A) → ((k : ℕ) (x : A) → slice_get xs k ≡ Some x → t x ≡ u x) → find t xs ≡ find u xs
find_alike t u [] f = refl
find_alike t u (x ∷ xs) f = λ i. cond (f 0 x refl i) (Some x) (find_alike t u xs (λ k y is. f (suc k) y is) i)

found_or : {A : Type 0} (test : A → Truth) (y x : A) (later : Option A) → (later ≡ Some x → test x ≡ true) → (b : Truth) → test y ≡ b → cond b (Some y) later ≡ Some x → test x ≡ true
found_or test y x later f true is q = ap test (sym (some_is y x q)) ∙ is
found_or test y x later f false is q = f q

pub find_passes : {A : Type 0} (test : A → Truth) (xs : List A) (x : A) → find test xs ≡ Some x → test x ≡ true
find_passes test [] x e = absurd (no_some x e)
find_passes test (y ∷ xs) x e = found_or test y x (find test xs) (λ q. find_passes test xs x q) (test y) refl e

none_first : {A B : Type 0} (h : A → List B) (xs ys : List A) → flat_map h (xs ++ ys) ≡ [] → flat_map h xs ≡ []
none_first h [] ys e = refl
none_first h (x ∷ xs) ys e = λ i. none_left (h x) (flat_map h (xs ++ ys)) e i ++ none_first h xs ys (none_right (h x) (flat_map h (xs ++ ys)) e) i

none_second : {A B : Type 0} (h : A → List B) (xs ys : List A) → flat_map h (xs ++ ys) ≡ [] → flat_map h ys ≡ []
none_second h [] ys e = e
none_second h (x ∷ xs) ys e = none_second h xs ys (none_right (h x) (flat_map h (xs ++ ys)) e)

none_within : {A B C : Type 0} (h : B → List C) (w : A → List B) (xs : List A) (k : ℕ) (x : A) → flat_map h (flat_map w xs) ≡ [] → slice_get xs k ≡ Some x → flat_map h (w x) ≡ []
none_within h w [] k x e is = absurd (no_some x is)
none_within h w (y ∷ xs) zero x e is = ap (λ z. flat_map h (w z)) (sym (some_is y x is)) ∙ none_first h (w y) (flat_map w xs) e
none_within h w (y ∷ xs) (suc k) x e is = none_within h w xs k x (none_second h (w y) (flat_map w xs) e) is

enumerated : {A : Type 0} (n : ℕ) (xs : List A) (k : ℕ) (x : A) → slice_get xs k ≡ Some x → slice_get (enumerate_from n xs) k ≡ Some (n + k, x)
enumerated n [] k x is = absurd (no_some x is)
enumerated n (y ∷ xs) zero x is = λ i. Some (same i, some_is y x is i)
  where
    same : n ≡ n + 0
    same = omega arith
enumerated n (y ∷ xs) (suc k) x is = enumerated (n + 1) xs k x is ∙ ap (λ (z : ℕ). Some (z, x)) (omega arith)

-- ---- chains

pub chain_next : (g : List Node) (k f : ℕ) (cs : List ℕ) → calls_at g f ≡ cs → has_chain g (suc (suc k)) f ≡ false → Every (λ (c : ℕ). has_chain g (suc k) c ≡ false) cs
unfolding has_chain
chain_next g k f cs is none = each_fails (has_chain g (suc k)) cs (ap (list_any (has_chain g (suc k))) (sym is) ∙ none)

chain_one : (g : List Node) (f : ℕ) → has_chain g 1 f ≡ false → is_there g f ≡ false
unfolding has_chain
chain_one g f none = none

chain_of_none : (g : List Node) (k f : ℕ) → calls_at g f ≡ [] → has_chain g (suc (suc k)) f ≡ false
unfolding has_chain
chain_of_none g k f is = ap (list_any (has_chain g (suc k))) is

or_next_first : (xs ys : List Fault) → or_next xs ys ≡ [] → ys ≡ []
or_next_first [] ys e = e
or_next_first (x ∷ xs) ys e = absurd (full x xs e)

-- ---- functions

-- each function is the first of its name
abbrev pub Placed : Vocabulary → Type 0
Placed v = (f : ℕ) (g : Function) → slice_get v.functions f ≡ Some g → function_place v g.name ≡ Some f

-- a term that is given for a declared function reads declared functions
pub record IsKnownBody (v : Vocabulary) (p : Of RawFunction) : Type 0 where
  pub function : Function
  pub is_function : function_named v p.1.name.text ≡ Some function
  pub reads : Every (IsNamed v p.0) (called p.1.term)

pub known_body : (v : Vocabulary) (may : List DeclaredDomain → Function → Truth) (p : Of RawFunction) → function_body_faults v may p (function_named v p.1.name.text) ≡ [] → IsKnownBody v p
known_body v may (n, f) none = by (function_named v f.name.text) refl none
  where
    by : (o : Option Function) → function_named v f.name.text ≡ o → function_body_faults v may (n, f) o ≡ [] → IsKnownBody v (n, f)
    by None is e = absurd (full (fault_at Unknown n f.name) [] e)
    by (Some g) is e =
        (let arity : List Fault = arity_faults v n f.name.at f.name.text (length g.domains) (length f.parameters) in
        let binders : List Fault = binder_faults v n f.parameters in
        let own : List Fault = parameter_faults v.domains n f.parameters g.domains in
        let value : List Fault = asked v n (domain_type v.domains g.codomain) (within v n f.parameters []) (judged v n f.term) in
        let after_kind = none_right (cond (may v.domains g) [] (fault_at WrongKind n f.name ∷ [])) (arity ++ (binders ++ (own ++ value))) e in
        let last = none_right own value (none_right binders (own ++ value) (none_right arity (binders ++ (own ++ value)) after_kind)) in
        record { function = g; is_function = is; reads = term_declares v n f.term (within v n f.parameters []) (asked_own v n (domain_type v.domains g.codomain) (within v n f.parameters []) (judged v n f.term) last) })

module _ (number : Name → ℕ) (v : Vocabulary) (units : List LoadedUnit) (placed : Placed v) (fine : (k : ℕ) (p : Of RawFunction) → slice_get (definitions units) k ≡ Some p → IsKnownBody v p) where
  abbrev pub machine : Machine
  machine = machine_in number v units

  abbrev pub functions_graph : List Node
  functions_graph = function_graph v units

  abbrev node_by : Option (Of RawFunction) → Node
  node_by o = node_of (option_map (λ (p : Of RawFunction). numbers_of (function_place v) (called p.1.term)) o)

  node_at : (f : ℕ) (g : Function) → slice_get v.functions f ≡ Some g → slice_index_or functions_graph f no_node ≡ node_by (definition_named units g.name)
  node_at f g is = get_or_from_slice_get functions_graph f (function_node v units g) no_node (slice_get-map (function_node v units) v.functions f ∙ ap (option_map (function_node v units)) is)

  -- the definition of a function by its number is that by its name
  pub definition_at : (f : ℕ) (g : Function) → slice_get v.functions f ≡ Some g → definition_among machine.definitions f ≡ option_map (definition_of number v units) (definition_named units g.name)
  definition_at f g is =
      find_map (λ (d : Definition). nat_eq d.function f) (definition_of number v units) (definitions units)
      ∙ ap (option_map (definition_of number v units)) (find_alike (λ (p : Of RawFunction). nat_eq (function_number number v p.1.name.text) f) (λ (p : Of RawFunction). has_name g.name p.1.name) (definitions units) alike)
    where
      alike : (k : ℕ) (p : Of RawFunction) → slice_get (definitions units) k ≡ Some p → nat_eq (function_number number v p.1.name.text) f ≡ bytes_eq p.1.name.text g.name
      alike k p at =
          (let body = fine k p at in
          let place = place_of_named v p.1.name.text body.function body.is_function in
          both_ways (nat_eq (function_number number v p.1.name.text) f) (bytes_eq p.1.name.text g.name)
          (λ e. (let same : place.0 ≡ f = sym (ap (λ (o : Option ℕ). unwrap_or o 0) place.1) ∙ same_number (function_number number v p.1.name.text) f e in
          (bytes_eq-Decides p.1.name.text g.name).1 (sym (placed_name v p.1.name.text f g (place.1 ∙ ap (λ (z : ℕ). Some z) same) is))))
          (λ e. number_same (function_number number v p.1.name.text) f (ap (λ (text : Name). unwrap_or (function_place v text) 0) ((bytes_eq-Decides p.1.name.text g.name).0 e) ∙ ap (λ (o : Option ℕ). unwrap_or o 0) (placed f g is))))

  module _ (allowed : FunKind → Truth) (Safe : ℕ → ℕ → Type 0)
      (here : (n f : ℕ) (g : Function) → slice_get v.functions f ≡ Some g → Safe n f → allowed g.kind ≡ true)
      (next : (n f : ℕ) (cs : List ℕ) → calls_at functions_graph f ≡ cs → Safe (suc n) f → Every (Safe n) cs) where
    -- a function that begins no chain of so many definitions may be read to that depth
    abbrev Readable : ℕ → Type 0
    Readable n = (f : ℕ) (g : Function) → slice_get v.functions f ≡ Some g → has_chain functions_graph (suc n) f ≡ false → Safe n f → may_be_read machine allowed n f

    kind_of : (n f : ℕ) (g : Function) → slice_get v.functions f ≡ Some g → Safe n f → has_kind allowed (slice_get v.functions f) ≡ true
    kind_of n f g is safe = ap (has_kind allowed) is ∙ here n f g is safe

    no_definition : (f : ℕ) (g : Function) → slice_get v.functions f ≡ Some g → has_chain functions_graph 1 f ≡ false → definition_among machine.definitions f ≡ None
    no_definition f g is none = definition_at f g is ∙ by (definition_named units g.name) refl
      where
        by : (o : Option (Of RawFunction)) → definition_named units g.name ≡ o → option_map (definition_of number v units) (definition_named units g.name) ≡ None
        by None e = ap (option_map (definition_of number v units)) e
        by (Some p) e = absurd (true≢false (sym (ap (λ (z : Node). z.there) (node_at f g is ∙ ap node_by e)) ∙ chain_one functions_graph f none))

    body_reads : (n : ℕ) → Readable n → (f : ℕ) (g : Function) → slice_get v.functions f ≡ Some g → has_chain functions_graph (suc (suc n)) f ≡ false → Safe (suc n) f
        → (o : Option (Of RawFunction)) → definition_named units g.name ≡ o → DefinitionReadsOnly (may_be_read machine allowed n) (option_map (definition_of number v units) o)
    body_reads n readable f g is none safe None e = tt
    body_reads n readable f g is none safe (Some p) e =
        let at = find_place (λ (q : Of RawFunction). has_name g.name q.1.name) (definitions units) p e in
        let body = fine at.0 p at.2 in
        let calls : calls_at functions_graph f ≡ numbers_of (function_place v) (called p.1.term) = ap calls_of (node_at f g is ∙ ap node_by e) in
        let chains = of_names (λ (c : ℕ). has_chain functions_graph (suc n) c ≡ false) (function_place v) (called p.1.term) (chain_next functions_graph n f (numbers_of (function_place v) (called p.1.term)) calls none) in
        let safes = of_names (Safe n) (function_place v) (called p.1.term) (next n f (numbers_of (function_place v) (called p.1.term)) calls safe) in
        let both = every_zip (λ (c : Name). (k : ℕ) → function_place v c ≡ Some k → has_chain functions_graph (suc n) k ≡ false) (λ (c : Name). (k : ℕ) → function_place v c ≡ Some k → Safe n k)
        (λ (c : Name). (k : ℕ) → function_place v c ≡ Some k → (has_chain functions_graph (suc n) k ≡ false) × Safe n k) (λ c a b k place. (a k place, b k place)) (called p.1.term) chains safes in
        term_reads number v (may_be_read machine allowed n) p.1.term
        (every_zip (IsNamed v p.0) (λ (c : Name). (k : ℕ) → function_place v c ≡ Some k → (has_chain functions_graph (suc n) k ≡ false) × Safe n k) (λ (c : Name). may_be_read machine allowed n (function_number number v c))
        (λ c named safe_there. (let place = place_of_named v c named.0 named.1 in
        let there = safe_there place.0 place.1 in
        subst (may_be_read machine allowed n) (sym (ap (λ (o : Option ℕ). unwrap_or o 0) place.1)) (readable place.0 named.0 place.2 there.0 there.1)))
        (called p.1.term) body.reads both)

    pub read_within : (n : ℕ) → Readable n
    read_within zero f g is none safe = (kind_of zero f g is safe, no_definition f g is none)
    read_within (suc n) f g is none safe = (
      kind_of (suc n) f g is safe,
      subst (DefinitionReadsOnly (may_be_read machine allowed n)) (sym (definition_at f g is)) (body_reads n (read_within n) f g is none safe (definition_named units g.name) refl),
    )

  -- no chain of more than 32 definitions begins at a function
  pub no_chain : call_faults v units ≡ [] → (f : ℕ) (g : Function) → slice_get v.functions f ≡ Some g → has_chain functions_graph 33 f ≡ false
  no_chain none f g is = by (definition_named units g.name) refl
    where
      too_deep : Thing → List Fault
      too_deep t = if has_chain functions_graph 33 t.1 then fault_at CallsTooDeep t.0.0 t.0.1 ∷ [] else []

      things_of : Of RawFunction → List Thing
      things_of p = map (λ (k : ℕ). ((p.0, p.1.name), k)) (to_list (function_place v p.1.name.text))

      none_deep : flat_map too_deep (flat_map things_of (definitions units)) ≡ []
      none_deep =
          none_left (deep functions_graph (defined_things v units)) (deep (rule_graph units) (rule_things units))
          (or_next_first (cycles functions_graph (defined_things v units) ++ cycles (rule_graph units) (rule_things units)) (deep functions_graph (defined_things v units) ++ deep (rule_graph units) (rule_things units)) none)

      by : (o : Option (Of RawFunction)) → definition_named units g.name ≡ o → has_chain functions_graph 33 f ≡ false
      by None e = chain_of_none functions_graph 31 f (ap calls_of (node_at f g is ∙ ap node_by e))
      by (Some p) e =
          (let at = find_place (λ (q : Of RawFunction). has_name g.name q.1.name) (definitions units) p e in
          let same = (bytes_eq-Decides p.1.name.text g.name).0 (find_passes (λ (q : Of RawFunction). has_name g.name q.1.name) (definitions units) p e) in
          let place : function_place v p.1.name.text ≡ Some f = ap (function_place v) same ∙ placed f g is in
          let own = subst (λ (o : Option ℕ). flat_map too_deep (map (λ (k : ℕ). ((p.0, p.1.name), k)) (to_list o)) ≡ []) place (none_within too_deep things_of (definitions units) at.0 p none_deep at.2) in
          fails (has_chain functions_graph 33 f) (fault_at CallsTooDeep p.0 p.1.name) (none_left (too_deep ((p.0, p.1.name), f)) [] own))

  -- no chain of definitions is longer than 32
  pub definitions_end : call_faults v units ≡ [] → (f : ℕ) (g : Function) → slice_get v.functions f ≡ Some g → may_be_read machine any_kind 32 f
  definitions_end none f g is = read_within any_kind (λ n f. Unit {0}) (λ n f g is safe. refl) (λ n f cs is safe. all cs) 32 f g is (no_chain none f g is) tt
    where
      all : (cs : List ℕ) → Every (λ (c : ℕ). Unit {0}) cs
      all [] = tt
      all (c ∷ cs) = (tt, all cs)

-- ---- rules

module _ (number : Name → ℕ) (v : Vocabulary) (units : List LoadedUnit) (fine : flat_map (macro_faults v (heads_of v units)) (rules units) ≡ []) where
  abbrev rules_graph : List Node
  rules_graph = rule_graph units

  rule_node_at : (f : ℕ) (q : DeclaredRule) → slice_get (rules units) f ≡ Some q → slice_index_or rules_graph f no_node ≡ rule_node units q
  rule_node_at f q is = get_or_from_slice_get rules_graph f (rule_node units q) no_node (slice_get-map (rule_node units) (rules units) f ∙ ap (option_map (rule_node units)) is)

  -- a rule that has a head has a place
  rule_of_head : (r : Name) (h : RuleHead) → head_named (heads_of v units) r ≡ Some h → (k : ℕ) × (q : DeclaredRule) × (rule_place units r ≡ Some k) × (slice_get (rules units) k ≡ Some q)
  rule_of_head r h is = by (find (λ (q : DeclaredRule). has_name r q.name) (rules units)) refl
    where
      by : (o : Option DeclaredRule) → find (λ (q : DeclaredRule). has_name r q.name) (rules units) ≡ o → (k : ℕ) × (q : DeclaredRule) × (rule_place units r ≡ Some k) × (slice_get (rules units) k ≡ Some q)
      by None e = absurd (no_some h (sym (ap (option_map (head_of v)) e) ∙ sym (head_found v (rules units) r) ∙ is))
      by (Some q) e = (let at = find_place (λ (q : DeclaredRule). has_name r q.name) (rules units) q e in (at.0, q, at.1, at.2))

  abbrev Callable : ℕ → Type 0
  Callable n = (f : ℕ) (q : DeclaredRule) → slice_get (rules units) f ≡ Some q → has_chain rules_graph (suc n) f ≡ false → may_be_called (machine_in number v units) n f

  -- a rule that begins no chain of so many rules may be called to that depth
  called_within : (n : ℕ) → Callable n
  called_within zero f q is none = true≢false (sym (ap (λ (z : Node). z.there) (rule_node_at f q is)) ∙ chain_one rules_graph f none)
  called_within (suc n) f q is none =
      let heads = rule_heads v (heads_of v units) q.unit q.body (within v q.unit q.parameters []) (none_right (binder_faults v q.unit q.parameters) (rule_faults v (heads_of v units) q.unit q.body (within v q.unit q.parameters [])) (none_at (macro_faults v (heads_of v units)) (rules units) f q fine is)) in
      let calls : calls_at rules_graph f ≡ numbers_of (rule_place units) (called_rules q.body) = ap calls_of (rule_node_at f q is) in
      let chains = of_names (λ (c : ℕ). has_chain rules_graph (suc n) c ≡ false) (rule_place units) (called_rules q.body) (chain_next rules_graph n f (numbers_of (rule_place units) (called_rules q.body)) calls none) in
      let body = rule_calls number v units (file_of number v units q.unit) (may_be_called (machine_in number v units) n) q.body
      (every_zip (HasHead v (heads_of v units) q.unit) (λ (c : Name). (k : ℕ) → rule_place units c ≡ Some k → has_chain rules_graph (suc n) k ≡ false) (λ (c : Name). may_be_called (machine_in number v units) n (unwrap_or (rule_place units c) 0))
      (λ c head chain. (let there = rule_of_head c head.0 head.1 in
      subst (may_be_called (machine_in number v units) n) (sym (ap (λ (o : Option ℕ). unwrap_or o 0) there.2)) (called_within n there.0 there.1 there.3 (chain there.0 there.2))))
      (called_rules q.body) heads chains) in
      subst (MacroCallsOnly (may_be_called (machine_in number v units) n)) (sym (slice_get-map (macro_of number v units) (rules units) f ∙ ap (option_map (macro_of number v units)) is)) body

  no_rule_chain : call_faults v units ≡ [] → (f : ℕ) (q : DeclaredRule) → slice_get (rules units) f ≡ Some q → has_chain rules_graph 33 f ≡ false
  no_rule_chain none f q is =
      let at : slice_get (rule_things units) f ≡ Some ((q.unit, q.name), 0 + f) =
      slice_get-map (λ (p : ℕ × DeclaredRule). ((p.1.unit, p.1.name), p.0)) (enumerate_from 0 (rules units)) f ∙ ap (option_map (λ (p : ℕ × DeclaredRule). ((p.1.unit, p.1.name), p.0))) (enumerated 0 (rules units) f q is) in
      let chain = fails (has_chain rules_graph 33 (0 + f)) (fault_at CallsTooDeep q.unit q.name) (none_at too_deep (rule_things units) f ((q.unit, q.name), 0 + f) none_deep at) in
      let same : 0 + f ≡ f = omega arith in
      subst (λ (k : ℕ). has_chain rules_graph 33 k ≡ false) same chain
    where
      too_deep : Thing → List Fault
      too_deep t = if has_chain rules_graph 33 t.1 then fault_at CallsTooDeep t.0.0 t.0.1 ∷ [] else []

      none_deep : flat_map too_deep (rule_things units) ≡ []
      none_deep =
          none_right (deep (function_graph v units) (defined_things v units)) (deep rules_graph (rule_things units))
          (or_next_first (cycles (function_graph v units) (defined_things v units) ++ cycles rules_graph (rule_things units)) (deep (function_graph v units) (defined_things v units) ++ deep rules_graph (rule_things units)) none)

  -- no chain of macro rules is longer than 32
  pub rules_end : call_faults v units ≡ [] → (f : ℕ) → may_be_called (machine_in number v units) 32 f
  rules_end none f = by (slice_get (rules units) f) refl
    where
      by : (o : Option DeclaredRule) → slice_get (rules units) f ≡ o → may_be_called (machine_in number v units) 32 f
      by None e = subst (MacroCallsOnly (may_be_called (machine_in number v units) 31)) (sym (slice_get-map (macro_of number v units) (rules units) f ∙ ap (option_map (macro_of number v units)) e)) tt
      by (Some q) e = called_within 32 f q e (no_rule_chain none f q e)
