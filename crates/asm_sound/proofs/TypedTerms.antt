-- Where nothing is wrong in a term, its tree has each type that the term fits.
use Rattle.std.proofs.Common.{◌≡◌, ℕ, suc, zero, ◌<◌, ◌≤◌, Bool as Truth, true, false, true≢false, ◌&&◌, ◌||◌, List, [], ◌∷◌, ◌++◌, length, Option, Some, None, nat_eq, if◌then◌else◌, slice_get, refl, sym, ap, ap₂, subst, ◌∙◌, arith}
use Rattle.std.specs.Prelude.{map}
use Rattle.std.specs.List.{position, flat_map, list_any}
use Rattle.std.specs.Option.{unwrap_or, option_map}
use Rattle.std.proofs.lemmas.Bool.{eqb-true as same_number, eq-eqb as number_same}
use Rattle.std.proofs.lemmas.List.Quantifiers.{position-Some}
use Rattle.std.proofs.lemmas.Option.{slice_get_within}
use Rattle.asm_domain.specs.declared.value.Value.{Value}
use Rattle.asm_domain.specs.declared.value.Value.TheVariants.{Undef, Bool, Int, Elem}
use Rattle.asm_domain.specs.Universe.{Universe, Truths, Numbers, Named, elements, named_from}
use Rattle.asm_domain.proofs.Elements.{get-named_from}
use Rattle.asm_sign.specs.Arguments.{elements_of}
use Rattle.asm_sign.specs.declared.function.DeclaredDomain.{DeclaredDomain}
use Rattle.asm_sign.specs.declared.function.Function.{Function}
use Rattle.asm_sign.specs.Vocabulary.{Vocabulary, AreNumbered}
use Rattle.asm_node.specs.declared.term_type.TermType.{TermType}
use Rattle.asm_node.specs.declared.term_type.TermType.TheVariants.{Boolean, Integer, ElementOf}
use Rattle.asm_node.specs.Machine.{element_named, same_name}
use Rattle.asm_node.specs.Tree as tree
use Rattle.asm_node.specs.Tree.{Tree, Trees}
use Rattle.asm_node.specs.Values.{whole, same, is_element, is_whole}
use Rattle.asm_node.specs.Types.{Types, Fits, IsConstant, domain_type, put_type, bound_types, HasType, HaveDomains, OperatorMakes}
use Rattle.asm_tree.specs.declared.operator.Op.{Op}
use Rattle.asm_tree.specs.declared.operator.Op.TheVariants as op
use Rattle.asm_tree.specs.declared.operator.UnaryOp.{UnaryOp}
use Rattle.asm_tree.specs.declared.operator.UnaryOp.TheVariants as unary
use Rattle.asm_tree.specs.declared.term.RawBinder.{RawBinder}
use Rattle.asm_tree.specs.declared.term.RawBind.{RawBind}
use Rattle.asm_tree.specs.declared.term.RawCase.{RawCase}
use Rattle.asm_tree.specs.declared.term.RawTerm.{RawTerm}
use Rattle.asm_tree.specs.declared.term.RawTermKind.{RawTermKind-F}
use Rattle.asm_faults.specs.declared.fault.Fault.{Fault}
use Rattle.asm_faults.specs.declared.fault.ModelFault.TheVariants.{Unknown, WrongArity, WrongType, Unbound}
use Rattle.asm_faults.specs.At.{Name, token}
use Rattle.asm_faults.specs.FunctionFaults.{unknown_domain}
use Rattle.asm_faults.specs.DomainFaults.{repeats}
use Rattle.asm_faults.specs.Terms.{Scope, Judged, judged, bound_type, joined, same_type, or_else, first_type, mismatch, asked, asked_each, alike, case_faults, variables_of, binder_faults, infinite_faults, within, within_let, let_faults, bind_faults, variable_faults, element_in, element_type, element_faults, function_place, function_named, call_type, arity_faults, call_faults, unary_gives, unary_asks, gives, asks, judge_kind, LetBound}
use Rattle.asm_faults.specs.Model.{IsNumbering, function_number, binders_of, op_of, unary_of, trees_of, switch_tree, let_tree, tree_kind, tree_of}
use Rattle.asm_sound.proofs.Inductions.{Every, Form, Parts, at_form, induct}
use Rattle.asm_sound.proofs.Folding.{judged_form, judged_at, tree_form, tree_at}
use Rattle.asm_sound.proofs.Scopes.{full, none_left, none_right, holds, Agrees, agrees_more, agrees_within, HasTruths}

-- the elements of the domain have a type
abbrev pub Typed : Vocabulary → ℕ → Type 0
Typed v d = (r : TermType) × (domain_type v.domains d ≡ Some r)

-- the domains of a vocabulary are few and numbered, and those of functions are declared
pub record IsReady (v : Vocabulary) : Type 0 where
  pub truths : HasTruths v
  pub few : length v.domains ≤ whole
  pub numbered : AreNumbered v.domains
  pub arguments : (f : ℕ) (g : Function) → slice_get v.functions f ≡ Some g → Every (Typed v) g.domains
  pub results : (f : ℕ) (g : Function) → slice_get v.functions f ≡ Some g → Typed v g.codomain

-- ---- types that fit

same_types : (r q : TermType) → same_type r q ≡ true → r ≡ q
same_types Boolean Boolean e = refl
same_types Boolean Integer e = absurd (true≢false (sym e))
same_types Boolean (ElementOf k) e = absurd (true≢false (sym e))
same_types Integer Boolean e = absurd (true≢false (sym e))
same_types Integer Integer e = refl
same_types Integer (ElementOf k) e = absurd (true≢false (sym e))
same_types (ElementOf d) Boolean e = absurd (true≢false (sym e))
same_types (ElementOf d) Integer e = absurd (true≢false (sym e))
same_types (ElementOf d) (ElementOf k) e = ap ElementOf (same_number d k e)

pub to_first : (a b : Option TermType) (r : TermType) → Fits (Some (or_else a b)) r → Fits (Some a) r
to_first None b r f = tt
to_first (Some q) b r f = f

assoc : (a b c : Option TermType) (r : TermType) → Fits (Some (or_else a (or_else b c))) r → Fits (Some (or_else (or_else a b) c)) r
assoc None b c r f = f
assoc (Some q) b c r f = f

some_type : (o : Option TermType) → (r : TermType) × Fits (Some o) r
some_type None = (Boolean, tt)
some_type (Some r) = (r, refl)

module _ (v : Vocabulary) (n : ℕ) where
  pub agree : (a : TermType) (own : Option TermType) (at : ℕ) (first : Name) → mismatch v n (Some a) own at first ≡ [] → Fits (Some own) a
  agree a None at first e = tt
  agree a (Some q) at first e = sym (same_types a q (holds (same_type a q) (token WrongType n at first) e))

  to_second : (a b : Option TermType) (at : ℕ) (first : Name) → mismatch v n a b at first ≡ [] → (r : TermType) → Fits (Some (or_else a b)) r → Fits (Some b) r
  to_second None b at first e r f = f
  to_second (Some q) b at first e r f = subst (λ (z : TermType). Fits (Some b) z) f (agree q b at first e)

  to_middle : (a b c : Option TermType) (at : ℕ) (first : Name) → mismatch v n a b at first ≡ [] → (r : TermType) → Fits (Some (or_else a (or_else b c))) r → Fits (Some b) r
  to_middle a b c at first e r f = to_second a b at first e r (to_first (or_else a b) c r (assoc a b c r f))

  pub pick : (a b : Option TermType) (at : ℕ) (first : Name) → mismatch v n a b at first ≡ [] → (r : TermType) × Fits (Some a) r × Fits (Some b) r
  pick a b at first e = let c = some_type (or_else a b) in (c.0, to_first a b c.0 c.1, to_second a b at first e c.0 c.1)

  pub asked_own : (a : Option TermType) (scope : Scope) (j : Judged) → asked v n a scope j ≡ [] → j.faults scope ≡ []
  asked_own a scope j e = none_left (j.faults scope) (mismatch v n a (j.type scope) j.at j.first) e

  pub asked_fits : (a : Option TermType) (scope : Scope) (j : Judged) → asked v n a scope j ≡ [] → mismatch v n a (j.type scope) j.at j.first ≡ []
  asked_fits a scope j e = none_right (j.faults scope) (mismatch v n a (j.type scope) j.at j.first) e

-- ---- elements

pub no_some : {A : Type 0} (x : A) → (◌≡◌ {A = Option A} None (Some x)) → ⊥
no_some x e = cc e

or_true : (b : Truth) → (b || true) ≡ true
or_true true = refl
or_true false = refl

any_element : (d k : ℕ) (xs : List Value) (i : ℕ) → slice_get xs i ≡ Some (Elem d k) → list_any (λ w. same w (Elem d k)) xs ≡ true
any_element d k [] i e = absurd (no_some (Elem d k) e)
any_element d k (x ∷ xs) zero e =
    let p : x ≡ Elem d k = cc e in
    ap (λ (w : Value). same w (Elem d k) || list_any (λ y. same y (Elem d k)) xs) p ∙ ap (λ (b : Truth). b || list_any (λ y. same y (Elem d k)) xs) (ap₂ ◌&&◌ (number_same d d refl) (number_same k k refl))
any_element d k (x ∷ xs) (suc i) e = ap (λ (b : Truth). same x (Elem d k) || b) (any_element d k xs i e) ∙ or_true (same x (Elem d k))

-- where an element is found
pub record IsFound (domains : List DeclaredDomain) (d k : ℕ) : Type 0 where
  pub place : ℕ
  pub declared : DeclaredDomain
  pub names : List Name
  pub at_place : slice_get domains place ≡ Some declared
  pub is_named : declared.domain ≡ Named d names
  pub within : k < length names

abbrev next_of : Value → Value → Value
next_of Undef next = next
next_of element next = element

behind : (x : DeclaredDomain) (ds : List DeclaredDomain) (d k : ℕ) → IsFound ds d k → IsFound (x ∷ ds) d k
behind x ds d k f = record { place = suc f.place; declared = f.declared; names = f.names; at_place = f.at_place; is_named = f.is_named; within = f.within }

found_here : (x : DeclaredDomain) (ds : List DeclaredDomain) (e : Name) (d k : ℕ) → (element_in ds e ≡ Elem d k → IsFound ds d k) → (u : Universe) → x.domain ≡ u → next_of (element_named e u) (element_in ds e) ≡ Elem d k → IsFound (x ∷ ds) d k
found_here x ds e d k later Truths is q = behind x ds d k (later q)
found_here x ds e d k later (Numbers numbers) is q = behind x ds d k (later q)
found_here x ds e d k later (Named number names) is q = by (position (same_name e) names) refl q
  where
    by : (o : Option ℕ) → position (same_name e) names ≡ o → next_of (unwrap_or (option_map (λ (rank : ℕ). Elem number rank) o) Undef) (element_in ds e) ≡ Elem d k → IsFound (x ∷ ds) d k
    by None p r = behind x ds d k (later r)
    by (Some rank) p r =
        (let same_d : number ≡ d = cc r in
        let same_k : rank ≡ k = cc r in
        record { place = 0; declared = x; names = names; at_place = refl; is_named = is ∙ ap (λ (z : ℕ). Named z names) same_d; within = subst (λ (z : ℕ). z < length names) same_k (position-Some (same_name e) names rank e p).0 })

found_in : (ds : List DeclaredDomain) (e : Name) (d k : ℕ) → element_in ds e ≡ Elem d k → IsFound ds d k
found_in [] e d k q = absurd (cc q)
found_in (x ∷ ds) e d k q = found_here x ds e d k (found_in ds e d k) x.domain refl q

pub below_whole : (d : ℕ) → (d ≡ whole → ⊥) → nat_eq d whole ≡ false
below_whole d f = by (nat_eq d whole) refl
  where
    by : (b : Truth) → nat_eq d whole ≡ b → nat_eq d whole ≡ false
    by true e = absurd (f (same_number d whole e))
    by false e = e

pub is_declared_element : (v : Vocabulary) → IsReady v → (e : Name) (d k : ℕ) → element_in v.domains e ≡ Elem d k → is_element v.domains d (Elem d k) ≡ true
is_declared_element v ready e d k q =
    let f = found_in v.domains e d k q in
    let place : d ≡ f.place = ready.numbered.number_is f.place d f.names f.declared f.at_place f.is_named in
    let below = slice_get_within v.domains f.place f.declared f.at_place in
    let other : nat_eq d whole ≡ false = below_whole d (λ same_whole. omega (arith, place, below, ready.few, same_whole)) in
    let has = get-named_from d 0 f.names k f.within in
    let at_k : slice_get (named_from d 0 f.names) k ≡ Some (Elem d k) = has ∙ ap (λ (z : ℕ). Some (Elem d z)) (omega arith) in
    let elements_are : elements_of (slice_get v.domains d) ≡ named_from d 0 f.names = ap (λ (z : ℕ). elements_of (slice_get v.domains z)) place ∙ ap elements_of f.at_place ∙ ap elements f.is_named in
    ap (λ (b : Truth). if b then is_whole (Elem d k) else list_any (λ w. same w (Elem d k)) (elements_of (slice_get v.domains d))) other
    ∙ ap (list_any (λ w. same w (Elem d k))) elements_are ∙ any_element d k (named_from d 0 f.names) k at_k

-- ---- operators

module _ (number : Name → ℕ) (v : Vocabulary) (n : ℕ) where
  unary_makes : (o : UnaryOp) (r : TermType) → Fits (Some (unary_asks v n o)) r → (s : TermType) → unary_gives v n o ≡ s → OperatorMakes (unary_of number v o) (r ∷ []) s
  unary_makes unary.Not r a s f = (ap (λ (z : TermType). z ∷ []) (sym a), sym f)
  unary_makes unary.Negate r a s f = (ap (λ (z : TermType). z ∷ []) (sym a), sym f)
  unary_makes unary.Abs r a s f = (ap (λ (z : TermType). z ∷ []) (sym a), sym f)
  unary_makes unary.IsDefined r a s f = ((r, refl), sym f)
  unary_makes unary.IsUndefined r a s f = ((r, refl), sym f)

  binary_makes : (o : Op) (r : TermType) → Fits (Some (asks v n o)) r → (s : TermType) → gives v n o ≡ s → OperatorMakes (op_of number v o) (r ∷ r ∷ []) s
  binary_makes op.Iff r a s f = (ap (λ (z : TermType). z ∷ z ∷ []) (sym a), sym f)
  binary_makes op.Implies r a s f = (ap (λ (z : TermType). z ∷ z ∷ []) (sym a), sym f)
  binary_makes op.Or r a s f = (ap (λ (z : TermType). z ∷ z ∷ []) (sym a), sym f)
  binary_makes op.Xor r a s f = (ap (λ (z : TermType). z ∷ z ∷ []) (sym a), sym f)
  binary_makes op.And r a s f = (ap (λ (z : TermType). z ∷ z ∷ []) (sym a), sym f)
  binary_makes op.Equal r a s f = ((r, refl), sym f)
  binary_makes op.NotEqual r a s f = ((r, refl), sym f)
  binary_makes op.Less r a s f = (ap (λ (z : TermType). z ∷ z ∷ []) (sym a), sym f)
  binary_makes op.LessEqual r a s f = (ap (λ (z : TermType). z ∷ z ∷ []) (sym a), sym f)
  binary_makes op.Greater r a s f = (ap (λ (z : TermType). z ∷ z ∷ []) (sym a), sym f)
  binary_makes op.GreaterEqual r a s f = (ap (λ (z : TermType). z ∷ z ∷ []) (sym a), sym f)
  binary_makes op.Plus r a s f = (ap (λ (z : TermType). z ∷ z ∷ []) (sym a), sym f)
  binary_makes op.Minus r a s f = (ap (λ (z : TermType). z ∷ z ∷ []) (sym a), sym f)
  binary_makes op.Times r a s f = (ap (λ (z : TermType). z ∷ z ∷ []) (sym a), sym f)
  binary_makes op.Mod r a s f = (ap (λ (z : TermType). z ∷ z ∷ []) (sym a), sym f)
  binary_makes op.Idiv r a s f = (ap (λ (z : TermType). z ∷ z ∷ []) (sym a), sym f)
  binary_makes op.Min r a s f = (ap (λ (z : TermType). z ∷ z ∷ []) (sym a), sym f)
  binary_makes op.Max r a s f = (ap (λ (z : TermType). z ∷ z ∷ []) (sym a), sym f)

-- ---- functions

abbrev function_at_place : Vocabulary → Option ℕ → Option Function
function_at_place v None = None
function_at_place v (Some f) = slice_get v.functions f

pub function_found : (number : Name → ℕ) (v : Vocabulary) (f : Name) (g : Function) → function_named v f ≡ Some g → slice_get v.functions (function_number number v f) ≡ Some g
function_found number v f g e = by (function_place v f) refl
  where
    by : (o : Option ℕ) → function_place v f ≡ o → slice_get v.functions (function_number number v f) ≡ Some g
    by None p = absurd (no_some g (sym (ap (function_at_place v) p) ∙ e))
    by (Some k) p = ap (λ (o : Option ℕ). slice_get v.functions (unwrap_or o 0)) p ∙ (sym (ap (function_at_place v) p) ∙ e)

-- ---- terms

module _ (number : Name → ℕ) (numbering : IsNumbering number) (v : Vocabulary) (ready : IsReady v) (n : ℕ) where
  -- the tree has each type that the term fits, in each scope in which nothing is wrong with the term
  abbrev pub Sound : Judged → Tree → Type 0
  Sound j u = (scope : Scope) (types : Types) → Agrees number scope types → j.faults scope ≡ [] → (s : TermType) → Fits (Some (j.type scope)) s → HasType v types u s

  abbrev pub SoundTerm : RawTerm → Type 0
  SoundTerm t = Sound (judged v n t) (tree_of number v t)

  pub asked_typed : (a : TermType) (j : Judged) (u : Tree) → Sound j u → (scope : Scope) (types : Types) → Agrees number scope types → asked v n (Some a) scope j ≡ [] → HasType v types u a
  asked_typed a j u sound scope types agrees e = sound scope types agrees (asked_own v n (Some a) scope j e) a (agree v n a (j.type scope) j.at j.first (asked_fits v n (Some a) scope j e))

  -- one argument for each domain
  pub arguments_typed : (ds : List ℕ) (ts : List RawTerm) → Every (Typed v) ds → Every SoundTerm ts → (scope : Scope) (types : Types) → Agrees number scope types
      → length ds ≡ length (map (judged v n) ts) → asked_each v n (map (domain_type v.domains) ds) scope (map (judged v n) ts) ≡ [] → HaveDomains v types (trees_of number v (map (tree_of number v) ts)) ds
  arguments_typed [] [] known sound scope types agrees same_length e = tt
  arguments_typed [] (t ∷ ts) known sound scope types agrees same_length e = absurd (omega (arith, same_length))
  arguments_typed (d ∷ ds) [] known sound scope types agrees same_length e = absurd (omega (arith, same_length))
  arguments_typed (d ∷ ds) (t ∷ ts) known sound scope types agrees same_length e =
      let own = none_left (asked v n (domain_type v.domains d) scope (judged v n t)) (asked_each v n (map (domain_type v.domains) ds) scope (map (judged v n) ts)) e in
      let others = none_right (asked v n (domain_type v.domains d) scope (judged v n t)) (asked_each v n (map (domain_type v.domains) ds) scope (map (judged v n) ts)) e in (
        (known.0.0, known.0.1, asked_typed known.0.0 (judged v n t) (tree_of number v t) sound.0 scope types agrees (subst (λ (o : Option TermType). asked v n o scope (judged v n t) ≡ []) known.0.1 own)),
        arguments_typed ds ts known.1 sound.1 scope types agrees (omega (arith, same_length)) others,
      )

  -- the arguments of a function that is declared
  pub actuals_typed : (at : ℕ) (f : Name) (ts : List RawTerm) → Every SoundTerm ts → (scope : Scope) (types : Types) → Agrees number scope types
      → (g : Function) → function_named v f ≡ Some g → call_faults v n at f scope (map (judged v n) ts) (Some g) ≡ [] → HaveDomains v types (trees_of number v (map (tree_of number v) ts)) g.domains
  actuals_typed at f ts sound scope types agrees g is e =
      let js : List Judged = map (judged v n) ts in
      let arity = holds (nat_eq (length g.domains) (length js)) (token WrongArity n at f) (none_left (arity_faults v n at f (length g.domains) (length js)) (asked_each v n (map (domain_type v.domains) g.domains) scope js) e) in
      let others = none_right (arity_faults v n at f (length g.domains) (length js)) (asked_each v n (map (domain_type v.domains) g.domains) scope js) e in
      arguments_typed g.domains ts (ready.arguments (function_number number v f) g (function_found number v f g is)) sound scope types agrees (same_number (length g.domains) (length js) arity) others

  call_typed : (at : ℕ) (f : Name) (ts : List RawTerm) → Every SoundTerm ts → (scope : Scope) (types : Types) → Agrees number scope types
      → (o : Option Function) → function_named v f ≡ o → call_faults v n at f scope (map (judged v n) ts) o ≡ [] → (s : TermType) → Fits (Some (call_type v n o)) s
      → HasType v types (tree.Get (function_number number v f) (trees_of number v (map (tree_of number v) ts))) s
  call_typed at f ts sound scope types agrees None is e s fits = absurd (full (token Unknown n at f) (asked_each v n [] scope (map (judged v n) ts)) e)
  call_typed at f ts sound scope types agrees (Some g) is e s fits =
      let here = function_found number v f g is in
      let result = ready.results (function_number number v f) g here in
      (g, here, actuals_typed at f ts sound scope types agrees g is e, result.1 ∙ ap (λ (z : TermType). Some z) (subst (λ (o : Option TermType). Fits (Some o) s) result.1 fits))

  variable_typed : (at : ℕ) (x : Name) (s : TermType) (o : Option (Option TermType)) → variable_faults v n at x o ≡ [] → Fits (Some (joined o)) s → Fits o s
  variable_typed at x s None e f = absurd (full (token Unbound n at x) [] e)
  variable_typed at x s (Some type) e f = f

  element_typed : (at : ℕ) (x : Name) (s : TermType) (o : Value) → element_in v.domains x ≡ o → element_faults v n at x (element_type o) ≡ [] → Fits (Some (element_type o)) s → IsConstant v.domains o s
  element_typed at x s Undef is e f = absurd (full (token Unknown n at x) [] e)
  element_typed at x s (Bool b) is e f = absurd (full (token Unknown n at x) [] e)
  element_typed at x s (Int z) is e f = absurd (full (token Unknown n at x) [] e)
  element_typed at x s (Elem d k) is e f = (sym f, is_declared_element v ready x d k is)

  abbrev judged_case : RawCase → Judged × Judged
  judged_case c = (judged v n c.label, judged v n c.value)

  abbrev case_trees : RawCase → Tree × Tree
  case_trees c = (tree_of number v c.label, tree_of number v c.value)

  abbrev values : List RawCase → Judged → List Judged
  values cs k = map (λ (c : Judged × Judged). c.1) (map judged_case cs) ++ k ∷ []

  switch_typed : (u : Tree) (cs : List RawCase) → Every (λ (c : RawCase). SoundTerm c.label × SoundTerm c.value) cs → (k : Judged) (other : Tree) → Sound k other
      → (scope : Scope) (types : Types) → Agrees number scope types → (label value : Option TermType) → ((r : TermType) → Fits (Some label) r → HasType v types u r)
      → case_faults v n label value scope (map judged_case cs) k ≡ [] → (s : TermType) → Fits (Some (or_else value (first_type scope (values cs k)))) s
      → HasType v types (switch_tree number v u (map case_trees cs) other) s
  switch_typed u [] sound k other last scope types agrees label value guard e s f =
      last scope types agrees (asked_own v n value scope k e) s (to_middle v n value (k.type scope) None k.at k.first (asked_fits v n value scope k e) s f)
  switch_typed u (c ∷ cs) sound k other last scope types agrees label value guard e s f =
      let l : Judged = judged v n c.label in
      let j : Judged = judged v n c.value in
      let later : List Fault = case_faults v n (or_else label (l.type scope)) (or_else value (j.type scope)) scope (map judged_case cs) k in
      let of_label = none_left (asked v n label scope l) (asked v n value scope j ++ later) e in
      let rest = none_right (asked v n label scope l) (asked v n value scope j ++ later) e in
      let of_value = none_left (asked v n value scope j) later rest in
      let p = pick v n label (l.type scope) l.at l.first (asked_fits v n label scope l of_label) in (
        (p.0 ∷ p.0 ∷ [], (guard p.0 p.1, (sound.0.0 scope types agrees (asked_own v n label scope l of_label) p.0 p.2, tt)), ((p.0, refl), refl)),
        sound.0.1 scope types agrees (asked_own v n value scope j of_value) s (to_middle v n value (j.type scope) (first_type scope (values cs k)) j.at j.first (asked_fits v n value scope j of_value) s f),
        switch_typed u cs sound.1 k other last scope types agrees (or_else label (l.type scope)) (or_else value (j.type scope)) (λ r fits. guard r (to_first label (l.type scope) r fits)) (none_right (asked v n value scope j) later rest) s
            (assoc value (j.type scope) (first_type scope (values cs k)) s f),
      )

  abbrev judged_bind : RawBind → LetBound v n
  judged_bind b = (b.variable, judged v n b.term)

  let_typed : (bs : List RawBind) → Every (λ (b : RawBind). SoundTerm b.term) bs → (j : Judged) (u : Tree) → Sound j u → (scope : Scope) (types : Types) → Agrees number scope types
      → bind_faults v n (map judged_bind bs) scope ≡ [] → j.faults (within_let v n (map judged_bind bs) scope) ≡ [] → (s : TermType) → Fits (Some (j.type (within_let v n (map judged_bind bs) scope))) s
      → HasType v types (let_tree number v (map (λ (b : RawBind). (b.variable.text, tree_of number v b.term)) bs) u) s
  let_typed [] sound j u body scope types agrees e d s f = body scope types agrees d s f
  let_typed (b ∷ bs) sound j u body scope types agrees e d s f =
      let own : Option TermType = (judged v n b.term).type scope in
      let inner : Scope = scope ++ record { name = b.variable.text; type = own } ∷ [] in
      let here = none_left ((judged v n b.term).faults scope) (bind_faults v n (map judged_bind bs) inner) e in
      let others = none_right ((judged v n b.term).faults scope) (bind_faults v n (map judged_bind bs) inner) e in (
        own,
        λ r fits. sound.0 scope types agrees here r fits,
        let_typed bs sound.1 j u body inner (put_type (number b.variable.text) (Some own) types) (agrees_more number numbering scope types b.variable.text own agrees) others d s f,
      )

  form_typed : (at : ℕ) (first : Name) (k : Form) → Parts SoundTerm k → Sound (judge_kind v n (judged_form v n k) at first) (tree_kind number v (tree_form number v k))
  form_typed at first (RawTermKind-F.Number x) h scope types agrees e s f = sym f
  form_typed at first (RawTermKind-F.Truth b) h scope types agrees e s f = sym f
  form_typed at first RawTermKind-F.Undef h scope types agrees e s f = tt
  form_typed at first (RawTermKind-F.Variable x) h scope types agrees e s f = subst (λ (o : Option (Option TermType)). Fits o s) (sym (agrees x)) (variable_typed at x s (bound_type scope x) e f)
  form_typed at first (RawTermKind-F.Element x) h scope types agrees e s f = element_typed at x s (element_in v.domains x) refl e f
  form_typed at first (RawTermKind-F.Call g ts) h scope types agrees e s f = call_typed at g ts h scope types agrees (function_named v g) refl e s f
  form_typed at first (RawTermKind-F.Unary o t) h scope types agrees e s f =
      let j : Judged = judged v n t in
      let p = pick v n (unary_asks v n o) (j.type scope) j.at j.first (asked_fits v n (unary_asks v n o) scope j e) in
      (p.0 ∷ [], (h scope types agrees (asked_own v n (unary_asks v n o) scope j e) p.0 p.2, tt), unary_makes number v n o p.0 p.1 s f)
  form_typed at first (RawTermKind-F.Binary o t u) h scope types agrees e s f =
      let j : Judged = judged v n t in
      let k : Judged = judged v n u in
      let both : Option TermType = or_else (asks v n o) (j.type scope) in
      let of_first = none_left (asked v n (asks v n o) scope j) (asked v n both scope k ++ []) e in
      let of_second = none_left (asked v n both scope k) [] (none_right (asked v n (asks v n o) scope j) (asked v n both scope k ++ []) e) in
      let p = pick v n both (k.type scope) k.at k.first (asked_fits v n both scope k of_second) in (
        p.0 ∷ p.0 ∷ [],
        (
          h.0 scope types agrees (asked_own v n (asks v n o) scope j of_first) p.0 (to_second v n (asks v n o) (j.type scope) j.at j.first (asked_fits v n (asks v n o) scope j of_first) p.0 p.1),
          (h.1 scope types agrees (asked_own v n both scope k of_second) p.0 p.2, tt),
        ),
        binary_makes number v n o p.0 (to_first (asks v n o) (j.type scope) p.0 p.1) s f,
      )
  form_typed at first (RawTermKind-F.Cond g t u) h scope types agrees e s f =
      let i : Judged = judged v n g in
      let j : Judged = judged v n t in
      let k : Judged = judged v n u in
      let of_guard = none_left (asked v n (Some Boolean) scope i) (alike v n None scope (j ∷ k ∷ [])) e in
      let rest = none_right (asked v n (Some Boolean) scope i) (alike v n None scope (j ∷ k ∷ [])) e in
      let of_first = none_left (asked v n None scope j) (asked v n (j.type scope) scope k ++ []) rest in
      let of_second = none_left (asked v n (j.type scope) scope k) [] (none_right (asked v n None scope j) (asked v n (j.type scope) scope k ++ []) rest) in (
        asked_typed Boolean i (tree_of number v g) h.0 scope types agrees of_guard,
        h.1 scope types agrees (asked_own v n None scope j of_first) s (to_first (j.type scope) (or_else (k.type scope) None) s f),
        h.2 scope types agrees (asked_own v n (j.type scope) scope k of_second) s (to_middle v n (j.type scope) (k.type scope) None k.at k.first (asked_fits v n (j.type scope) scope k of_second) s f),
      )
  form_typed at first (RawTermKind-F.Switch t cs u) h scope types agrees e s f =
      let j : Judged = judged v n t in
      let k : Judged = judged v n u in
      let own = none_left (j.faults scope) (case_faults v n (j.type scope) None scope (map judged_case cs) k) e in
      let others = none_right (j.faults scope) (case_faults v n (j.type scope) None scope (map judged_case cs) k) e in
      switch_typed (tree_of number v t) cs h.1 k (tree_of number v u) h.2 scope types agrees (j.type scope) None (λ r fits. h.0 scope types agrees own r fits) others s f
  form_typed at first (RawTermKind-F.Let bs t) h scope types agrees e s f =
      let j : Judged = judged v n t in
      let bound : List (LetBound v n) = map judged_bind bs in
      let own = none_left (let_faults v n bound scope) (j.faults (within_let v n bound scope)) e in
      let body = none_right (let_faults v n bound scope) (j.faults (within_let v n bound scope)) e in
      let terms = none_right (repeats [] (map (λ (b : LetBound v n). (n, b.0)) bound)) (bind_faults v n bound scope) own in
      let_typed bs h.0 j (tree_of number v t) h.1 scope types agrees terms body s f
  form_typed at first (RawTermKind-F.Quant q bs g) h scope types agrees e s f =
      let j : Judged = judged v n g in
      let inner : Scope = within v n bs scope in
      let own = none_left (binder_faults v n bs) (infinite_faults v n bs ++ asked v n (Some Boolean) inner j) e in
      let others = none_right (binder_faults v n bs) (infinite_faults v n bs ++ asked v n (Some Boolean) inner j) e in
      let domains_known = none_right (repeats [] (variables_of v n bs)) (flat_map (λ (b : RawBinder). unknown_domain v.domains n b.domain) bs) own in (
        asked_typed Boolean j (tree_of number v g) h inner (bound_types v.domains (binders_of number v bs) types) (agrees_within number numbering v n ready.truths bs scope types agrees domains_known) (none_right (infinite_faults v n bs) (asked v n (Some Boolean) inner j) others),
        sym f,
      )

  -- where nothing is wrong in a term, its tree has each type that it fits
  pub term_typed : (t : RawTerm) → SoundTerm t
  term_typed =
      induct SoundTerm (λ at first k h.
      subst (λ (u : Tree). Sound (judged v n (at_form at first k)) u) (sym (tree_at number v at first k))
      (subst (λ (j : Judged). Sound j (tree_kind number v (tree_form number v k))) (sym (judged_at v n at first k)) (form_typed at first k h)))

  pub terms_typed : (ts : List RawTerm) → Every SoundTerm ts
  terms_typed [] = tt
  terms_typed (t ∷ ts) = (term_typed t, terms_typed ts)
