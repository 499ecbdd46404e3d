-- Where nothing is wrong in a rule, its tree is well typed.
use Rattle.std.proofs.Common.{◌≡◌, ℕ, cond, List, [], ◌∷◌, ◌++◌, length, Option, Some, None, nat_eq, slice_get, refl, sym, ap, subst, ◌∙◌}
use Rattle.std.proofs.Math.ListN.{length-map}
use Rattle.std.specs.Prelude.{map}
use Rattle.std.specs.List.{flat_map}
use Rattle.std.specs.Option.{unwrap_or}
use Rattle.std.proofs.lemmas.Bool.{eqb-true as same_number}
use Rattle.asm_source.specs.declared.sources.Place.{Place}
use Rattle.asm_sign.specs.declared.function.Function.{Function}
use Rattle.asm_sign.specs.Kind.{is_kept}
use Rattle.asm_sign.specs.Vocabulary.{Vocabulary}
use Rattle.asm_node.specs.declared.term.Binder.{Binder}
use Rattle.asm_node.specs.declared.term_type.TermType.{TermType}
use Rattle.asm_node.specs.declared.term_type.TermType.TheVariants.{Boolean}
use Rattle.asm_node.specs.Machine.{Macro}
use Rattle.asm_node.specs.Tree.{Tree}
use Rattle.asm_node.specs.RuleTree as rule
use Rattle.asm_node.specs.RuleTree.{Rule}
use Rattle.asm_node.specs.Types.{Types, Fits, domain_type, put_type, bound_types, HasType, IsTypedRule, AreTypedRules}
use Rattle.asm_tree.specs.declared.term.RawBinder.{RawBinder}
use Rattle.asm_tree.specs.declared.term.RawBind.{RawBind}
use Rattle.asm_tree.specs.declared.term.RawTerm.{RawTerm}
use Rattle.asm_tree.specs.declared.rule.RawRule.{RawRule}
use Rattle.asm_tree.specs.declared.rule.RawRuleCase.{RawRuleCase}
use Rattle.asm_tree.specs.declared.rule.RawRuleKind.{RawRuleKind-F}
use Rattle.asm_tree.specs.declared.unit.LoadedUnit.{LoadedUnit}
use Rattle.asm_faults.specs.declared.fault.Fault.{Fault}
use Rattle.asm_faults.specs.declared.fault.ModelFault.TheVariants.{Unknown, WrongKind, WrongArity}
use Rattle.asm_faults.specs.At.{Name, token}
use Rattle.asm_faults.specs.FunctionFaults.{unknown_domain}
use Rattle.asm_faults.specs.DomainFaults.{repeats}
use Rattle.asm_faults.specs.Terms.{Scope, Judged, judged, or_else, asked, asked_each, binder_faults, infinite_faults, variables_of, within, within_let, let_faults, bind_faults, function_named, arity_faults, call_faults, LetBound}
use Rattle.asm_faults.specs.Calls.{rule_place}
use Rattle.asm_faults.specs.Bodies.{RuleHead, head_named, Faults, update_faults, rule_call_faults, case_faults, kind_faults, rule_faults}
use Rattle.asm_faults.specs.Model.{IsNumbering, function_number, rule_number, place_at, binders_of, trees_of, parts_of, sequence, sequence_of, switch_rule, let_rule, rule_kind, rule_of, tree_of}
use Rattle.asm_sound.proofs.Inductions.{Every}
use Rattle.asm_sound.proofs.Scopes.{full, none_left, none_right, holds, Agrees, agrees_more, agrees_within}
use Rattle.asm_sound.proofs.TypedTerms.{Typed, IsReady, pick, to_first, asked_own, asked_fits, asked_typed, arguments_typed, actuals_typed, function_found, term_typed, terms_typed}
use Rattle.asm_sound.proofs.RuleForms.{RuleForm, RuleParts, rule_at, induct_rules, faults_form, faults_at, rule_form, rule_is}

-- the macro rule of a head: its parameters have domains of the types that the head says
pub record HasMacro (number : Name → ℕ) (v : Vocabulary) (units : List LoadedUnit) (macros : List Macro) (r : Name) (h : RuleHead) : Type 0 where
  pub macro : Macro
  pub is_macro : slice_get macros (unwrap_or (rule_place units r) 0) ≡ Some macro
  pub types : h.types ≡ map (domain_type v.domains) (map (λ (p : Binder). p.domain) macro.parameters)
  pub known : Every (Typed v) (map (λ (p : Binder). p.domain) macro.parameters)

-- each head is that of a macro rule
abbrev pub Belong : (Name → ℕ) → Vocabulary → List LoadedUnit → List RuleHead → List Macro → Type 0
Belong number v units heads macros = (r : Name) (h : RuleHead) → head_named heads r ≡ Some h → HasMacro number v units macros r h

module _ (number : Name → ℕ) (numbering : IsNumbering number) (v : Vocabulary) (ready : IsReady v) (units : List LoadedUnit) (heads : List RuleHead) (macros : List Macro) (belong : Belong number v units heads macros) (n file : ℕ) where
  abbrev place : ℕ → Place
  place at = place_at number v units file at

  abbrev judged_terms : List RawTerm → List Judged
  judged_terms ts = map (judged v n) ts

  abbrev trees : List RawTerm → List Tree
  trees ts = map (tree_of number v) ts

  -- the tree is well typed in each scope in which nothing is wrong with the rule
  abbrev pub SoundFaults : Faults v heads n → Rule → Type 0
  SoundFaults faults p = (scope : Scope) (types : Types) → Agrees number scope types → faults scope ≡ [] → IsTypedRule v macros types p

  abbrev pub SoundRule : RawRule → Type 0
  SoundRule r = SoundFaults (rule_faults v heads n r) (rule_of number v units file r)

  typed_in : (t : RawTerm) (scope : Scope) (types : Types) → Agrees number scope types → (a : TermType) → asked v n (Some a) scope (judged v n t) ≡ [] → HasType v types (tree_of number v t) a
  typed_in t scope types agrees a e = asked_typed number numbering v ready n a (judged v n t) (tree_of number v t) (term_typed number numbering v ready n t) scope types agrees e

  update_typed : (at : ℕ) (f : Name) (ts : List RawTerm) (t : RawTerm) (scope : Scope) (types : Types) → Agrees number scope types → (o : Option Function) → function_named v f ≡ o
      → update_faults v heads n at f scope ts t o ≡ [] → IsTypedRule v macros types (rule.Update (place at) (function_number number v f) (trees_of number v (trees ts)) (tree_of number v t))
  update_typed at f ts t scope types agrees None is e =
      absurd (full (token Unknown n at f) (asked_each v n [] scope (judged_terms ts)) (none_left (call_faults v n at f scope (judged_terms ts) None) (asked v n None scope (judged v n t)) e))
  update_typed at f ts t scope types agrees (Some g) is e =
      let kept : List Fault = cond (is_kept g.kind) [] (token WrongKind n at f ∷ []) in
      let call : List Fault = call_faults v n at f scope (judged_terms ts) (Some g) in
      let value : List Fault = asked v n (domain_type v.domains g.codomain) scope (judged v n t) in
      let rest = none_right kept (call ++ value) e in
      let here = function_found number v f g is in
      let result = ready.results (function_number number v f) g here in (
        g,
        here,
        holds (is_kept g.kind) (token WrongKind n at f) (none_left kept (call ++ value) e),
        actuals_typed number numbering v ready n at f ts (terms_typed number numbering v ready n ts) scope types agrees g is (none_left call value rest),
        (result.0, result.1, typed_in t scope types agrees result.0 (subst (λ (o : Option TermType). asked v n o scope (judged v n t) ≡ []) result.1 (none_right call value rest))),
      )

  call_typed : (at : ℕ) (r : Name) (ts : List RawTerm) (scope : Scope) (types : Types) → Agrees number scope types → (o : Option RuleHead) → head_named heads r ≡ o
      → rule_call_faults v heads n at r scope ts o ≡ [] → IsTypedRule v macros types (rule.Call (place at) (rule_number number v units file r) (trees_of number v (trees ts)))
  call_typed at r ts scope types agrees None is e = absurd (full (token Unknown n at r) (asked_each v n [] scope (judged_terms ts)) e)
  call_typed at r ts scope types agrees (Some h) is e =
      let m = belong r h is in
      let ds : List ℕ = map (λ (p : Binder). p.domain) m.macro.parameters in
      let arity : List Fault = arity_faults v n at r (length h.types) (length ts) in
      let same = same_number (length h.types) (length ts) (holds (nat_eq (length h.types) (length ts)) (token WrongArity n at r) (none_left arity (asked_each v n h.types scope (judged_terms ts)) e)) in
      let lengths : length ds ≡ length (judged_terms ts) = sym (length-map ds (domain_type v.domains)) ∙ sym (ap length m.types) ∙ same ∙ sym (length-map ts (judged v n)) in (
        m.macro,
        m.is_macro,
        arguments_typed number numbering v ready n ds ts m.known (terms_typed number numbering v ready n ts) scope types agrees lengths
            (subst (λ (types : List (Option TermType)). asked_each v n types scope (judged_terms ts) ≡ []) m.types (none_right arity (asked_each v n h.types scope (judged_terms ts)) e)),
      )

  parts_typed : (rs : List RawRule) → Every SoundRule rs → (scope : Scope) (types : Types) → Agrees number scope types → flat_map (λ (p : Faults v heads n). p scope) (map (rule_faults v heads n) rs) ≡ []
      → AreTypedRules v macros types (parts_of number v units file (map (rule_of number v units file) rs))
  parts_typed [] sound scope types agrees e = tt
  parts_typed (r ∷ rs) sound scope types agrees e =
      let others : List Fault = flat_map (λ (p : Faults v heads n). p scope) (map (rule_faults v heads n) rs) in
      (sound.0 scope types agrees (none_left (rule_faults v heads n r scope) others e), parts_typed rs sound.1 scope types agrees (none_right (rule_faults v heads n r scope) others e))

  sequence_typed : (at : ℕ) (p : Rule) (rs : List RawRule) → Every SoundRule rs → (scope : Scope) (types : Types) → Agrees number scope types → IsTypedRule v macros types p
      → flat_map (λ (q : Faults v heads n). q scope) (map (rule_faults v heads n) rs) ≡ [] → IsTypedRule v macros types (sequence number v units file (place at) p (map (rule_of number v units file) rs))
  sequence_typed at p [] sound scope types agrees before e = before
  sequence_typed at p (r ∷ rs) sound scope types agrees before e =
      let others : List Fault = flat_map (λ (q : Faults v heads n). q scope) (map (rule_faults v heads n) rs) in
      sequence_typed at (rule.Seq (place at) p (rule_of number v units file r)) rs sound.1 scope types agrees
      (before, sound.0 scope types agrees (none_left (rule_faults v heads n r scope) others e)) (none_right (rule_faults v heads n r scope) others e)

  sequence_of_typed : (at : ℕ) (rs : List RawRule) → Every SoundRule rs → (scope : Scope) (types : Types) → Agrees number scope types
      → flat_map (λ (q : Faults v heads n). q scope) (map (rule_faults v heads n) rs) ≡ [] → IsTypedRule v macros types (sequence_of number v units file (place at) (map (rule_of number v units file) rs))
  sequence_of_typed at [] sound scope types agrees e = tt
  sequence_of_typed at (r ∷ rs) sound scope types agrees e =
      let others : List Fault = flat_map (λ (q : Faults v heads n). q scope) (map (rule_faults v heads n) rs) in
      sequence_typed at (rule_of number v units file r) rs sound.1 scope types agrees (sound.0 scope types agrees (none_left (rule_faults v heads n r scope) others e)) (none_right (rule_faults v heads n r scope) others e)

  abbrev case_with_faults : RawRuleCase → RawTerm × Faults v heads n
  case_with_faults c = (c.label, rule_faults v heads n c.rule)

  abbrev case_trees : RawRuleCase → Tree × Rule
  case_trees c = (tree_of number v c.label, rule_of number v units file c.rule)

  switch_typed : (at : ℕ) (u : Tree) (cs : List RawRuleCase) → Every (λ (c : RawRuleCase). SoundRule c.rule) cs → (other : Rule) (scope : Scope) (types : Types) → Agrees number scope types
      → IsTypedRule v macros types other → (label : Option TermType) → ((r : TermType) → Fits (Some label) r → HasType v types u r)
      → case_faults v heads n label scope (map case_with_faults cs) ≡ [] → IsTypedRule v macros types (switch_rule number v units file (place at) u (map case_trees cs) other)
  switch_typed at u [] sound other scope types agrees last label guard e = last
  switch_typed at u (c ∷ cs) sound other scope types agrees last label guard e =
      let l : Judged = judged v n c.label in
      let p : Faults v heads n = rule_faults v heads n c.rule in
      let later : List Fault = case_faults v heads n (or_else label (l.type scope)) scope (map case_with_faults cs) in
      let of_label = none_left (asked v n label scope l) (p scope ++ later) e in
      let rest = none_right (asked v n label scope l) (p scope ++ later) e in
      let r = pick v n label (l.type scope) l.at l.first (asked_fits v n label scope l of_label) in (
        (r.0 ∷ r.0 ∷ [], (guard r.0 r.1, (term_typed number numbering v ready n c.label scope types agrees (asked_own v n label scope l of_label) r.0 r.2, tt)), ((r.0, refl), refl)),
        sound.0 scope types agrees (none_left (p scope) later rest),
        switch_typed at u cs sound.1 other scope types agrees last (or_else label (l.type scope)) (λ q fits. guard q (to_first label (l.type scope) q fits)) (none_right (p scope) later rest),
      )

  abbrev judged_bind : RawBind → LetBound v n
  judged_bind b = (b.variable, judged v n b.term)

  let_typed : (at : ℕ) (bs : List RawBind) (p : Faults v heads n) (q : Rule) → SoundFaults p q → (scope : Scope) (types : Types) → Agrees number scope types
      → bind_faults v n (map judged_bind bs) scope ≡ [] → p (within_let v n (map judged_bind bs) scope) ≡ [] → IsTypedRule v macros types (let_rule number v units file (place at) bs q)
  let_typed at [] p q body scope types agrees e d = body scope types agrees d
  let_typed at (b ∷ bs) p q body scope types agrees e d =
      let own : Option TermType = (judged v n b.term).type scope in
      let inner : Scope = scope ++ record { name = b.variable.text; type = own } ∷ [] in
      let here = none_left ((judged v n b.term).faults scope) (bind_faults v n (map judged_bind bs) inner) e in
      let others = none_right ((judged v n b.term).faults scope) (bind_faults v n (map judged_bind bs) inner) e in (
        own,
        λ r fits. term_typed number numbering v ready n b.term scope types agrees here r fits,
        let_typed at bs p q body inner (put_type (number b.variable.text) (Some own) types) (agrees_more number numbering scope types b.variable.text own agrees) others d,
      )

  -- the types within binders
  agrees_in : (bs : List RawBinder) (scope : Scope) (types : Types) → Agrees number scope types → binder_faults v n bs ≡ [] → Agrees number (within v n bs scope) (bound_types v.domains (binders_of number v bs) types)
  agrees_in bs scope types agrees e = agrees_within number numbering v n ready.truths bs scope types agrees (none_right (repeats [] (variables_of v n bs)) (flat_map (λ (b : RawBinder). unknown_domain v.domains n b.domain) bs) e)

  form_typed : (at : ℕ) (k : RuleForm) → RuleParts SoundRule k → SoundFaults (kind_faults v heads n (faults_form v heads n k) at) (rule_kind number v units file (rule_form number v units file k) (place at))
  form_typed at RawRuleKind-F.Skip h scope types agrees e = tt
  form_typed at (RawRuleKind-F.Update f ts t) h scope types agrees e = update_typed at f ts t scope types agrees (function_named v f) refl e
  form_typed at (RawRuleKind-F.Par rs) h scope types agrees e = parts_typed rs h scope types agrees e
  form_typed at (RawRuleKind-F.Seq rs) h scope types agrees e = sequence_of_typed at rs h scope types agrees e
  form_typed at (RawRuleKind-F.If g p q) h scope types agrees e =
      let guard : List Fault = asked v n (Some Boolean) scope (judged v n g) in
      let fp : List Fault = rule_faults v heads n p scope in
      let fq : List Fault = rule_faults v heads n q scope in
      let rest = none_right guard (fp ++ fq) e in
      (typed_in g scope types agrees Boolean (none_left guard (fp ++ fq) e), h.0 scope types agrees (none_left fp fq rest), h.1 scope types agrees (none_right fp fq rest))
  form_typed at (RawRuleKind-F.Switch t cs q) h scope types agrees e =
      let j : Judged = judged v n t in
      let cases : List Fault = case_faults v heads n (j.type scope) scope (map case_with_faults cs) in
      let fq : List Fault = rule_faults v heads n q scope in
      let own = none_left (j.faults scope) (cases ++ fq) e in
      let rest = none_right (j.faults scope) (cases ++ fq) e in
      switch_typed at (tree_of number v t) cs h.0 (rule_of number v units file q) scope types agrees (h.1 scope types agrees (none_right cases fq rest)) (j.type scope)
      (λ r fits. term_typed number numbering v ready n t scope types agrees own r fits) (none_left cases fq rest)
  form_typed at (RawRuleKind-F.Let bs p) h scope types agrees e =
      let bound : List (LetBound v n) = map judged_bind bs in
      let body : List Fault = rule_faults v heads n p (within_let v n bound scope) in
      let own = none_left (let_faults v n bound scope) body e in
      let_typed at bs (rule_faults v heads n p) (rule_of number v units file p) h scope types agrees (none_right (repeats [] (map (λ (b : LetBound v n). (n, b.0)) bound)) (bind_faults v n bound scope) own) (none_right (let_faults v n bound scope) body e)
  form_typed at (RawRuleKind-F.Forall bs g p) h scope types agrees e =
      let inner : Scope = within v n bs scope in
      let guard : List Fault = asked v n (Some Boolean) inner (judged v n g) in
      let fp : List Fault = rule_faults v heads n p inner in
      let agrees_inner = agrees_in bs scope types agrees (none_left (binder_faults v n bs) (infinite_faults v n bs ++ (guard ++ fp)) e) in
      let rest = none_right (infinite_faults v n bs) (guard ++ fp) (none_right (binder_faults v n bs) (infinite_faults v n bs ++ (guard ++ fp)) e) in
      let inner_types : Types = bound_types v.domains (binders_of number v bs) types in
      (typed_in g inner inner_types agrees_inner Boolean (none_left guard fp rest), h inner inner_types agrees_inner (none_right guard fp rest))
  form_typed at (RawRuleKind-F.Choose bs g p q) h scope types agrees e =
      let inner : Scope = within v n bs scope in
      let guard : List Fault = asked v n (Some Boolean) inner (judged v n g) in
      let fp : List Fault = rule_faults v heads n p inner in
      let fq : List Fault = rule_faults v heads n q scope in
      let agrees_inner = agrees_in bs scope types agrees (none_left (binder_faults v n bs) (infinite_faults v n bs ++ (guard ++ (fp ++ fq))) e) in
      let rest = none_right (infinite_faults v n bs) (guard ++ (fp ++ fq)) (none_right (binder_faults v n bs) (infinite_faults v n bs ++ (guard ++ (fp ++ fq))) e) in
      let inner_types : Types = bound_types v.domains (binders_of number v bs) types in
      let parts = none_right guard (fp ++ fq) rest in
      (typed_in g inner inner_types agrees_inner Boolean (none_left guard (fp ++ fq) rest), h.0 inner inner_types agrees_inner (none_left fp fq parts), h.1 scope types agrees (none_right fp fq parts))
  form_typed at (RawRuleKind-F.Call r ts) h scope types agrees e = call_typed at r ts scope types agrees (head_named heads r) refl e

  -- where nothing is wrong in a rule, its tree is well typed
  pub rule_typed : (r : RawRule) → SoundRule r
  rule_typed =
      induct_rules SoundRule (λ at k h.
      subst (λ (p : Rule). SoundFaults (rule_faults v heads n (rule_at at k)) p) (sym (rule_is number v units file at k))
      (subst (λ (f : Faults v heads n). SoundFaults f (rule_kind number v units file (rule_form number v units file k) (place at))) (sym (faults_at v heads n at k)) (form_typed at k h)))
