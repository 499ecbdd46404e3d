-- Where nothing is wrong in a rule and no interval in it is refused, its tree has ranges.
use Rattle.std.proofs.Common.{◌≡◌, ℕ, cond, List, [], ◌∷◌, ◌++◌, length, Option, Some, None, sym, subst}
use Rattle.std.specs.Prelude.{map}
use Rattle.std.specs.List.{flat_map}
use Rattle.asm_source.specs.declared.sources.Place.{Place}
use Rattle.asm_sign.specs.declared.function.Function.{Function}
use Rattle.asm_sign.specs.Kind.{is_kept}
use Rattle.asm_sign.specs.Vocabulary.{Vocabulary}
use Rattle.asm_node.specs.declared.term_type.TermType.{TermType}
use Rattle.asm_node.specs.declared.term_type.TermType.TheVariants.{Boolean}
use Rattle.asm_node.specs.Tree.{Tree}
use Rattle.asm_node.specs.RuleTree as rule
use Rattle.asm_node.specs.RuleTree.{Rule}
use Rattle.asm_node.specs.Types.{domain_type}
use Rattle.asm_node.specs.Ranges.{Range, NoNumber, Ranges, put_range, AreBound, HasRange}
use Rattle.asm_node.specs.RuleRanges.{AreRanged, IsRangedRule, AreRangedRules}
use Rattle.asm_tree.specs.declared.term.RawBinder.{RawBinder}
use Rattle.asm_tree.specs.declared.term.RawBind.{RawBind}
use Rattle.asm_tree.specs.declared.term.RawTerm.{RawTerm}
use Rattle.asm_tree.specs.declared.rule.RawRule.{RawRule, RawRule-F}
use Rattle.asm_tree.specs.declared.rule.RawRuleCase.{RawRuleCase, RawRuleCase-F}
use Rattle.asm_tree.specs.declared.rule.RawRuleKind.{RawRuleKind-F}
use Rattle.asm_tree.specs.declared.unit.LoadedUnit.{LoadedUnit}
use Rattle.asm_faults.specs.declared.fault.Fault.{Fault}
use Rattle.asm_faults.specs.declared.fault.ModelFault.TheVariants.{Unknown, WrongKind}
use Rattle.asm_faults.specs.At.{Name, token}
use Rattle.asm_faults.specs.FunctionFaults.{unknown_domain}
use Rattle.asm_faults.specs.DomainFaults.{repeats}
use Rattle.asm_faults.specs.Terms as typing
use Rattle.asm_faults.specs.Terms.{Judged, judged, LetBound, or_else, asked, asked_each, variables_of, binder_faults, infinite_faults, let_faults, function_named, arity_faults, call_faults}
use Rattle.asm_faults.specs.Bodies as bodies
use Rattle.asm_faults.specs.Bodies.{RuleHead, head_named, update_faults, rule_call_faults, case_faults, kind_faults}
use Rattle.asm_faults.specs.Ranges as spread
use Rattle.asm_faults.specs.Ranges.{Spread, Scope, Measured, Bound, measured, each, within, within_let, bind_faults, bound, term_faults}
use Rattle.asm_faults.specs.Model.{IsNumbering, function_number, place_at, binders_of, trees_of, parts_of, sequence, sequence_of, switch_rule, let_rule, rule_kind, rule_of, tree_of}
use Rattle.asm_sound.proofs.Inductions.{Every}
use Rattle.asm_sound.proofs.Scopes.{full, none_left, none_right}
use Rattle.asm_sound.proofs.TypedTerms.{IsReady, asked_own}
use Rattle.asm_sound.proofs.RuleForms.{RuleForm, RuleParts, rule_at, induct_rules, folded_rule, fold_rule_at, faults_form, faults_at, rule_form, rule_is}
use Rattle.asm_sound.proofs.RangedScopes.{Agrees, agrees_more, bound_in}
use Rattle.asm_sound.proofs.RangedTerms.{Ranged, test_ranged, arguments_ranged, term_ranged, terms_ranged}

-- ---- what is refused, by the forms of rules

module _ (v : Vocabulary) (n : ℕ) where
  abbrev Refused : Type 0
  Refused = spread.Faults v n

  abbrev refused_rule : RawRule-F Refused Refused (RawTerm × Refused) → Refused
  refused_rule r = r.kind

  abbrev refused_case : RawRuleCase-F Refused Refused (RawTerm × Refused) → RawTerm × Refused
  refused_case c = (c.label, c.rule)

  abbrev pub refused_form : RuleForm → RawRuleKind-F Refused Refused (RawTerm × Refused)
  refused_form = folded_rule Refused Refused (RawTerm × Refused) (spread.rule_kind v n) refused_rule refused_case

  pub refused_at : (at : ℕ) (k : RuleForm) → spread.rule_faults v n (rule_at at k) ≡ spread.rule_kind v n (refused_form k)
  refused_at = fold_rule_at Refused Refused (RawTerm × Refused) (spread.rule_kind v n) refused_rule refused_case

-- ---- rules

module _ (number : Name → ℕ) (numbering : IsNumbering number) (v : Vocabulary) (ready : IsReady v) (units : List LoadedUnit) (heads : List RuleHead) (n file : ℕ) where
  abbrev place : ℕ → Place
  place at = place_at number v units file at

  abbrev judged_terms : List RawTerm → List Judged
  judged_terms ts = map (judged v n) ts

  abbrev measured_terms : List RawTerm → List Measured
  measured_terms ts = map (measured v n) ts

  abbrev trees : List RawTerm → List Tree
  trees ts = map (tree_of number v) ts

  -- the tree has ranges in each scope in which nothing is wrong with the rule
  abbrev pub SoundFaults : bodies.Faults v heads n → spread.Faults v n → Rule → Type 0
  SoundFaults f g p = (types : typing.Scope) (scope : Scope) (rs : Ranges) → Agrees number scope rs → f types ≡ [] → g scope ≡ [] → IsRangedRule v rs p

  abbrev pub SoundRule : RawRule → Type 0
  SoundRule r = SoundFaults (bodies.rule_faults v heads n r) (spread.rule_faults v n r) (rule_of number v units file r)

  -- a term that is asked for a type
  ranged_in : (t : RawTerm) (a : Option TermType) (types : typing.Scope) (scope : Scope) (rs : Ranges) → Agrees number scope rs → asked v n a types (judged v n t) ≡ [] → term_faults v n t scope ≡ []
      → Ranged number numbering v ready n rs ((measured v n t).spread scope) (tree_of number v t)
  ranged_in t a types scope rs agrees e d = term_ranged number numbering v ready n t types scope rs agrees (asked_own v n a types (judged v n t) e) d

  all_in : (asking : List (Option TermType)) (ts : List RawTerm) (types : typing.Scope) (scope : Scope) (rs : Ranges) → Agrees number scope rs → asked_each v n asking types (judged_terms ts) ≡ [] → each scope (measured_terms ts) ≡ []
      → AreRanged v rs (trees_of number v (trees ts))
  all_in asking ts types scope rs agrees e d = arguments_ranged number numbering v ready n asking ts (terms_ranged number numbering v ready n ts) types scope rs agrees e d

  update_ranged : (at : ℕ) (f : Name) (ts : List RawTerm) (t : RawTerm) (types : typing.Scope) (scope : Scope) (rs : Ranges) → Agrees number scope rs → (o : Option Function)
      → update_faults v heads n at f types ts t o ≡ [] → each scope (measured_terms ts) ++ term_faults v n t scope ≡ [] → IsRangedRule v rs (rule.Update (place at) (function_number number v f) (trees_of number v (trees ts)) (tree_of number v t))
  update_ranged at f ts t types scope rs agrees None e d =
      absurd (full (token Unknown n at f) (asked_each v n [] types (judged_terms ts)) (none_left (call_faults v n at f types (judged_terms ts) None) (asked v n None types (judged v n t)) e))
  update_ranged at f ts t types scope rs agrees (Some g) e d =
      let kept : List Fault = cond (is_kept g.kind) [] (token WrongKind n at f ∷ []) in
      let call : List Fault = call_faults v n at f types (judged_terms ts) (Some g) in
      let value : List Fault = asked v n (domain_type v.domains g.codomain) types (judged v n t) in
      let rest = none_right kept (call ++ value) e in
      let arity : List Fault = arity_faults v n at f (length g.domains) (length (judged_terms ts)) in
      let asking : List (Option TermType) = map (domain_type v.domains) g.domains in
      let r = ranged_in t (domain_type v.domains g.codomain) types scope rs agrees (none_right call value rest) (none_right (each scope (measured_terms ts)) (term_faults v n t scope) d) in (
        all_in asking ts types scope rs agrees (none_right arity (asked_each v n asking types (judged_terms ts)) (none_left call value rest)) (none_left (each scope (measured_terms ts)) (term_faults v n t scope) d),
        (r.0, r.2),
      )

  call_ranged : (at : ℕ) (r : Name) (ts : List RawTerm) (types : typing.Scope) (scope : Scope) (rs : Ranges) → Agrees number scope rs → (o : Option RuleHead)
      → rule_call_faults v heads n at r types ts o ≡ [] → each scope (measured_terms ts) ≡ [] → AreRanged v rs (trees_of number v (trees ts))
  call_ranged at r ts types scope rs agrees None e d = absurd (full (token Unknown n at r) (asked_each v n [] types (judged_terms ts)) e)
  call_ranged at r ts types scope rs agrees (Some h) e d =
      all_in h.types ts types scope rs agrees (none_right (arity_faults v n at r (length h.types) (length ts)) (asked_each v n h.types types (judged_terms ts)) e) d

  parts_ranged : (ps : List RawRule) → Every SoundRule ps → (types : typing.Scope) (scope : Scope) (rs : Ranges) → Agrees number scope rs
      → flat_map (λ (p : bodies.Faults v heads n). p types) (map (bodies.rule_faults v heads n) ps) ≡ [] → flat_map (λ (p : spread.Faults v n). p scope) (map (spread.rule_faults v n) ps) ≡ []
      → AreRangedRules v rs (parts_of number v units file (map (rule_of number v units file) ps))
  parts_ranged [] sound types scope rs agrees e d = tt
  parts_ranged (p ∷ ps) sound types scope rs agrees e d =
      let others : List Fault = flat_map (λ (q : bodies.Faults v heads n). q types) (map (bodies.rule_faults v heads n) ps) in
      let refused : List Fault = flat_map (λ (q : spread.Faults v n). q scope) (map (spread.rule_faults v n) ps) in (
        sound.0 types scope rs agrees (none_left (bodies.rule_faults v heads n p types) others e) (none_left (spread.rule_faults v n p scope) refused d),
        parts_ranged ps sound.1 types scope rs agrees (none_right (bodies.rule_faults v heads n p types) others e) (none_right (spread.rule_faults v n p scope) refused d),
      )

  sequence_ranged : (at : ℕ) (before : Rule) (ps : List RawRule) → Every SoundRule ps → (types : typing.Scope) (scope : Scope) (rs : Ranges) → Agrees number scope rs → IsRangedRule v rs before
      → flat_map (λ (p : bodies.Faults v heads n). p types) (map (bodies.rule_faults v heads n) ps) ≡ [] → flat_map (λ (p : spread.Faults v n). p scope) (map (spread.rule_faults v n) ps) ≡ []
      → IsRangedRule v rs (sequence number v units file (place at) before (map (rule_of number v units file) ps))
  sequence_ranged at before [] sound types scope rs agrees has e d = has
  sequence_ranged at before (p ∷ ps) sound types scope rs agrees has e d =
      let others : List Fault = flat_map (λ (q : bodies.Faults v heads n). q types) (map (bodies.rule_faults v heads n) ps) in
      let refused : List Fault = flat_map (λ (q : spread.Faults v n). q scope) (map (spread.rule_faults v n) ps) in
      let own = sound.0 types scope rs agrees (none_left (bodies.rule_faults v heads n p types) others e) (none_left (spread.rule_faults v n p scope) refused d) in
      sequence_ranged at (rule.Seq (place at) before (rule_of number v units file p)) ps sound.1 types scope rs agrees (has, own) (none_right (bodies.rule_faults v heads n p types) others e) (none_right (spread.rule_faults v n p scope) refused d)

  sequence_of_ranged : (at : ℕ) (ps : List RawRule) → Every SoundRule ps → (types : typing.Scope) (scope : Scope) (rs : Ranges) → Agrees number scope rs
      → flat_map (λ (p : bodies.Faults v heads n). p types) (map (bodies.rule_faults v heads n) ps) ≡ [] → flat_map (λ (p : spread.Faults v n). p scope) (map (spread.rule_faults v n) ps) ≡ []
      → IsRangedRule v rs (sequence_of number v units file (place at) (map (rule_of number v units file) ps))
  sequence_of_ranged at [] sound types scope rs agrees e d = tt
  sequence_of_ranged at (p ∷ ps) sound types scope rs agrees e d =
      let others : List Fault = flat_map (λ (q : bodies.Faults v heads n). q types) (map (bodies.rule_faults v heads n) ps) in
      let refused : List Fault = flat_map (λ (q : spread.Faults v n). q scope) (map (spread.rule_faults v n) ps) in
      let own = sound.0 types scope rs agrees (none_left (bodies.rule_faults v heads n p types) others e) (none_left (spread.rule_faults v n p scope) refused d) in
      sequence_ranged at (rule_of number v units file p) ps sound.1 types scope rs agrees own (none_right (bodies.rule_faults v heads n p types) others e) (none_right (spread.rule_faults v n p scope) refused d)

  abbrev case_with_faults : RawRuleCase → RawTerm × bodies.Faults v heads n
  case_with_faults c = (c.label, bodies.rule_faults v heads n c.rule)

  abbrev case_with_refused : RawRuleCase → RawTerm × spread.Faults v n
  case_with_refused c = (c.label, spread.rule_faults v n c.rule)

  abbrev refused_cases : Scope → List RawRuleCase → List Fault
  refused_cases scope cs = flat_map (λ (c : RawTerm × spread.Faults v n). term_faults v n c.0 scope ++ c.1 scope) (map case_with_refused cs)

  abbrev case_trees : RawRuleCase → Tree × Rule
  case_trees c = (tree_of number v c.label, rule_of number v units file c.rule)

  switch_ranged : (at : ℕ) (u : Tree) (r : Range) (cs : List RawRuleCase) → Every (λ (c : RawRuleCase). SoundRule c.rule) cs → (other : Rule) (types : typing.Scope) (scope : Scope) (rs : Ranges) → Agrees number scope rs
      → HasRange v rs u r → IsRangedRule v rs other → (label : Option TermType) → case_faults v heads n label types (map case_with_faults cs) ≡ [] → refused_cases scope cs ≡ []
      → IsRangedRule v rs (switch_rule number v units file (place at) u (map case_trees cs) other)
  switch_ranged at u r [] sound other types scope rs agrees has last label e d = last
  switch_ranged at u r (c ∷ cs) sound other types scope rs agrees has last label e d =
      let l : Judged = judged v n c.label in
      let p : bodies.Faults v heads n = bodies.rule_faults v heads n c.rule in
      let later : List Fault = case_faults v heads n (or_else label (l.type types)) types (map case_with_faults cs) in
      let of_label = none_left (asked v n label types l) (p types ++ later) e in
      let rest = none_right (asked v n label types l) (p types ++ later) e in
      let label_refused : List Fault = term_faults v n c.label scope in
      let rule_refused : List Fault = spread.rule_faults v n c.rule scope in
      let here = none_left (label_refused ++ rule_refused) (refused_cases scope cs) d in
      let q = ranged_in c.label label types scope rs agrees of_label (none_left label_refused rule_refused here) in (
        (NoNumber, test_ranged number numbering v ready n rs u (tree_of number v c.label) r q.0 has q.2),
        sound.0 types scope rs agrees (none_left (p types) later rest) (none_right label_refused rule_refused here),
        switch_ranged at u r cs sound.1 other types scope rs agrees has last (or_else label (l.type types)) (none_right (p types) later rest) (none_right (label_refused ++ rule_refused) (refused_cases scope cs) d),
      )

  abbrev judged_bind : RawBind → LetBound v n
  judged_bind b = (b.variable, judged v n b.term)

  let_ranged : (at : ℕ) (bs : List RawBind) (p : bodies.Faults v heads n) (g : spread.Faults v n) (q : Rule) → SoundFaults p g q → (types : typing.Scope) (scope : Scope) (rs : Ranges) → Agrees number scope rs
      → typing.bind_faults v n (map judged_bind bs) types ≡ [] → p (typing.within_let v n (map judged_bind bs) types) ≡ [] → bind_faults (bound v n bs) scope ≡ [] → g (within_let (bound v n bs) scope) ≡ []
      → IsRangedRule v rs (let_rule number v units file (place at) bs q)
  let_ranged at [] p g q body types scope rs agrees e d f h = body types scope rs agrees d h
  let_ranged at (b ∷ bs) p g q body types scope rs agrees e d f h =
      let typed : typing.Scope = types ++ record { name = b.variable.text; type = (judged v n b.term).type types } ∷ [] in
      let own : Spread = (measured v n b.term).spread scope in
      let inner : Scope = scope ++ record { name = b.variable.text; spread = own } ∷ [] in
      let first : List Fault = (judged v n b.term).faults types in
      let later : List Fault = typing.bind_faults v n (map judged_bind bs) typed in
      let first_refused : List Fault = (measured v n b.term).faults scope in
      let later_refused : List Fault = bind_faults (bound v n bs) inner in
      let r = term_ranged number numbering v ready n b.term types scope rs agrees (none_left first later e) (none_left first_refused later_refused f) in (
        r.0,
        r.2,
        let_ranged at bs p g q body typed inner (put_range (number b.variable.text) r.0 rs) (agrees_more number numbering scope rs b.variable.text r.0 own r.1 agrees) (none_right first later e) d (none_right first_refused later_refused f) h,
      )

  -- the ranges within binders
  agrees_in : (bs : List RawBinder) (scope : Scope) (rs : Ranges) → Agrees number scope rs → binder_faults v n bs ≡ [] → infinite_faults v n bs ≡ [] → (inner : Ranges) × AreBound v (binders_of number v bs) rs inner × Agrees number (within v bs scope) inner
  agrees_in bs scope rs agrees e finite = bound_in number numbering v n ready.few bs scope rs agrees (none_right (repeats [] (variables_of v n bs)) (flat_map (λ (b : RawBinder). unknown_domain v.domains n b.domain) bs) e) finite

  form_ranged : (at : ℕ) (k : RuleForm) → RuleParts SoundRule k → SoundFaults (kind_faults v heads n (faults_form v heads n k) at) (spread.rule_kind v n (refused_form v n k)) (rule_kind number v units file (rule_form number v units file k) (place at))
  form_ranged at RawRuleKind-F.Skip h types scope rs agrees e d = tt
  form_ranged at (RawRuleKind-F.Update f ts t) h types scope rs agrees e d = update_ranged at f ts t types scope rs agrees (function_named v f) e d
  form_ranged at (RawRuleKind-F.Par ps) h types scope rs agrees e d = parts_ranged ps h types scope rs agrees e d
  form_ranged at (RawRuleKind-F.Seq ps) h types scope rs agrees e d = sequence_of_ranged at ps h types scope rs agrees e d
  form_ranged at (RawRuleKind-F.If g p q) h types scope rs agrees e d =
      let guard : List Fault = asked v n (Some Boolean) types (judged v n g) in
      let fp : List Fault = bodies.rule_faults v heads n p types in
      let fq : List Fault = bodies.rule_faults v heads n q types in
      let rg : List Fault = term_faults v n g scope in
      let rp : List Fault = spread.rule_faults v n p scope in
      let rq : List Fault = spread.rule_faults v n q scope in
      let rest = none_right guard (fp ++ fq) e in
      let rest_refused = none_right rg (rp ++ rq) d in
      let r = ranged_in g (Some Boolean) types scope rs agrees (none_left guard (fp ++ fq) e) (none_left rg (rp ++ rq) d) in
      ((r.0, r.2), h.0 types scope rs agrees (none_left fp fq rest) (none_left rp rq rest_refused), h.1 types scope rs agrees (none_right fp fq rest) (none_right rp rq rest_refused))
  form_ranged at (RawRuleKind-F.Switch t cs q) h types scope rs agrees e d =
      let j : Judged = judged v n t in
      let cases : List Fault = case_faults v heads n (j.type types) types (map case_with_faults cs) in
      let fq : List Fault = bodies.rule_faults v heads n q types in
      let rt : List Fault = term_faults v n t scope in
      let rc : List Fault = refused_cases scope cs in
      let rq : List Fault = spread.rule_faults v n q scope in
      let rest = none_right (j.faults types) (cases ++ fq) e in
      let rest_refused = none_right rt (rc ++ rq) d in
      let r = term_ranged number numbering v ready n t types scope rs agrees (none_left (j.faults types) (cases ++ fq) e) (none_left rt (rc ++ rq) d) in
      let last = h.1 types scope rs agrees (none_right cases fq rest) (none_right rc rq rest_refused) in
      switch_ranged at (tree_of number v t) r.0 cs h.0 (rule_of number v units file q) types scope rs agrees r.2 last (j.type types) (none_left cases fq rest) (none_left rc rq rest_refused)
  form_ranged at (RawRuleKind-F.Let bs p) h types scope rs agrees e d =
      let lets : List (LetBound v n) = map judged_bind bs in
      let body : List Fault = bodies.rule_faults v heads n p (typing.within_let v n lets types) in
      let own = none_left (let_faults v n lets types) body e in
      let terms : List Fault = bind_faults (bound v n bs) scope in
      let rp : List Fault = spread.rule_faults v n p (within_let (bound v n bs) scope) in
      let_ranged at bs (bodies.rule_faults v heads n p) (spread.rule_faults v n p) (rule_of number v units file p) h types scope rs agrees
      (none_right (repeats [] (map (λ (b : LetBound v n). (n, b.0)) lets)) (typing.bind_faults v n lets types) own) (none_right (let_faults v n lets types) body e) (none_left terms rp d) (none_right terms rp d)
  form_ranged at (RawRuleKind-F.Forall bs g p) h types scope rs agrees e d =
      let typed : typing.Scope = typing.within v n bs types in
      let guard : List Fault = asked v n (Some Boolean) typed (judged v n g) in
      let fp : List Fault = bodies.rule_faults v heads n p typed in
      let after = none_right (binder_faults v n bs) (infinite_faults v n bs ++ (guard ++ fp)) e in
      let rest = none_right (infinite_faults v n bs) (guard ++ fp) after in
      let inner = agrees_in bs scope rs agrees (none_left (binder_faults v n bs) (infinite_faults v n bs ++ (guard ++ fp)) e) (none_left (infinite_faults v n bs) (guard ++ fp) after) in
      let rg : List Fault = term_faults v n g (within v bs scope) in
      let rp : List Fault = spread.rule_faults v n p (within v bs scope) in
      let r = ranged_in g (Some Boolean) typed (within v bs scope) inner.0 inner.2 (none_left guard fp rest) (none_left rg rp d) in
      (inner.0, inner.1, (r.0, r.2), h typed (within v bs scope) inner.0 inner.2 (none_right guard fp rest) (none_right rg rp d))
  form_ranged at (RawRuleKind-F.Choose bs g p q) h types scope rs agrees e d =
      let typed : typing.Scope = typing.within v n bs types in
      let guard : List Fault = asked v n (Some Boolean) typed (judged v n g) in
      let fp : List Fault = bodies.rule_faults v heads n p typed in
      let fq : List Fault = bodies.rule_faults v heads n q types in
      let after = none_right (binder_faults v n bs) (infinite_faults v n bs ++ (guard ++ (fp ++ fq))) e in
      let rest = none_right (infinite_faults v n bs) (guard ++ (fp ++ fq)) after in
      let parts = none_right guard (fp ++ fq) rest in
      let inner = agrees_in bs scope rs agrees (none_left (binder_faults v n bs) (infinite_faults v n bs ++ (guard ++ (fp ++ fq))) e) (none_left (infinite_faults v n bs) (guard ++ (fp ++ fq)) after) in
      let rg : List Fault = term_faults v n g (within v bs scope) in
      let rp : List Fault = spread.rule_faults v n p (within v bs scope) in
      let rq : List Fault = spread.rule_faults v n q scope in
      let parts_refused = none_right rg (rp ++ rq) d in
      let r = ranged_in g (Some Boolean) typed (within v bs scope) inner.0 inner.2 (none_left guard (fp ++ fq) rest) (none_left rg (rp ++ rq) d) in
      ((inner.0, inner.1, (r.0, r.2), h.0 typed (within v bs scope) inner.0 inner.2 (none_left fp fq parts) (none_left rp rq parts_refused)), h.1 types scope rs agrees (none_right fp fq parts) (none_right rp rq parts_refused))
  form_ranged at (RawRuleKind-F.Call r ts) h types scope rs agrees e d = call_ranged at r ts types scope rs agrees (head_named heads r) e d

  -- where nothing is wrong in a rule and no interval in it is refused, its tree has ranges
  pub rule_ranged : (r : RawRule) → SoundRule r
  rule_ranged =
      induct_rules SoundRule (λ at k h.
      subst (λ (p : Rule). SoundFaults (bodies.rule_faults v heads n (rule_at at k)) (spread.rule_faults v n (rule_at at k)) p) (sym (rule_is number v units file at k))
      (subst (λ (g : spread.Faults v n). SoundFaults (bodies.rule_faults v heads n (rule_at at k)) g (rule_kind number v units file (rule_form number v units file k) (place at))) (sym (refused_at v n at k))
      (subst (λ (f : bodies.Faults v heads n). SoundFaults f (spread.rule_kind v n (refused_form v n k)) (rule_kind number v units file (rule_form number v units file k) (place at))) (sym (faults_at v heads n at k)) (form_ranged at k h))))
