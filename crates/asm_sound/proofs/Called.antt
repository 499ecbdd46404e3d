-- What terms and rules call by name, what their trees call by number, and that these names are declared where nothing is wrong.
use Rattle.std.proofs.Common.{◌≡◌, ℕ, length, List, [], ◌∷◌, ◌++◌, Option, Some, None, refl, sym, subst}
use Rattle.std.specs.Prelude.{map}
use Rattle.std.specs.List.{flat_map}
use Rattle.asm_source.specs.declared.sources.Place.{Place}
use Rattle.asm_sign.specs.declared.function.Function.{Function}
use Rattle.asm_sign.specs.Vocabulary.{Vocabulary}
use Rattle.asm_node.specs.declared.term_type.TermType.{TermType}
use Rattle.asm_node.specs.declared.term_type.TermType.TheVariants.{Boolean}
use Rattle.asm_node.specs.Tree.{Tree}
use Rattle.asm_node.specs.RuleTree as rule
use Rattle.asm_node.specs.RuleTree.{Rule}
use Rattle.asm_node.specs.Types.{domain_type}
use Rattle.asm_node.specs.Reads.{OfNumbers, ReadsOnly, ReadOnly, CallsOnly, CallOnly}
use Rattle.asm_tree.specs.declared.term.RawBind.{RawBind, RawBind-F}
use Rattle.asm_tree.specs.declared.term.RawCase.{RawCase, RawCase-F}
use Rattle.asm_tree.specs.declared.term.RawTerm.{RawTerm, RawTerm-F}
use Rattle.asm_tree.specs.declared.term.RawTermKind.{RawTermKind-F}
use Rattle.asm_tree.specs.declared.rule.RawRule.{RawRule, RawRule-F}
use Rattle.asm_tree.specs.declared.rule.RawRuleCase.{RawRuleCase, RawRuleCase-F}
use Rattle.asm_tree.specs.declared.rule.RawRuleKind.{RawRuleKind-F}
use Rattle.asm_tree.specs.declared.unit.LoadedUnit.{LoadedUnit}
use Rattle.asm_faults.specs.declared.fault.Fault.{Fault}
use Rattle.asm_faults.specs.declared.fault.ModelFault.TheVariants.{Unknown}
use Rattle.asm_faults.specs.At.{Name, token}
use Rattle.asm_faults.specs.DomainFaults.{repeats}
use Rattle.asm_faults.specs.Terms.{Scope, Judged, judged, or_else, asked, asked_each, case_faults, binder_faults, infinite_faults, within, within_let, let_faults, bind_faults, function_named, arity_faults, call_faults, unary_asks, asks, judge_kind, LetBound}
use Rattle.asm_faults.specs.Bodies.{RuleHead, head_named, Faults, rule_call_faults, kind_faults, rule_faults}
use Rattle.asm_faults.specs.Bodies as bodies
use Rattle.asm_faults.specs.Calls.{Names, called_kind, called, called_rules_kind, called_rules}
use Rattle.asm_faults.specs.Model.{function_number, rule_number, place_at, trees_of, switch_tree, let_tree, parts_of, sequence, sequence_of, switch_rule, let_rule, tree_kind, tree_of, rule_kind, rule_of}
use Rattle.asm_sound.proofs.Inductions.{Every, Form, Parts, at_form, induct, folded_form, fold_at}
use Rattle.asm_sound.proofs.Folding.{judged_form, judged_at, tree_form, tree_at}
use Rattle.asm_sound.proofs.RuleForms.{RuleForm, RuleParts, rule_at, induct_rules, folded_rule, fold_rule_at, faults_form, faults_at, rule_form, rule_is}
use Rattle.asm_sound.proofs.Scopes.{full, none_left, none_right}
use Rattle.asm_sound.proofs.TypedTerms.{asked_own}

-- ---- a fact of each item of lists one after the other

pub every_left : {A : Type 0} (P : A → Type 0) (xs ys : List A) → Every P (xs ++ ys) → Every P xs
every_left P [] ys e = tt
every_left P (x ∷ xs) ys e = (e.0, every_left P xs ys e.1)

pub every_right : {A : Type 0} (P : A → Type 0) (xs ys : List A) → Every P (xs ++ ys) → Every P ys
every_right P [] ys e = e
every_right P (x ∷ xs) ys e = every_right P xs ys e.1

pub every_both : {A : Type 0} (P : A → Type 0) (xs ys : List A) → Every P xs → Every P ys → Every P (xs ++ ys)
every_both P [] ys e f = f
every_both P (x ∷ xs) ys e f = (e.0, every_both P xs ys e.1 f)

-- ---- names that forms call

abbrev bind_names : RawBind-F Names Names Names Names → Names
bind_names b = b.term

abbrev case_names : RawCase-F Names Names Names Names → Names
case_names c = c.label ++ c.value

abbrev term_names : RawTerm-F Names Names Names Names → Names
term_names t = t.kind

abbrev called_form : Form → RawTermKind-F Names Names Names Names
called_form = folded_form Names Names Names Names called_kind bind_names case_names term_names

called_at : (at : ℕ) (first : Name) (k : Form) → called (at_form at first k) ≡ called_kind (called_form k)
called_at = fold_at Names Names Names Names called_kind bind_names case_names term_names

abbrev rule_names : RawRule-F Names Names Names → Names
rule_names r = r.kind

abbrev rule_case_names : RawRuleCase-F Names Names Names → Names
rule_case_names c = c.rule

abbrev called_rules_form : RuleForm → RawRuleKind-F Names Names Names
called_rules_form = folded_rule Names Names Names called_rules_kind rule_names rule_case_names

called_rules_at : (at : ℕ) (k : RuleForm) → called_rules (rule_at at k) ≡ called_rules_kind (called_rules_form k)
called_rules_at = fold_rule_at Names Names Names called_rules_kind rule_names rule_case_names

-- the names that the cases of a term call
abbrev case_called : RawCase → Names
case_called c = called c.label ++ called c.value

abbrev bind_called : RawBind → Names
bind_called b = called b.term

abbrev rule_case_called : RawRuleCase → Names
rule_case_called c = called_rules c.rule

abbrev self : Names → Names
self names = names

-- ---- trees read what terms read

module _ (number : Name → ℕ) (v : Vocabulary) (holds : OfNumbers) where
  abbrev OfName : Name → Type 0
  OfName f = holds (function_number number v f)

  abbrev Reading : Names → Tree → Type 0
  Reading names u = Every OfName names → ReadsOnly holds u

  abbrev TermReading : RawTerm → Type 0
  TermReading t = Reading (called t) (tree_of number v t)

  terms_reading : (ts : List RawTerm) → Every TermReading ts → Every OfName (flat_map self (map called ts)) → ReadOnly holds (trees_of number v (map (tree_of number v) ts))
  terms_reading [] h e = tt
  terms_reading (t ∷ ts) h e = (h.0 (every_left OfName (called t) (flat_map self (map called ts)) e), terms_reading ts h.1 (every_right OfName (called t) (flat_map self (map called ts)) e))

  abbrev case_trees : RawCase → Tree × Tree
  case_trees c = (tree_of number v c.label, tree_of number v c.value)

  cases_reading : (u : Tree) → ReadsOnly holds u → (cs : List RawCase) → Every (λ (c : RawCase). TermReading c.label × TermReading c.value) cs → (other : Tree) → ReadsOnly holds other
      → Every OfName (flat_map self (map case_called cs)) → ReadsOnly holds (switch_tree number v u (map case_trees cs) other)
  cases_reading u reads [] h other last e = last
  cases_reading u reads (c ∷ cs) h other last e =
      let here = every_left OfName (case_called c) (flat_map self (map case_called cs)) e in (
        (reads, (h.0.0 (every_left OfName (called c.label) (called c.value) here), tt)),
        h.0.1 (every_right OfName (called c.label) (called c.value) here),
        cases_reading u reads cs h.1 other last (every_right OfName (case_called c) (flat_map self (map case_called cs)) e),
      )

  binds_reading : (bs : List RawBind) → Every (λ (b : RawBind). TermReading b.term) bs → (u : Tree) → ReadsOnly holds u → Every OfName (flat_map self (map bind_called bs))
      → ReadsOnly holds (let_tree number v (map (λ (b : RawBind). (b.variable.text, tree_of number v b.term)) bs) u)
  binds_reading [] h u reads e = reads
  binds_reading (b ∷ bs) h u reads e =
      (h.0 (every_left OfName (bind_called b) (flat_map self (map bind_called bs)) e), binds_reading bs h.1 u reads (every_right OfName (bind_called b) (flat_map self (map bind_called bs)) e))

  form_reading : (k : Form) → Parts TermReading k → Reading (called_kind (called_form k)) (tree_kind number v (tree_form number v k))
  form_reading (RawTermKind-F.Number x) h e = tt
  form_reading (RawTermKind-F.Truth b) h e = tt
  form_reading RawTermKind-F.Undef h e = tt
  form_reading (RawTermKind-F.Variable x) h e = tt
  form_reading (RawTermKind-F.Element x) h e = tt
  form_reading (RawTermKind-F.Call f ts) h e = (e.0, terms_reading ts h e.1)
  form_reading (RawTermKind-F.Unary o t) h e = (h e, tt)
  form_reading (RawTermKind-F.Binary o t u) h e = (h.0 (every_left OfName (called t) (called u) e), (h.1 (every_right OfName (called t) (called u) e), tt))
  form_reading (RawTermKind-F.Cond g t u) h e =
      let rest = every_right OfName (called g) (called t ++ called u) e in
      (h.0 (every_left OfName (called g) (called t ++ called u) e), h.1 (every_left OfName (called t) (called u) rest), h.2 (every_right OfName (called t) (called u) rest))
  form_reading (RawTermKind-F.Switch t cs u) h e =
      let cases : Names = flat_map self (map case_called cs) in
      let rest = every_right OfName (called t) (cases ++ called u) e in
      cases_reading (tree_of number v t) (h.0 (every_left OfName (called t) (cases ++ called u) e)) cs h.1 (tree_of number v u) (h.2 (every_right OfName cases (called u) rest)) (every_left OfName cases (called u) rest)
  form_reading (RawTermKind-F.Let bs t) h e =
      let binds : Names = flat_map self (map bind_called bs) in
      binds_reading bs h.0 (tree_of number v t) (h.1 (every_right OfName binds (called t) e)) (every_left OfName binds (called t) e)
  form_reading (RawTermKind-F.Quant q bs g) h e = h e

  -- what holds of each function that a term reads holds of each that its tree reads
  pub term_reads : (t : RawTerm) → Every (λ (f : Name). holds (function_number number v f)) (called t) → ReadsOnly holds (tree_of number v t)
  term_reads =
      induct TermReading (λ at first k h.
      subst (λ (u : Tree). Reading (called (at_form at first k)) u) (sym (tree_at number v at first k))
      (subst (λ (names : Names). Reading names (tree_kind number v (tree_form number v k))) (sym (called_at at first k)) (form_reading k h)))

-- ---- trees of rules call what rules call

module _ (number : Name → ℕ) (v : Vocabulary) (units : List LoadedUnit) (file : ℕ) (holds : OfNumbers) where
  abbrev OfRule : Name → Type 0
  OfRule r = holds (rule_number number v units file r)

  abbrev Calling : Names → Rule → Type 0
  Calling names p = Every OfRule names → CallsOnly holds p

  abbrev RuleCalling : RawRule → Type 0
  RuleCalling r = Calling (called_rules r) (rule_of number v units file r)

  abbrev place : ℕ → Place
  place at = place_at number v units file at

  parts_calling : (rs : List RawRule) → Every RuleCalling rs → Every OfRule (flat_map self (map called_rules rs)) → CallOnly holds (parts_of number v units file (map (rule_of number v units file) rs))
  parts_calling [] h e = tt
  parts_calling (r ∷ rs) h e = (h.0 (every_left OfRule (called_rules r) (flat_map self (map called_rules rs)) e), parts_calling rs h.1 (every_right OfRule (called_rules r) (flat_map self (map called_rules rs)) e))

  sequence_calling : (at : ℕ) (p : Rule) → CallsOnly holds p → (rs : List RawRule) → Every RuleCalling rs → Every OfRule (flat_map self (map called_rules rs))
      → CallsOnly holds (sequence number v units file (place at) p (map (rule_of number v units file) rs))
  sequence_calling at p before [] h e = before
  sequence_calling at p before (r ∷ rs) h e =
      sequence_calling at (rule.Seq (place at) p (rule_of number v units file r)) (before, h.0 (every_left OfRule (called_rules r) (flat_map self (map called_rules rs)) e)) rs h.1
      (every_right OfRule (called_rules r) (flat_map self (map called_rules rs)) e)

  sequence_of_calling : (at : ℕ) (rs : List RawRule) → Every RuleCalling rs → Every OfRule (flat_map self (map called_rules rs)) → CallsOnly holds (sequence_of number v units file (place at) (map (rule_of number v units file) rs))
  sequence_of_calling at [] h e = tt
  sequence_of_calling at (r ∷ rs) h e =
      sequence_calling at (rule_of number v units file r) (h.0 (every_left OfRule (called_rules r) (flat_map self (map called_rules rs)) e)) rs h.1 (every_right OfRule (called_rules r) (flat_map self (map called_rules rs)) e)

  abbrev rule_case_trees : RawRuleCase → Tree × Rule
  rule_case_trees c = (tree_of number v c.label, rule_of number v units file c.rule)

  rule_cases_calling : (at : ℕ) (u : Tree) (cs : List RawRuleCase) → Every (λ (c : RawRuleCase). RuleCalling c.rule) cs → (other : Rule) → CallsOnly holds other
      → Every OfRule (flat_map self (map rule_case_called cs)) → CallsOnly holds (switch_rule number v units file (place at) u (map rule_case_trees cs) other)
  rule_cases_calling at u [] h other last e = last
  rule_cases_calling at u (c ∷ cs) h other last e =
      (h.0 (every_left OfRule (rule_case_called c) (flat_map self (map rule_case_called cs)) e), rule_cases_calling at u cs h.1 other last (every_right OfRule (rule_case_called c) (flat_map self (map rule_case_called cs)) e))

  let_calling : (at : ℕ) (bs : List RawBind) (p : Rule) → CallsOnly holds p → CallsOnly holds (let_rule number v units file (place at) bs p)
  let_calling at [] p body = body
  let_calling at (b ∷ bs) p body = let_calling at bs p body

  form_calling : (at : ℕ) (k : RuleForm) → RuleParts RuleCalling k → Calling (called_rules_kind (called_rules_form k)) (rule_kind number v units file (rule_form number v units file k) (place at))
  form_calling at RawRuleKind-F.Skip h e = tt
  form_calling at (RawRuleKind-F.Update f ts t) h e = tt
  form_calling at (RawRuleKind-F.Par rs) h e = parts_calling rs h e
  form_calling at (RawRuleKind-F.Seq rs) h e = sequence_of_calling at rs h e
  form_calling at (RawRuleKind-F.If g p q) h e = (h.0 (every_left OfRule (called_rules p) (called_rules q) e), h.1 (every_right OfRule (called_rules p) (called_rules q) e))
  form_calling at (RawRuleKind-F.Switch t cs q) h e =
      let cases : Names = flat_map self (map rule_case_called cs) in
      rule_cases_calling at (tree_of number v t) cs h.0 (rule_of number v units file q) (h.1 (every_right OfRule cases (called_rules q) e)) (every_left OfRule cases (called_rules q) e)
  form_calling at (RawRuleKind-F.Let bs p) h e = let_calling at bs (rule_of number v units file p) (h e)
  form_calling at (RawRuleKind-F.Forall bs g p) h e = h e
  form_calling at (RawRuleKind-F.Choose bs g p q) h e = (h.0 (every_left OfRule (called_rules p) (called_rules q) e), h.1 (every_right OfRule (called_rules p) (called_rules q) e))
  form_calling at (RawRuleKind-F.Call r ts) h e = e.0

  -- what holds of each rule that a rule calls holds of each that its tree calls
  pub rule_calls : (r : RawRule) → Every (λ (c : Name). holds (rule_number number v units file c)) (called_rules r) → CallsOnly holds (rule_of number v units file r)
  rule_calls =
      induct_rules RuleCalling (λ at k h.
      subst (λ (p : Rule). Calling (called_rules (rule_at at k)) p) (sym (rule_is number v units file at k))
      (subst (λ (names : Names). Calling names (rule_kind number v units file (rule_form number v units file k) (place at))) (sym (called_rules_at at k)) (form_calling at k h)))

-- ---- the functions that a term reads are declared

module _ (v : Vocabulary) (n : ℕ) where
  abbrev pub IsNamed : Name → Type 0
  IsNamed f = (g : Function) × (function_named v f ≡ Some g)

  abbrev Declares : Judged → Names → Type 0
  Declares j names = (scope : Scope) → j.faults scope ≡ [] → Every IsNamed names

  abbrev TermDeclares : RawTerm → Type 0
  TermDeclares t = Declares (judged v n t) (called t)

  asked_declares : (a : Option TermType) (t : RawTerm) → TermDeclares t → (scope : Scope) → asked v n a scope (judged v n t) ≡ [] → Every IsNamed (called t)
  asked_declares a t h scope e = h scope (asked_own v n a scope (judged v n t) e)

  terms_declare : (types : List (Option TermType)) (ts : List RawTerm) → Every TermDeclares ts → (scope : Scope) → asked_each v n types scope (map (judged v n) ts) ≡ [] → Every IsNamed (flat_map self (map called ts))
  terms_declare types [] h scope e = tt
  terms_declare [] (t ∷ ts) h scope e =
      let own : List Fault = asked v n None scope (judged v n t) in
      let others : List Fault = asked_each v n [] scope (map (judged v n) ts) in
      every_both IsNamed (called t) (flat_map self (map called ts)) (asked_declares None t h.0 scope (none_left own others e)) (terms_declare [] ts h.1 scope (none_right own others e))
  terms_declare (type ∷ types) (t ∷ ts) h scope e =
      let own : List Fault = asked v n type scope (judged v n t) in
      let others : List Fault = asked_each v n types scope (map (judged v n) ts) in
      every_both IsNamed (called t) (flat_map self (map called ts)) (asked_declares type t h.0 scope (none_left own others e)) (terms_declare types ts h.1 scope (none_right own others e))

  call_declares : (at : ℕ) (f : Name) (ts : List RawTerm) → Every TermDeclares ts → (scope : Scope) → (o : Option Function) → function_named v f ≡ o → call_faults v n at f scope (map (judged v n) ts) o ≡ []
      → Every IsNamed (f ∷ flat_map self (map called ts))
  call_declares at f ts h scope None is e = absurd (full (token Unknown n at f) (asked_each v n [] scope (map (judged v n) ts)) e)
  call_declares at f ts h scope (Some g) is e =
      ((g, is), terms_declare (map (domain_type v.domains) g.domains) ts h scope (none_right (arity_faults v n at f (length g.domains) (length (map (judged v n) ts))) (asked_each v n (map (domain_type v.domains) g.domains) scope (map (judged v n) ts)) e))

  abbrev judged_case : RawCase → Judged × Judged
  judged_case c = (judged v n c.label, judged v n c.value)

  cases_declare : (label value : Option TermType) (cs : List RawCase) → Every (λ (c : RawCase). TermDeclares c.label × TermDeclares c.value) cs → (u : RawTerm) → TermDeclares u → (scope : Scope)
      → case_faults v n label value scope (map judged_case cs) (judged v n u) ≡ [] → Every IsNamed (flat_map self (map case_called cs) ++ called u)
  cases_declare label value [] h u last scope e = asked_declares value u last scope e
  cases_declare label value (c ∷ cs) h u last scope e =
      let l : Judged = judged v n c.label in
      let j : Judged = judged v n c.value in
      let of_label : List Fault = asked v n label scope l in
      let of_value : List Fault = asked v n value scope j in
      let later : List Fault = case_faults v n (or_else label (l.type scope)) (or_else value (j.type scope)) scope (map judged_case cs) (judged v n u) in
      let rest = none_right of_label (of_value ++ later) e in
      let others : Names = flat_map self (map case_called cs) in
      let inner = cases_declare (or_else label (l.type scope)) (or_else value (j.type scope)) cs h.1 u last scope (none_right of_value later rest) in
      every_both IsNamed (case_called c ++ others) (called u)
      (every_both IsNamed (case_called c) others
      (every_both IsNamed (called c.label) (called c.value) (asked_declares label c.label h.0.0 scope (none_left of_label (of_value ++ later) e)) (asked_declares value c.value h.0.1 scope (none_left of_value later rest)))
      (every_left IsNamed others (called u) inner))
      (every_right IsNamed others (called u) inner)

  abbrev judged_bind : RawBind → LetBound v n
  judged_bind b = (b.variable, judged v n b.term)

  binds_declare : (bs : List RawBind) → Every (λ (b : RawBind). TermDeclares b.term) bs → (scope : Scope) → bind_faults v n (map judged_bind bs) scope ≡ [] → Every IsNamed (flat_map self (map bind_called bs))
  binds_declare [] h scope e = tt
  binds_declare (b ∷ bs) h scope e =
      let own : List Fault = (judged v n b.term).faults scope in
      let inner : Scope = scope ++ record { name = b.variable.text; type = (judged v n b.term).type scope } ∷ [] in
      every_both IsNamed (bind_called b) (flat_map self (map bind_called bs)) (h.0 scope (none_left own (bind_faults v n (map judged_bind bs) inner) e)) (binds_declare bs h.1 inner (none_right own (bind_faults v n (map judged_bind bs) inner) e))

  form_declares : (at : ℕ) (first : Name) (k : Form) → Parts TermDeclares k → Declares (judge_kind v n (judged_form v n k) at first) (called_kind (called_form k))
  form_declares at first (RawTermKind-F.Number x) h scope e = tt
  form_declares at first (RawTermKind-F.Truth b) h scope e = tt
  form_declares at first RawTermKind-F.Undef h scope e = tt
  form_declares at first (RawTermKind-F.Variable x) h scope e = tt
  form_declares at first (RawTermKind-F.Element x) h scope e = tt
  form_declares at first (RawTermKind-F.Call f ts) h scope e = call_declares at f ts h scope (function_named v f) refl e
  form_declares at first (RawTermKind-F.Unary o t) h scope e = asked_declares (unary_asks v n o) t h scope e
  form_declares at first (RawTermKind-F.Binary o t u) h scope e =
      let own : List Fault = asked v n (asks v n o) scope (judged v n t) in
      let both : Option TermType = or_else (asks v n o) ((judged v n t).type scope) in
      let other : List Fault = asked v n both scope (judged v n u) in
      every_both IsNamed (called t) (called u) (asked_declares (asks v n o) t h.0 scope (none_left own (other ++ []) e)) (asked_declares both u h.1 scope (none_left other [] (none_right own (other ++ []) e)))
  form_declares at first (RawTermKind-F.Cond g t u) h scope e =
      let guard : List Fault = asked v n (Some Boolean) scope (judged v n g) in
      let own : List Fault = asked v n None scope (judged v n t) in
      let other : List Fault = asked v n ((judged v n t).type scope) scope (judged v n u) in
      let rest = none_right guard (own ++ (other ++ [])) e in
      every_both IsNamed (called g) (called t ++ called u) (asked_declares (Some Boolean) g h.0 scope (none_left guard (own ++ (other ++ [])) e))
      (every_both IsNamed (called t) (called u) (asked_declares None t h.1 scope (none_left own (other ++ []) rest)) (asked_declares ((judged v n t).type scope) u h.2 scope (none_left other [] (none_right own (other ++ []) rest))))
  form_declares at first (RawTermKind-F.Switch t cs u) h scope e =
      let own : List Fault = (judged v n t).faults scope in
      let cases : List Fault = case_faults v n ((judged v n t).type scope) None scope (map judged_case cs) (judged v n u) in
      every_both IsNamed (called t) (flat_map self (map case_called cs) ++ called u) (h.0 scope (none_left own cases e)) (cases_declare ((judged v n t).type scope) None cs h.1 u h.2 scope (none_right own cases e))
  form_declares at first (RawTermKind-F.Let bs t) h scope e =
      let bound : List (LetBound v n) = map judged_bind bs in
      let body : List Fault = (judged v n t).faults (within_let v n bound scope) in
      let own = none_left (let_faults v n bound scope) body e in
      every_both IsNamed (flat_map self (map bind_called bs)) (called t) (binds_declare bs h.0 scope (none_right (repeats [] (map (λ (b : LetBound v n). (n, b.0)) bound)) (bind_faults v n bound scope) own))
      (h.1 (within_let v n bound scope) (none_right (let_faults v n bound scope) body e))
  form_declares at first (RawTermKind-F.Quant q bs g) h scope e =
      let inner : Scope = within v n bs scope in
      let guard : List Fault = asked v n (Some Boolean) inner (judged v n g) in
      asked_declares (Some Boolean) g h inner (none_right (infinite_faults v n bs) guard (none_right (binder_faults v n bs) (infinite_faults v n bs ++ guard) e))

  -- the functions that a term reads are declared, where nothing is wrong with it in some scope
  pub term_declares : (t : RawTerm) (scope : Scope) → (judged v n t).faults scope ≡ [] → Every IsNamed (called t)
  term_declares =
      induct TermDeclares (λ at first k h.
      subst (λ (names : Names). Declares (judged v n (at_form at first k)) names) (sym (called_at at first k))
      (subst (λ (j : Judged). Declares j (called_kind (called_form k))) (sym (judged_at v n at first k)) (form_declares at first k h)))

-- ---- the rules that a rule calls have heads

module _ (v : Vocabulary) (heads : List RuleHead) (n : ℕ) where
  abbrev pub HasHead : Name → Type 0
  HasHead r = (h : RuleHead) × (head_named heads r ≡ Some h)

  abbrev Heads : Faults v heads n → Names → Type 0
  Heads faults names = (scope : Scope) → faults scope ≡ [] → Every HasHead names

  abbrev RuleHeads : RawRule → Type 0
  RuleHeads r = Heads (rule_faults v heads n r) (called_rules r)

  parts_heads : (rs : List RawRule) → Every RuleHeads rs → (scope : Scope) → flat_map (λ (p : Faults v heads n). p scope) (map (rule_faults v heads n) rs) ≡ [] → Every HasHead (flat_map self (map called_rules rs))
  parts_heads [] h scope e = tt
  parts_heads (r ∷ rs) h scope e =
      let own : List Fault = rule_faults v heads n r scope in
      let others : List Fault = flat_map (λ (p : Faults v heads n). p scope) (map (rule_faults v heads n) rs) in
      every_both HasHead (called_rules r) (flat_map self (map called_rules rs)) (h.0 scope (none_left own others e)) (parts_heads rs h.1 scope (none_right own others e))

  call_heads : (at : ℕ) (r : Name) (ts : List RawTerm) (scope : Scope) (o : Option RuleHead) → head_named heads r ≡ o → rule_call_faults v heads n at r scope ts o ≡ [] → Every HasHead (r ∷ [])
  call_heads at r ts scope None is e = absurd (full (token Unknown n at r) (asked_each v n [] scope (map (judged v n) ts)) e)
  call_heads at r ts scope (Some h) is e = ((h, is), tt)

  abbrev case_with_faults : RawRuleCase → RawTerm × Faults v heads n
  case_with_faults c = (c.label, rule_faults v heads n c.rule)

  cases_heads : (label : Option TermType) (cs : List RawRuleCase) → Every (λ (c : RawRuleCase). RuleHeads c.rule) cs → (scope : Scope) → bodies.case_faults v heads n label scope (map case_with_faults cs) ≡ []
      → Every HasHead (flat_map self (map rule_case_called cs))
  cases_heads label [] h scope e = tt
  cases_heads label (c ∷ cs) h scope e =
      let l : Judged = judged v n c.label in
      let own : List Fault = asked v n label scope l in
      let body : List Fault = rule_faults v heads n c.rule scope in
      let later : List Fault = bodies.case_faults v heads n (or_else label (l.type scope)) scope (map case_with_faults cs) in
      let rest = none_right own (body ++ later) e in
      every_both HasHead (rule_case_called c) (flat_map self (map rule_case_called cs)) (h.0 scope (none_left body later rest)) (cases_heads (or_else label (l.type scope)) cs h.1 scope (none_right body later rest))

  form_heads : (at : ℕ) (k : RuleForm) → RuleParts RuleHeads k → Heads (kind_faults v heads n (faults_form v heads n k) at) (called_rules_kind (called_rules_form k))
  form_heads at RawRuleKind-F.Skip h scope e = tt
  form_heads at (RawRuleKind-F.Update f ts t) h scope e = tt
  form_heads at (RawRuleKind-F.Par rs) h scope e = parts_heads rs h scope e
  form_heads at (RawRuleKind-F.Seq rs) h scope e = parts_heads rs h scope e
  form_heads at (RawRuleKind-F.If g p q) h scope e =
      let guard : List Fault = asked v n (Some Boolean) scope (judged v n g) in
      let fp : List Fault = rule_faults v heads n p scope in
      let fq : List Fault = rule_faults v heads n q scope in
      let rest = none_right guard (fp ++ fq) e in
      every_both HasHead (called_rules p) (called_rules q) (h.0 scope (none_left fp fq rest)) (h.1 scope (none_right fp fq rest))
  form_heads at (RawRuleKind-F.Switch t cs q) h scope e =
      let j : Judged = judged v n t in
      let cases : List Fault = bodies.case_faults v heads n (j.type scope) scope (map case_with_faults cs) in
      let fq : List Fault = rule_faults v heads n q scope in
      let rest = none_right (j.faults scope) (cases ++ fq) e in
      every_both HasHead (flat_map self (map rule_case_called cs)) (called_rules q) (cases_heads (j.type scope) cs h.0 scope (none_left cases fq rest)) (h.1 scope (none_right cases fq rest))
  form_heads at (RawRuleKind-F.Let bs p) h scope e =
      let bound : List (LetBound v n) = map (λ (b : RawBind). (b.variable, judged v n b.term)) bs in
      h (within_let v n bound scope) (none_right (let_faults v n bound scope) (rule_faults v heads n p (within_let v n bound scope)) e)
  form_heads at (RawRuleKind-F.Forall bs g p) h scope e =
      let inner : Scope = within v n bs scope in
      let guard : List Fault = asked v n (Some Boolean) inner (judged v n g) in
      let fp : List Fault = rule_faults v heads n p inner in
      h inner (none_right guard fp (none_right (infinite_faults v n bs) (guard ++ fp) (none_right (binder_faults v n bs) (infinite_faults v n bs ++ (guard ++ fp)) e)))
  form_heads at (RawRuleKind-F.Choose bs g p q) h scope e =
      let inner : Scope = within v n bs scope in
      let guard : List Fault = asked v n (Some Boolean) inner (judged v n g) in
      let fp : List Fault = rule_faults v heads n p inner in
      let fq : List Fault = rule_faults v heads n q scope in
      let rest = none_right guard (fp ++ fq) (none_right (infinite_faults v n bs) (guard ++ (fp ++ fq)) (none_right (binder_faults v n bs) (infinite_faults v n bs ++ (guard ++ (fp ++ fq))) e)) in
      every_both HasHead (called_rules p) (called_rules q) (h.0 inner (none_left fp fq rest)) (h.1 scope (none_right fp fq rest))
  form_heads at (RawRuleKind-F.Call r ts) h scope e = call_heads at r ts scope (head_named heads r) refl e

  -- the rules that a rule calls have heads, where nothing is wrong with it in some scope
  pub rule_heads : (r : RawRule) (scope : Scope) → rule_faults v heads n r scope ≡ [] → Every HasHead (called_rules r)
  rule_heads =
      induct_rules RuleHeads (λ at k h.
      subst (λ (names : Names). Heads (rule_faults v heads n (rule_at at k)) names) (sym (called_rules_at at k))
      (subst (λ (f : Faults v heads n). Heads f (called_rules_kind (called_rules_form k))) (sym (faults_at v heads n at k)) (form_heads at k h)))
