-- What is wrong with the bodies of definitions, rules, invariants and initial values.
use Rattle.std.specs.Prelude.{ℕ, Bool as Truth, not, ◌&&◌, nat_eq, if◌then◌else◌, List, [], ◌∷◌, ◌++◌, map, length, Option, Some, None, bytes_eq}
use Rattle.std.specs.List.{flat_map}
use Rattle.asm_sign.specs.declared.function.DeclaredDomain as sign
use Rattle.asm_sign.specs.declared.function.Function.{Function}
use Rattle.asm_sign.specs.Kind.{is_kept, is_dynamic}
use Rattle.asm_sign.specs.Vocabulary.{Vocabulary}
use Rattle.asm_node.specs.declared.term_type.TermType.{TermType}
use Rattle.asm_node.specs.declared.term_type.TermType.TheVariants.{Boolean}
use Rattle.asm_node.specs.Machine.{constant_of}
use Rattle.asm_node.specs.Types.{domain_type}
use Rattle.asm_node.specs.Values.{is_undef}
use Rattle.asm_tree.specs.declared.term.RawName.{RawName}
use Rattle.asm_tree.specs.declared.term.RawBinder.{RawBinder}
use Rattle.asm_tree.specs.declared.term.RawBind.{RawBind}
use Rattle.asm_tree.specs.declared.term.RawTerm.{RawTerm}
use Rattle.asm_tree.specs.declared.rule.RawRule.{RawRule, RawRule-F, fold-RawRule}
use Rattle.asm_tree.specs.declared.rule.RawRuleKind.TheOpen.{RawRuleKind-F, RawRuleCase-F}
use Rattle.asm_tree.specs.declared.unit.RawFunction.{RawFunction}
use Rattle.asm_tree.specs.declared.unit.RawInvariant.{RawInvariant}
use Rattle.asm_tree.specs.declared.unit.LoadedUnit.{LoadedUnit}
use Rattle.asm_faults.specs.declared.fault.Fault.{Fault}
use Rattle.asm_faults.specs.declared.fault.ModelFault.TheVariants.{Unknown, WrongKind, WrongType}
use Rattle.asm_faults.specs.At.{Name, fault_at, token}
use Rattle.asm_faults.specs.Files.{Of, DeclaredRule, rules, definitions, initials, invariants, declared_names}
use Rattle.asm_faults.specs.DomainFaults.{is_listed, repeats}
use Rattle.asm_faults.specs.FunctionFaults.{domain_number}
use Rattle.asm_faults.specs.Terms.{Scope, Judged, judged, type_named, function_named, or_else, binder_faults, infinite_faults, within, within_let, let_faults, asked, asked_each, arity_faults, call_faults}

-- a rule as others call it: its name, and the types of its parameters
pub record RuleHead : Type 0 where
  pub name : Name
  pub types : List (Option TermType)

abbrev pub head_of : Vocabulary → DeclaredRule → RuleHead
head_of v r = record { name = r.name.text; types = map (λ (b : RawBinder). type_named v b.domain.text) r.parameters }

abbrev pub heads_of : Vocabulary → List LoadedUnit → List RuleHead
heads_of v units = map (head_of v) (rules units)

abbrev pub head_named : List RuleHead → Name → Option RuleHead
head_named [] text = None
head_named (h ∷ heads) text = if bytes_eq h.name text then Some h else head_named heads text

module _ (v : Vocabulary) (heads : List RuleHead) (n : ℕ) where
  abbrev pub term : RawTerm → Judged
  term t = judged v n t

  abbrev pub terms : List RawTerm → List Judged
  terms ts = map term ts

  abbrev pub bound : List RawBind → List (RawName × Judged)
  bound bs = map (λ (b : RawBind). (b.variable, term b.term)) bs

  -- ---- rules by their forms

  -- an update has to be of a function whose values a state keeps
  abbrev pub update_faults : ℕ → Name → Scope → List RawTerm → RawTerm → Option Function → List Fault
  update_faults at f s ts t None = call_faults v n at f s (terms ts) None ++ asked v n None s (term t)
  update_faults at f s ts t (Some g) =
      (if is_kept g.kind then [] else token WrongKind n at f ∷ [])
      ++ (call_faults v n at f s (terms ts) (Some g) ++ asked v n (domain_type v.domains g.codomain) s (term t))

  abbrev pub rule_call_faults : ℕ → Name → Scope → List RawTerm → Option RuleHead → List Fault
  rule_call_faults at r s ts None = token Unknown n at r ∷ asked_each v n [] s (terms ts)
  rule_call_faults at r s ts (Some h) = arity_faults v n at r (length h.types) (length ts) ++ asked_each v n h.types s (terms ts)

  -- what is wrong with a rule in a scope
  abbrev pub Faults : Type 0
  Faults = Scope → List Fault

  abbrev pub Kind : Type 0
  Kind = ℕ → Faults

  -- the cases of a `switch`: the labels are of one type
  abbrev pub case_faults : Option TermType → Scope → List (RawTerm × Faults) → List Fault
  case_faults label s [] = []
  case_faults label s ((l, p) ∷ cases) = asked v n label s (term l) ++ (p s ++ case_faults (or_else label ((term l).type s)) s cases)

  abbrev pub kind_faults : RawRuleKind-F Kind Faults (RawTerm × Faults) → Kind
  kind_faults RawRuleKind-F.Skip at s = []
  kind_faults (RawRuleKind-F.Update f ts t) at s = update_faults at f s ts t (function_named v f)
  kind_faults (RawRuleKind-F.Par ps) at s = flat_map (λ p. p s) ps
  kind_faults (RawRuleKind-F.Seq ps) at s = flat_map (λ p. p s) ps
  kind_faults (RawRuleKind-F.If g p q) at s = asked v n (Some Boolean) s (term g) ++ (p s ++ q s)
  kind_faults (RawRuleKind-F.Switch t cases q) at s = (term t).faults s ++ (case_faults ((term t).type s) s cases ++ q s)
  kind_faults (RawRuleKind-F.Let bs p) at s = let_faults v n (bound bs) s ++ p (within_let v n (bound bs) s)
  kind_faults (RawRuleKind-F.Forall bs g p) at s =
      binder_faults v n bs ++ (infinite_faults v n bs ++ (asked v n (Some Boolean) (within v n bs s) (term g) ++ p (within v n bs s)))
  kind_faults (RawRuleKind-F.Choose bs g p q) at s =
      binder_faults v n bs ++ (infinite_faults v n bs ++ (asked v n (Some Boolean) (within v n bs s) (term g) ++ (p (within v n bs s) ++ q s)))
  kind_faults (RawRuleKind-F.Call r ts) at s = rule_call_faults at r s ts (head_named heads r)

  abbrev pub rule_faults : RawRule → Faults
  rule_faults = fold-RawRule Kind Faults (RawTerm × Faults) kind_faults (λ (r : RawRule-F Kind Faults (RawTerm × Faults)). r.kind r.at) (λ (c : RawRuleCase-F Kind Faults (RawTerm × Faults)). (c.label, c.rule))

-- ---- functions

-- a function of which a definition may be given: a static or derived one, but for the constants of abstract domains
abbrev pub is_defined_by_term : List sign.DeclaredDomain → Function → Truth
is_defined_by_term domains f = not (is_dynamic f.kind) && is_undef (constant_of domains f)

-- a function of which an initial value may be given
abbrev pub has_initial : List sign.DeclaredDomain → Function → Truth
has_initial domains f = is_kept f.kind

abbrev pub of_parameters : Option ℕ → ℕ → ℕ → RawName → List Fault
of_parameters None d n name = []
of_parameters (Some e) d n name = if nat_eq e d then [] else fault_at WrongType n name ∷ []

-- the domain of each parameter has to be the declared one
abbrev pub parameter_faults : List sign.DeclaredDomain → ℕ → List RawBinder → List ℕ → List Fault
parameter_faults domains n (b ∷ bs) (d ∷ ds) = of_parameters (domain_number domains b.domain.text) d n b.domain ++ parameter_faults domains n bs ds
parameter_faults domains n _ _ = []

module _ (v : Vocabulary) where
  -- what is wrong with a term that is given for a function, of which such a term may be given or not
  abbrev pub function_body_faults : (List sign.DeclaredDomain → Function → Truth) → Of RawFunction → Option Function → List Fault
  function_body_faults may (n, f) None = fault_at Unknown n f.name ∷ []
  function_body_faults may (n, f) (Some g) =
      (if may v.domains g then [] else fault_at WrongKind n f.name ∷ [])
      ++ (arity_faults v n f.name.at f.name.text (length g.domains) (length f.parameters)
      ++ (binder_faults v n f.parameters
      ++ (parameter_faults v.domains n f.parameters g.domains
      ++ asked v n (domain_type v.domains g.codomain) (within v n f.parameters []) (judged v n f.term))))

  -- a function is given a second term, or something is wrong with one
  abbrev pub functions_faults : (List sign.DeclaredDomain → Function → Truth) → List (Of RawFunction) → List Fault
  functions_faults may fs =
      repeats [] (map (λ (p : Of RawFunction). (p.0, p.1.name)) fs) ++ flat_map (λ (p : Of RawFunction). function_body_faults may p (function_named v p.1.name.text)) fs

  -- ---- rules and invariants

  abbrev pub macro_faults : List RuleHead → DeclaredRule → List Fault
  macro_faults heads r = binder_faults v r.unit r.parameters ++ rule_faults v heads r.unit r.body (within v r.unit r.parameters [])

  abbrev pub invariant_faults : List Name → Of RawInvariant → List Fault
  invariant_faults declared (n, i) =
      flat_map (λ name. if is_listed declared name.text then [] else fault_at Unknown n name ∷ []) i.over ++ asked v n (Some Boolean) [] (judged v n i.term)

  -- definitions, rules, invariants and initial values
  abbrev pub body_faults : List LoadedUnit → List Fault
  body_faults units =
      functions_faults is_defined_by_term (definitions units)
      ++ (flat_map (macro_faults (heads_of v units)) (rules units)
      ++ (flat_map (invariant_faults (map (λ (p : Of RawName). p.1.text) (declared_names units))) (invariants units)
      ++ functions_faults has_initial (initials units)))
