-- The nodes of a pool, by their numbers.
use Rattle.std.specs.Prelude.{◌≡◌, ℕ, ◌<◌, ⊤, List, ◌++◌, map, Some, slice_get, All}
use Rattle.std.specs.declared.rc.Rc.{Rc}
use Rattle.std.specs.declared.alloc.Global.{Global}
use Rattle.asm_node.specs.declared.pool.Pool.{Pool}
use Rattle.asm_node.specs.declared.term.Term.{Term}
use Rattle.asm_node.specs.declared.term.TermKind.{TermKind, Row_of-TermKind-Get-1-1, end_of-TermKind-Get-1-1, more_of-TermKind-Get-1-1}
use Rattle.asm_node.specs.declared.term.TermKind as kind
use Rattle.asm_node.specs.declared.rule.Rule as of_rule
use Rattle.asm_node.specs.declared.rule.RuleKind.{RuleKind, Row_of-RuleKind-Par-1-1, end_of-RuleKind-Par-1-1, more_of-RuleKind-Par-1-1}
use Rattle.asm_node.specs.declared.rule.RuleKind as form
use Rattle.asm_node.specs.Tree.{Tree, plain}

-- the terms that were made, each at its number
abbrev pub terms_of : Pool → List Term
terms_of pool = map (λ t. t.value) pool.terms

-- the rules that were made, each at its number
abbrev pub rules_of : Pool → List of_rule.Rule
rules_of pool = map (λ r. r.value) pool.rules

-- the node is the one at its number
abbrev pub HasTerm : List Term → Term → Type 0
HasTerm terms t = slice_get terms t.id ≡ Some t

abbrev pub HasRow : List Term → {n : _} → Row_of-TermKind-Get-1-1 n → Type 0
HasRow terms end_of-TermKind-Get-1-1 = ⊤
HasRow terms (more_of-TermKind-Get-1-1 _ id t ts) = HasTerm terms (record { id = id; kind = t }) × HasRow terms ts

-- the children are nodes of the pool
abbrev pub HasTerms : List Term → TermKind → Type 0
HasTerms terms (kind.Const v) = ⊤
HasTerms terms (kind.Var x) = ⊤
HasTerms terms (kind.Within' d _ id t) = HasTerm terms (record { id = id; kind = t })
HasTerms terms (kind.Get' f _ ts) = HasRow terms ts
HasTerms terms (kind.Oper' o _ ts) = HasRow terms ts
HasTerms terms (kind.Cond' _ i g _ j t _ k u) = HasTerm terms (record { id = i; kind = g }) × HasTerm terms (record { id = j; kind = t }) × HasTerm terms (record { id = k; kind = u })
HasTerms terms (kind.Let' x _ i t _ j u) = HasTerm terms (record { id = i; kind = t }) × HasTerm terms (record { id = j; kind = u })
HasTerms terms (kind.Quant' q bs _ id g) = HasTerm terms (record { id = id; kind = g })

abbrev pub RowIsBefore : ℕ → {n : _} → Row_of-TermKind-Get-1-1 n → Type 0
RowIsBefore bound end_of-TermKind-Get-1-1 = ⊤
RowIsBefore bound (more_of-TermKind-Get-1-1 _ id t ts) = (id < bound) × RowIsBefore bound ts

-- the children have smaller numbers
abbrev pub TermsAreBefore : ℕ → TermKind → Type 0
TermsAreBefore bound (kind.Const v) = ⊤
TermsAreBefore bound (kind.Var x) = ⊤
TermsAreBefore bound (kind.Within' d _ id t) = id < bound
TermsAreBefore bound (kind.Get' f _ ts) = RowIsBefore bound ts
TermsAreBefore bound (kind.Oper' o _ ts) = RowIsBefore bound ts
TermsAreBefore bound (kind.Cond' _ i g _ j t _ k u) = (i < bound) × (j < bound) × (k < bound)
TermsAreBefore bound (kind.Let' x _ i t _ j u) = (i < bound) × (j < bound)
TermsAreBefore bound (kind.Quant' q bs _ id g) = id < bound

abbrev pub HasRule : List of_rule.Rule → of_rule.Rule → Type 0
HasRule rules r = slice_get rules r.id ≡ Some r

abbrev pub HasRules : List of_rule.Rule → {n : _} → Row_of-RuleKind-Par-1-1 n → Type 0
HasRules rules end_of-RuleKind-Par-1-1 = ⊤
HasRules rules (more_of-RuleKind-Par-1-1 _ id p ps) = HasRule rules (record { id = id; kind = p }) × HasRules rules ps

abbrev pub HasArguments : List Term → List (Rc Term Global) → Type 0
HasArguments terms ts = All (λ t. HasTerm terms t.value) ts

-- the terms and the parts of a rule are nodes of the pool
abbrev pub HasParts : List Term → List of_rule.Rule → RuleKind → Type 0
HasParts terms rules (form.Skip at) = ⊤
HasParts terms rules (form.Update at f ts t) = HasArguments terms ts × HasTerm terms t.value
HasParts terms rules (form.Par' at _ ps) = HasRules rules ps
HasParts terms rules (form.Seq' at _ i p _ j q) = HasRule rules (record { id = i; kind = p }) × HasRule rules (record { id = j; kind = q })
HasParts terms rules (form.If' at g _ i p _ j q) = HasTerm terms g.value × HasRule rules (record { id = i; kind = p }) × HasRule rules (record { id = j; kind = q })
HasParts terms rules (form.Let' at x t _ i p) = HasTerm terms t.value × HasRule rules (record { id = i; kind = p })
HasParts terms rules (form.Forall' at bs g _ i p) = HasTerm terms g.value × HasRule rules (record { id = i; kind = p })
HasParts terms rules (form.Choose' at bs g _ i p _ j q) = HasTerm terms g.value × HasRule rules (record { id = i; kind = p }) × HasRule rules (record { id = j; kind = q })
HasParts terms rules (form.Call at f ts) = HasArguments terms ts

abbrev pub RulesAreBefore : ℕ → {n : _} → Row_of-RuleKind-Par-1-1 n → Type 0
RulesAreBefore bound end_of-RuleKind-Par-1-1 = ⊤
RulesAreBefore bound (more_of-RuleKind-Par-1-1 _ id p ps) = (id < bound) × RulesAreBefore bound ps

-- the parts have smaller numbers
abbrev pub PartsAreBefore : ℕ → RuleKind → Type 0
PartsAreBefore bound (form.Skip at) = ⊤
PartsAreBefore bound (form.Update at f ts t) = ⊤
PartsAreBefore bound (form.Par' at _ ps) = RulesAreBefore bound ps
PartsAreBefore bound (form.Seq' at _ i p _ j q) = (i < bound) × (j < bound)
PartsAreBefore bound (form.If' at g _ i p _ j q) = (i < bound) × (j < bound)
PartsAreBefore bound (form.Let' at x t _ i p) = i < bound
PartsAreBefore bound (form.Forall' at bs g _ i p) = i < bound
PartsAreBefore bound (form.Choose' at bs g _ i p _ j q) = (i < bound) × (j < bound)
PartsAreBefore bound (form.Call at f ts) = ⊤

-- the node is one of the pool, and has the tree
pub record IsNode (pool : Pool) (t : Term) (tree : Tree) : Type 0 where
  pub is_of_pool : HasTerm (terms_of pool) t
  pub is_tree : plain t ≡ tree

-- a pool has further terms after those that it had, and the same rules
pub record HasGrown (old new : Pool) : Type 0 where
  pub further : List Term
  pub terms : terms_of new ≡ terms_of old ++ further
  pub rules : rules_of new ≡ rules_of old

-- a pool has further terms and rules after those that it had
pub record HasFurther (old new : Pool) : Type 0 where
  pub further_terms : List Term
  pub terms : terms_of new ≡ terms_of old ++ further_terms
  pub further_rules : List of_rule.Rule
  pub rules : rules_of new ≡ rules_of old ++ further_rules
