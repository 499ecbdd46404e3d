-- The conditions and rules of scenarios over a model, and what is wrong with them.
use Rattle.std.specs.Prelude.{◌≡◌, ℕ, List, [], ◌∷◌, map, Option, Some}
use Rattle.std.specs.Option.{option_map}
use Rattle.asm_sign.specs.Vocabulary.{Vocabulary}
use Rattle.asm_node.specs.declared.term.Binder.{Binder}
use Rattle.asm_node.specs.declared.term_type.TermType.TheVariants.{Boolean}
use Rattle.asm_node.specs.Machine.{Machine, Macro}
use Rattle.asm_node.specs.RuleTree.{Rule}
use Rattle.asm_node.specs.Tree.{Tree}
use Rattle.asm_node.specs.Types.{domain_type}
use Rattle.asm_tree.specs.declared.rule.RawRule.{RawRule}
use Rattle.asm_tree.specs.declared.term.RawTerm.{RawTerm}
use Rattle.asm_tree.specs.declared.unit.LoadedUnit.{LoadedUnit}
use Rattle.asm_faults.specs.declared.fault.Fault.{Fault as Found}
use Rattle.asm_faults.specs.At.{Name}
use Rattle.asm_faults.specs.Bodies as bodies
use Rattle.asm_faults.specs.Bodies.{RuleHead}
use Rattle.asm_faults.specs.Files.{DeclaredRule, rules}
use Rattle.asm_faults.specs.First.{first_fault}
use Rattle.asm_faults.specs.Model.{IsNumbering, rule_of, tree_of}
use Rattle.asm_faults.specs.Ranges as ranges
use Rattle.asm_faults.specs.Ranges.{measured}
use Rattle.asm_faults.specs.Terms.{asked, judged}
use Rattle.asm_faults.specs.declared.error.ModelError.{ModelError}
use Rattle.asm_faults.specs.declared.error.ModelError.TheVariants.{Fault, Memory}

-- ---- the rules that a scenario may call

-- a rule of the model as others call it
abbrev pub head_of : Vocabulary → Macro → RuleHead
head_of v macro = record { name = macro.name; types = map (λ (b : Binder). domain_type v.domains b.domain) macro.parameters }

-- the rules of a model as others call them
abbrev pub heads_in : Machine → List RuleHead
heads_in m = map (head_of m.signature) m.rules

abbrev pub rule_names : Machine → List Name
rule_names m = map (λ (macro : Macro). macro.name) m.rules

-- the files declare rules of the names that the model's rules have
abbrev pub AreNamedAlike : List LoadedUnit → Machine → Type 0
AreNamedAlike units m = map (λ (r : DeclaredRule). r.name.text) (rules units) ≡ rule_names m

-- ---- what is wrong first

-- what is wrong first with a term that has to be a truth value and has no free variable: a name or a type, then an interval
abbrev pub condition_fault : Vocabulary → RawTerm → Option Found
condition_fault v t = first_fault (asked v 0 (Some Boolean) [] (judged v 0 t) ∷ (measured v 0 t).faults [] ∷ [])

-- what is wrong first with a rule that has no free variable: a name or a type, then an interval
abbrev pub rule_fault : Machine → RawRule → Option Found
rule_fault m r = first_fault (bodies.rule_faults m.signature (heads_in m) 0 r [] ∷ ranges.rule_faults m.signature 0 r [] ∷ [])

-- a fault in the file of this number is told by its kind, the text of its token, and the place of that
abbrev pub told_in : ℕ → Found → ModelError
told_in file f = Fault f.kind f.name (record { file = file; at = f.at })

-- this is told of a fault in the file of this number, where there is one; of want of memory nothing is said
abbrev pub Tells : ℕ → Option Found → ModelError → Type 0
Tells file first (Fault kind name place) = option_map (told_in file) first ≡ Some (Fault kind name place)
Tells file first Memory = Unit {0}

-- ---- what it is over the model

-- the tree is what the term is, where different variables have different numbers
pub record IsConditionOf (v : Vocabulary) (raw : RawTerm) (tree : Tree) : Type 0 where
  pub number : Name → ℕ
  pub is_numbering : IsNumbering number
  pub tree_is : tree ≡ tree_of number v raw

-- the tree is what the rule of the file of this number is, where different variables have different numbers; a call is of the model's rule of its name
pub record IsRuleOf (m : Machine) (file : ℕ) (raw : RawRule) (tree : Rule) : Type 0 where
  pub number : Name → ℕ
  pub is_numbering : IsNumbering number
  pub tree_is : (units : List LoadedUnit) → AreNamedAlike units m → tree ≡ rule_of number m.signature units file raw
