-- What is added to lists of the parts of a model.
use Rattle.std.specs.Prelude.{◌≡◌, ℕ, List, ◌++◌, map, All, slice_get}
use Rattle.std.specs.Option.{option_map, unwrap_or}
use Rattle.std.specs.declared.rc.Rc.{Rc}
use Rattle.std.specs.declared.alloc.Global.{Global}
use Rattle.asm_node.specs.declared.definition.Definition.{Definition}
use Rattle.asm_node.specs.declared.definition.MacroRule.{MacroRule}
use Rattle.asm_node.specs.declared.term.Term.{Term}
use Rattle.asm_node.specs.declared.rule.Rule as of_rule
use Rattle.asm_node.specs.Tree.{Tree, plain}
use Rattle.asm_node.specs.RuleTree.{plain_rule}
use Rattle.asm_node.specs.Machine.{Macro}
use Rattle.asm_node.specs.Machine as machine
use Rattle.asm_node.specs.Parts.{defined_by, macro_by}
use Rattle.asm_node.specs.Pool.{terms_of, rules_of, HasTerm, HasRule}
use Rattle.asm_sign.specs.Vocabulary.{Vocabulary}
use Rattle.asm_tree.specs.declared.unit.LoadedUnit.{LoadedUnit}
use Rattle.asm_faults.specs.At.{Name}
use Rattle.asm_faults.specs.Model.{main_rules, first_or_skip}
use Rattle.asm_build.specs.declared.maker.Maker.{Maker}
use Rattle.asm_build.specs.Made.{Agrees, HasGrown, Numbered}

-- further items stand behind the old ones; their nodes are of the pool, and they are what is wanted
pub record Added {X A : Type 0} (held : Maker → X → Type 0) (shown : X → A) (before after : Maker) (wanted : Numbered (List A)) (old new : List X) : Type 0 where
  pub grown : HasGrown before after
  pub further : List X
  pub is : new ≡ old ++ further
  pub are_of_pool : All (held after) further
  pub are_wanted : (number : Name → ℕ) → Agrees number after.variables → map shown further ≡ wanted number

abbrev pub HasBody : Maker → Definition → Type 0
HasBody maker d = HasTerm (terms_of maker.pool) d.term.value

abbrev pub HasMacro : Maker → MacroRule → Type 0
HasMacro maker r = HasRule (rules_of maker.pool) r.body.value

abbrev pub HasNode : Maker → Rc Term Global → Type 0
HasNode maker t = HasTerm (terms_of maker.pool) t.value

abbrev pub tree_in : Rc Term Global → Tree
tree_in t = plain t.value

abbrev pub AddsDefinitions : Maker → Maker → Numbered (List machine.Definition) → List Definition → List Definition → Type 0
AddsDefinitions before after wanted old new = Added HasBody defined_by before after wanted old new

abbrev pub AddsMacros : Maker → Maker → Numbered (List Macro) → List MacroRule → List MacroRule → Type 0
AddsMacros before after wanted old new = Added HasMacro macro_by before after wanted old new

abbrev pub AddsTerms : Maker → Maker → Numbered (List Tree) → List (Rc Term Global) → List (Rc Term Global) → Type 0
AddsTerms before after wanted old new = Added HasNode tree_in before after wanted old new

-- the file of a unit among the sources
abbrev pub file_at : List LoadedUnit → ℕ → ℕ
file_at units n = unwrap_or (option_map (λ (u : LoadedUnit). u.file) (slice_get units n)) 0

-- the node is one of the pool, and has the tree of the main rule
pub record IsMain (maker : Maker) (v : Vocabulary) (units : List LoadedUnit) (r : of_rule.Rule) : Type 0 where
  pub is_of_pool : HasRule (rules_of maker.pool) r
  pub is_tree : (number : Name → ℕ) → Agrees number maker.variables → plain_rule r ≡ first_or_skip number v units (main_rules number v units)
