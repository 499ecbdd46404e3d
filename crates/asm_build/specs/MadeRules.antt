-- Nodes that are made for raw rules, with numbers for their variables and for the rules that they call.
use Rattle.std.specs.Prelude.{◌≡◌, ℕ, List, map, All}
use Rattle.std.specs.declared.rc.Rc.{Rc}
use Rattle.std.specs.declared.alloc.Global.{Global}
use Rattle.asm_node.specs.declared.rule.Rule as of_rule
use Rattle.asm_node.specs.Pool.{rules_of, HasRule}
use Rattle.asm_node.specs.RuleTree.{Rule, plain_rule}
use Rattle.asm_tree.specs.declared.unit.LoadedUnit.{LoadedUnit}
use Rattle.asm_faults.specs.At.{Name}
use Rattle.asm_faults.specs.Files.{DeclaredRule, rules}
use Rattle.asm_build.specs.declared.maker.Maker.{Maker}
use Rattle.asm_build.specs.Made.{Agrees}

-- the names of the rules that files declare
abbrev pub rule_names : List LoadedUnit → List Name
rule_names units = map (λ (r : DeclaredRule). r.name.text) (rules units)

-- what is made for a raw rule, by the numbers of the variables and by the files
abbrev pub OfFiles : Type 0 → Type 0
OfFiles A = (Name → ℕ) → List LoadedUnit → A

-- the node is one of the pool, and has the tree in each model whose rules have these names
pub record IsRule (maker : Maker) (names : List Name) (tree : OfFiles Rule) (r : of_rule.Rule) : Type 0 where
  pub is_of_pool : HasRule (rules_of maker.pool) r
  pub is_tree : (number : Name → ℕ) (units : List LoadedUnit) → Agrees number maker.variables → names ≡ rule_names units → plain_rule r ≡ tree number units

abbrev pub plains_of_rules : List (Rc of_rule.Rule Global) → List Rule
plains_of_rules rs = map (λ (r : Rc of_rule.Rule Global). plain_rule r.value) rs

pub record AreRules (maker : Maker) (names : List Name) (trees : OfFiles (List Rule)) (rs : List (Rc of_rule.Rule Global)) : Type 0 where
  pub are_of_pool : All (λ r. HasRule (rules_of maker.pool) r.value) rs
  pub are_trees : (number : Name → ℕ) (units : List LoadedUnit) → Agrees number maker.variables → names ≡ rule_names units → plains_of_rules rs ≡ trees number units
