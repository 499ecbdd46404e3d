-- Nodes that are made for raw terms, with numbers for their variables.
use Rattle.std.specs.Prelude.{◌≡◌, ℕ, List, ◌++◌, map, Some}
use Rattle.std.specs.declared.rc.Rc.{Rc}
use Rattle.std.specs.declared.alloc.Global.{Global}
use Rattle.name_table.specs.Numbered.{number_of}
use Rattle.asm_node.specs.declared.term.Term.{Term}
use Rattle.asm_node.specs.declared.term.Binder.{Binder}
use Rattle.asm_node.specs.declared.rule.Rule as of_rule
use Rattle.asm_node.specs.Pool.{terms_of, rules_of, HasTerm, HasArguments}
use Rattle.asm_node.specs.Tree.{Tree, plain}
use Rattle.asm_faults.specs.At.{Name}
use Rattle.asm_build.specs.declared.maker.Maker.{Maker}

-- a numbering of all names has the numbers of these
pub record Agrees (number : Name → ℕ) (names : List Name) : Type 0 where
  pub at : (x : Name) (k : ℕ) → number_of names x ≡ Some k → number x ≡ k

-- further nodes and names were added
pub record HasGrown (old new : Maker) : Type 0 where
  pub further_terms : List Term
  pub terms : terms_of new.pool ≡ terms_of old.pool ++ further_terms
  pub further_rules : List of_rule.Rule
  pub rules : rules_of new.pool ≡ rules_of old.pool ++ further_rules
  pub further_names : List Name
  pub names : new.variables ≡ old.variables ++ further_names

-- what is made for a raw term, by the numbers of the variables
abbrev pub Numbered : Type 0 → Type 0
Numbered A = (Name → ℕ) → A

-- the node is one of the pool, and has the tree
pub record IsTerm (maker : Maker) (tree : Numbered Tree) (t : Term) : Type 0 where
  pub is_of_pool : HasTerm (terms_of maker.pool) t
  pub is_tree : (number : Name → ℕ) → Agrees number maker.variables → plain t ≡ tree number

-- the trees of nodes
abbrev pub plains : List (Rc Term Global) → List Tree
plains ts = map (λ (t : Rc Term Global). plain t.value) ts

pub record AreTerms (maker : Maker) (trees : Numbered (List Tree)) (ts : List (Rc Term Global)) : Type 0 where
  pub are_of_pool : HasArguments (terms_of maker.pool) ts
  pub are_trees : (number : Name → ℕ) → Agrees number maker.variables → plains ts ≡ trees number

-- the numbers of variables
pub record AreNumbers (maker : Maker) (numbers : Numbered (List ℕ)) (xs : List ℕ) : Type 0 where
  pub are : (number : Name → ℕ) → Agrees number maker.variables → xs ≡ numbers number

-- binders with the numbers of their variables
pub record AreBinders (maker : Maker) (binders : Numbered (List Binder)) (bs : List Binder) : Type 0 where
  pub are : (number : Name → ℕ) → Agrees number maker.variables → bs ≡ binders number
