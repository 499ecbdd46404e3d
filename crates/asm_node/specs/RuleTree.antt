-- Rules as plain trees.
use Rattle.std.specs.Prelude.{ℕ, List, [], ◌∷◌}
use Rattle.std.specs.declared.rc.Rc.{Rc}
use Rattle.std.specs.declared.alloc.Global.{Global}
use Rattle.asm_source.specs.declared.sources.Place.{Place}
use Rattle.asm_node.specs.declared.term.Binder.{Binder}
use Rattle.asm_node.specs.declared.rule.Rule as node
use Rattle.asm_node.specs.declared.rule.RuleKind.{RuleKind, Row_of-RuleKind-Par-1-1, end_of-RuleKind-Par-1-1, more_of-RuleKind-Par-1-1}
use Rattle.asm_node.specs.declared.rule.RuleKind as kind
use Rattle.asm_node.specs.Tree.{Tree, Trees, plain, plain_all}

-- each rule has the place of its first token
mutual
  pub data Rule : Type 0 where
    Skip : (place : Place) → Rule
    Update : (place : Place) (function : ℕ) (arguments : Trees) (value : Tree) → Rule
    Par : (place : Place) (parts : Rules) → Rule
    Seq : (place : Place) (first second : Rule) → Rule
    If : (place : Place) (guard : Tree) (then_part else_part : Rule) → Rule
    Let : (place : Place) (variable : ℕ) (term : Tree) (body : Rule) → Rule
    Forall : (place : Place) (binders : List Binder) (guard : Tree) (body : Rule) → Rule
    Choose : (place : Place) (binders : List Binder) (guard : Tree) (body otherwise : Rule) → Rule
    Call : (place : Place) (rule : ℕ) (actuals : Trees) → Rule

  pub data Rules : Type 0 where
    none : Rules
    more : (first : Rule) (others : Rules) → Rules

abbrev mutual
  -- the tree of a node's kind
  pub plain_kind : RuleKind → Rule
  plain_kind (kind.Skip at) = Skip at
  plain_kind (kind.Update at f ts t) = Update at f (plain_all ts) (plain t.value)
  plain_kind (kind.Par' at _ rs) = Par at (plain_row rs)
  plain_kind (kind.Seq' at _ _ p _ _ q) = Seq at (plain_kind p) (plain_kind q)
  plain_kind (kind.If' at g _ _ p _ _ q) = If at (plain g.value) (plain_kind p) (plain_kind q)
  plain_kind (kind.Let' at x t _ _ p) = Let at x (plain t.value) (plain_kind p)
  plain_kind (kind.Forall' at bs g _ _ p) = Forall at bs (plain g.value) (plain_kind p)
  plain_kind (kind.Choose' at bs g _ _ p _ _ q) = Choose at bs (plain g.value) (plain_kind p) (plain_kind q)
  plain_kind (kind.Call at f ts) = Call at f (plain_all ts)

  pub plain_row : {n : _} → Row_of-RuleKind-Par-1-1 n → Rules
  plain_row end_of-RuleKind-Par-1-1 = none
  plain_row (more_of-RuleKind-Par-1-1 _ _ p rs) = more (plain_kind p) (plain_row rs)

-- the tree of a node
abbrev pub plain_rule : node.Rule → Rule
plain_rule r = plain_kind r.kind

-- the trees of a list of nodes
abbrev pub plain_rules : List (Rc node.Rule Global) → Rules
plain_rules [] = none
plain_rules (r ∷ rs) = more (plain_rule r.value) (plain_rules rs)
