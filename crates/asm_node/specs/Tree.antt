-- Terms as plain trees. A node of the program is such a tree with a number at each node and pointers between them.
use Rattle.std.specs.Prelude.{ℕ, List, [], ◌∷◌}
use Rattle.std.specs.declared.rc.Rc.{Rc}
use Rattle.std.specs.declared.alloc.Global.{Global}
use Rattle.asm_domain.specs.declared.value.Value.{Value}
use Rattle.asm_node.specs.declared.operator.Op.{Op}
use Rattle.asm_node.specs.declared.operator.Quantifier.{Quantifier}
use Rattle.asm_node.specs.declared.term.Binder.{Binder}
use Rattle.asm_node.specs.declared.term.Term as node
use Rattle.asm_node.specs.declared.term.TermKind.{TermKind, Row_of-TermKind-Get-1-1, end_of-TermKind-Get-1-1, more_of-TermKind-Get-1-1}
use Rattle.asm_node.specs.declared.term.TermKind as kind

mutual
  pub data Tree : Type 0 where
    Const : (value : Value) → Tree
    Var : (variable : ℕ) → Tree
    Within : (domain : ℕ) (term : Tree) → Tree
    Get : (function : ℕ) (arguments : Trees) → Tree
    Oper : (operator : Op) (arguments : Trees) → Tree
    Cond : (guard then_part else_part : Tree) → Tree
    Let : (variable : ℕ) (term body : Tree) → Tree
    Quant : (quantifier : Quantifier) (binders : List Binder) (guard : Tree) → Tree

  pub data Trees : Type 0 where
    none : Trees
    more : (first : Tree) (others : Trees) → Trees

abbrev mutual
  -- the tree of a node's kind
  pub plain_kind : TermKind → Tree
  plain_kind (kind.Const v) = Const v
  plain_kind (kind.Var x) = Var x
  plain_kind (kind.Within' d _ _ t) = Within d (plain_kind t)
  plain_kind (kind.Get' f _ ts) = Get f (plain_row ts)
  plain_kind (kind.Oper' o _ ts) = Oper o (plain_row ts)
  plain_kind (kind.Cond' _ _ g _ _ a _ _ b) = Cond (plain_kind g) (plain_kind a) (plain_kind b)
  plain_kind (kind.Let' x _ _ t _ _ u) = Let x (plain_kind t) (plain_kind u)
  plain_kind (kind.Quant' q bs _ _ g) = Quant q bs (plain_kind g)

  pub plain_row : {n : _} → Row_of-TermKind-Get-1-1 n → Trees
  plain_row end_of-TermKind-Get-1-1 = none
  plain_row (more_of-TermKind-Get-1-1 _ _ t ts) = more (plain_kind t) (plain_row ts)

-- the tree of a node
abbrev pub plain : node.Term → Tree
plain t = plain_kind t.kind

-- the trees of a list of nodes
abbrev pub plain_all : List (Rc node.Term Global) → Trees
plain_all [] = none
plain_all (t ∷ ts) = more (plain t.value) (plain_all ts)
