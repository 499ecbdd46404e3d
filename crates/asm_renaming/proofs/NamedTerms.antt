-- Terms with the names of variables in place of their numbers.
use Rattle.std.proofs.Common.{ℕ, List}
use Rattle.asm_domain.specs.declared.value.Value.{Value}
use Rattle.asm_sign.specs.Vocabulary.{Vocabulary}
use Rattle.asm_node.specs.declared.operator.Op.{Op}
use Rattle.asm_node.specs.declared.operator.Quantifier.{Quantifier}
use Rattle.asm_node.specs.Tree as tree
use Rattle.asm_node.specs.Tree.{Tree, Trees}
use Rattle.asm_tree.specs.declared.term.RawBinder.{RawBinder}
use Rattle.asm_faults.specs.At.{Name}
use Rattle.asm_faults.specs.Model.{binders_of}

mutual
  pub data NamedTerm : Type 0 where
    Const : (value : Value) → NamedTerm
    Var : (variable : Name) → NamedTerm
    Within : (domain : ℕ) (term : NamedTerm) → NamedTerm
    Get : (function : ℕ) (arguments : NamedTerms) → NamedTerm
    Oper : (operator : Op) (arguments : NamedTerms) → NamedTerm
    Cond : (guard then_part else_part : NamedTerm) → NamedTerm
    Let : (variable : Name) (term body : NamedTerm) → NamedTerm
    Quant : (quantifier : Quantifier) (binders : List RawBinder) (guard : NamedTerm) → NamedTerm

  pub data NamedTerms : Type 0 where
    none : NamedTerms
    more : (first : NamedTerm) (others : NamedTerms) → NamedTerms

module _ (number : Name → ℕ) (v : Vocabulary) where
  abbrev mutual
    -- the tree under a numbering
    pub term_in : NamedTerm → Tree
    term_in (Const a) = tree.Const a
    term_in (Var x) = tree.Var (number x)
    term_in (Within d t) = tree.Within d (term_in t)
    term_in (Get f ts) = tree.Get f (terms_in ts)
    term_in (Oper o ts) = tree.Oper o (terms_in ts)
    term_in (Cond g t u) = tree.Cond (term_in g) (term_in t) (term_in u)
    term_in (Let x t u) = tree.Let (number x) (term_in t) (term_in u)
    term_in (Quant q bs g) = tree.Quant q (binders_of number v bs) (term_in g)

    pub terms_in : NamedTerms → Trees
    terms_in none = tree.none
    terms_in (more t ts) = tree.more (term_in t) (terms_in ts)
