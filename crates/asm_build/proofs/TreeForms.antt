-- The trees of raw terms, by their variants.
use Rattle.std.proofs.Common.{◌≡◌, ℕ, pos, Bool as Truth, List, [], ◌∷◌, map, refl, ap, sym, ◌∙◌}
use Rattle.asm_domain.specs.declared.value.Value.TheVariants as value
use Rattle.asm_sign.specs.Vocabulary.{Vocabulary}
use Rattle.asm_node.specs.declared.operator.Op.TheVariants.{Equal}
use Rattle.asm_node.specs.Tree as tree
use Rattle.asm_node.specs.Tree.{Tree, plain, plain_all}
use Rattle.asm_node.specs.declared.term.Term.{Term}
use Rattle.std.specs.declared.rc.Rc.{Rc}
use Rattle.std.specs.declared.alloc.Global.{Global}
use Rattle.asm_tree.specs.declared.operator.Op.{Op}
use Rattle.asm_tree.specs.declared.operator.UnaryOp.{UnaryOp}
use Rattle.asm_tree.specs.declared.operator.Quantifier.{Quantifier}
use Rattle.asm_tree.specs.declared.term.RawBinder.{RawBinder}
use Rattle.asm_tree.specs.declared.term.RawTerm.{RawTerm, RawTerm-F, fold_out-RawTerm}
use Rattle.asm_tree.specs.declared.term.RawTermKind.{RawTermKind, fold-RawTermKind, fold-roll-RawTermKind}
use Rattle.asm_tree.specs.declared.term.RawTermKind.TheVariants as term_kind
use Rattle.asm_tree.specs.declared.term.RawTermKind.TheOpen.{RawTermKind-F, RawBind-F, RawCase-F}
use Rattle.asm_tree.specs.declared.term.RawCase.{RawCase, fold-RawCase, fold_out-RawCase}
use Rattle.asm_tree.specs.declared.term.RawBind.{RawBind, fold-RawBind, fold_out-RawBind}
use Rattle.asm_faults.specs.At.{Name}
use Rattle.asm_faults.specs.Terms.{element_in}
use Rattle.asm_faults.specs.Model.{tree_of, tree_kind, trees_of, switch_tree, let_tree, function_number, unary_of, op_of, quantifier_tree, binders_of}
use Rattle.asm_build.specs.Made.{plains}
use Rattle.asm_build.specs.Forms.{cases_from, bounds_from}

module _ (number : Name → ℕ) (v : Vocabulary) where
  abbrev B : Type 0
  B = Name × Tree

  abbrev C : Type 0
  C = Tree × Tree

  abbrev Layer : Type 0
  Layer = RawTermKind-F Tree B C Tree

  abbrev bind_step : RawBind-F Tree B C Tree → B
  bind_step b = (b.variable.text, b.term)

  abbrev case_step : RawCase-F Tree B C Tree → C
  case_step c = (c.label, c.value)

  abbrev term_step : RawTerm-F Tree B C Tree → Tree
  term_step t = t.kind

  abbrev kind_tree : RawTermKind → Tree
  kind_tree = fold-RawTermKind Tree B C Tree (tree_kind number v) bind_step case_step term_step

  abbrev bind_tree : RawBind → B
  bind_tree = fold-RawBind Tree B C Tree (tree_kind number v) bind_step case_step term_step

  abbrev case_tree : RawCase → C
  case_tree = fold-RawCase Tree B C Tree (tree_kind number v) bind_step case_step term_step

  of_term : (t : RawTerm) → tree_of number v t ≡ kind_tree t.kind
  of_term t = fold_out-RawTerm Tree B C Tree (tree_kind number v) bind_step case_step term_step t

  of_bind : (b : RawBind) → bind_tree b ≡ (b.variable.text, tree_of number v b.term)
  of_bind b = fold_out-RawBind Tree B C Tree (tree_kind number v) bind_step case_step term_step b

  of_case : (c : RawCase) → case_tree c ≡ (tree_of number v c.label, tree_of number v c.value)
  of_case c = fold_out-RawCase Tree B C Tree (tree_kind number v) bind_step case_step term_step c

  formed : (t : RawTerm) (k : RawTermKind) (f : Layer) → t.kind ≡ k → kind_tree k ≡ tree_kind number v f → tree_of number v t ≡ tree_kind number v f
  formed t k f e h = of_term t ∙ ap kind_tree e ∙ h

  pub number_is : (t : RawTerm) (x : ℕ) → t.kind ≡ term_kind.Number x → tree.Const (value.Int (pos x)) ≡ tree_of number v t
  number_is t x e = sym (formed t (term_kind.Number x) (RawTermKind-F.Number x) e (ap kind_tree (sym (term_kind.rolls-Number x)) ∙ fold-roll-RawTermKind Tree B C Tree (tree_kind number v) bind_step case_step term_step (RawTermKind-F.Number x)))

  pub truth_is : (t : RawTerm) (x : Truth) → t.kind ≡ term_kind.Truth x → tree.Const (value.Bool x) ≡ tree_of number v t
  truth_is t x e = sym (formed t (term_kind.Truth x) (RawTermKind-F.Truth x) e (ap kind_tree (sym (term_kind.rolls-Truth x)) ∙ fold-roll-RawTermKind Tree B C Tree (tree_kind number v) bind_step case_step term_step (RawTermKind-F.Truth x)))

  pub undef_is : (t : RawTerm) → t.kind ≡ term_kind.Undef → tree.Const value.Undef ≡ tree_of number v t
  undef_is t e = sym (formed t term_kind.Undef (RawTermKind-F.Undef) e (ap kind_tree (sym (term_kind.rolls-Undef)) ∙ fold-roll-RawTermKind Tree B C Tree (tree_kind number v) bind_step case_step term_step RawTermKind-F.Undef))

  pub variable_is : (t : RawTerm) (x : Name) → t.kind ≡ term_kind.Variable x → tree.Var (number x) ≡ tree_of number v t
  variable_is t x e = sym (formed t (term_kind.Variable x) (RawTermKind-F.Variable x) e (ap kind_tree (sym (term_kind.rolls-Variable x)) ∙ fold-roll-RawTermKind Tree B C Tree (tree_kind number v) bind_step case_step term_step (RawTermKind-F.Variable x)))

  pub element_is : (t : RawTerm) (x : Name) → t.kind ≡ term_kind.Element x → tree.Const (element_in v.domains x) ≡ tree_of number v t
  element_is t x e = sym (formed t (term_kind.Element x) (RawTermKind-F.Element x) e (ap kind_tree (sym (term_kind.rolls-Element x)) ∙ fold-roll-RawTermKind Tree B C Tree (tree_kind number v) bind_step case_step term_step (RawTermKind-F.Element x)))

  pub call_is : (t : RawTerm) (f : Name) (ts : List RawTerm) → t.kind ≡ term_kind.Call f ts → tree.Get (function_number number v f) (trees_of number v (map (tree_of number v) ts)) ≡ tree_of number v t
  call_is t f ts e = sym (formed t (term_kind.Call f ts) (RawTermKind-F.Call f (map (tree_of number v) ts)) e (ap kind_tree (sym (term_kind.rolls-Call f ts)) ∙ fold-roll-RawTermKind Tree B C Tree (tree_kind number v) bind_step case_step term_step (RawTermKind-F.Call f ts)))

  pub unary_is : (t : RawTerm) (o : UnaryOp) (x : RawTerm) → t.kind ≡ term_kind.Unary o x → tree.Oper (unary_of number v o) (tree.more (tree_of number v x) tree.none) ≡ tree_of number v t
  unary_is t o x e = sym (formed t (term_kind.Unary o x) (RawTermKind-F.Unary o (tree_of number v x)) e (ap kind_tree (sym (term_kind.rolls-Unary o x)) ∙ fold-roll-RawTermKind Tree B C Tree (tree_kind number v) bind_step case_step term_step (RawTermKind-F.Unary o x)))

  pub binary_is : (t : RawTerm) (o : Op) (x : RawTerm) (y : RawTerm) → t.kind ≡ term_kind.Binary o x y → tree.Oper (op_of number v o) (tree.more (tree_of number v x) (tree.more (tree_of number v y) tree.none)) ≡ tree_of number v t
  binary_is t o x y e = sym (formed t (term_kind.Binary o x y) (RawTermKind-F.Binary o (tree_of number v x) (tree_of number v y)) e (ap kind_tree (sym (term_kind.rolls-Binary o x y)) ∙ fold-roll-RawTermKind Tree B C Tree (tree_kind number v) bind_step case_step term_step (RawTermKind-F.Binary o x y)))

  pub cond_is : (t : RawTerm) (g : RawTerm) (x : RawTerm) (y : RawTerm) → t.kind ≡ term_kind.Cond g x y → tree.Cond (tree_of number v g) (tree_of number v x) (tree_of number v y) ≡ tree_of number v t
  cond_is t g x y e = sym (formed t (term_kind.Cond g x y) (RawTermKind-F.Cond (tree_of number v g) (tree_of number v x) (tree_of number v y)) e (ap kind_tree (sym (term_kind.rolls-Cond g x y)) ∙ fold-roll-RawTermKind Tree B C Tree (tree_kind number v) bind_step case_step term_step (RawTermKind-F.Cond g x y)))

  pub quantified_is : (t : RawTerm) (q : Quantifier) (bs : List RawBinder) (g : RawTerm) → t.kind ≡ term_kind.Quant q bs g → tree.Quant (quantifier_tree number v q) (binders_of number v bs) (tree_of number v g) ≡ tree_of number v t
  quantified_is t q bs g e = sym (formed t (term_kind.Quant q bs g) (RawTermKind-F.Quant q bs (tree_of number v g)) e (ap kind_tree (sym (term_kind.rolls-Quant q bs g)) ∙ fold-roll-RawTermKind Tree B C Tree (tree_kind number v) bind_step case_step term_step (RawTermKind-F.Quant q bs g)))

  nested : (x : Tree) (cs : List RawCase) (y : Tree) → cases_from x (map (λ (c : RawCase). tree_of number v c.label) cs) (map (λ (c : RawCase). tree_of number v c.value) cs) y ≡ switch_tree number v x (map case_tree cs) y
  nested x [] y = refl
  nested x (c ∷ cs) y =
      ap (tree.Cond (tree.Oper Equal (tree.more x (tree.more (tree_of number v c.label) tree.none))) (tree_of number v c.value)) (nested x cs y)
      ∙ ap (λ (p : C). switch_tree number v x (p ∷ map case_tree cs) y) (sym (of_case c))

  bounded : (bs : List RawBind) (y : Tree) → bounds_from (map (λ (b : RawBind). number b.variable.text) bs) (map (λ (b : RawBind). tree_of number v b.term) bs) y ≡ let_tree number v (map bind_tree bs) y
  bounded [] y = refl
  bounded (b ∷ bs) y =
      ap (tree.Let (number b.variable.text) (tree_of number v b.term)) (bounded bs y)
      ∙ ap (λ (p : B). let_tree number v (p ∷ map bind_tree bs) y) (sym (of_bind b))

  pub switch_is : (t x : RawTerm) (cs : List RawCase) (y : RawTerm) → t.kind ≡ term_kind.Switch x cs y
      → cases_from (tree_of number v x) (map (λ (c : RawCase). tree_of number v c.label) cs) (map (λ (c : RawCase). tree_of number v c.value) cs) (tree_of number v y) ≡ tree_of number v t
  switch_is t x cs y e =
      nested (tree_of number v x) cs (tree_of number v y)
      ∙ sym (formed t (term_kind.Switch x cs y) (RawTermKind-F.Switch (tree_of number v x) (map case_tree cs) (tree_of number v y)) e (ap kind_tree (sym (term_kind.rolls-Switch x cs y)) ∙ fold-roll-RawTermKind Tree B C Tree (tree_kind number v) bind_step case_step term_step (RawTermKind-F.Switch x cs y)))

  pub let_is : (t : RawTerm) (bs : List RawBind) (y : RawTerm) → t.kind ≡ term_kind.Let bs y
      → bounds_from (map (λ (b : RawBind). number b.variable.text) bs) (map (λ (b : RawBind). tree_of number v b.term) bs) (tree_of number v y) ≡ tree_of number v t
  let_is t bs y e =
      bounded bs (tree_of number v y)
      ∙ sym (formed t (term_kind.Let bs y) (RawTermKind-F.Let (map bind_tree bs) (tree_of number v y)) e (ap kind_tree (sym (term_kind.rolls-Let bs y)) ∙ fold-roll-RawTermKind Tree B C Tree (tree_kind number v) bind_step case_step term_step (RawTermKind-F.Let bs y)))

-- the trees of a list of nodes
pub all_plain : (number : Name → ℕ) (v : Vocabulary) (ts : List (Rc Term Global)) → plain_all ts ≡ trees_of number v (plains ts)
all_plain number v [] = refl
all_plain number v (t ∷ ts) = ap (tree.more (plain t.value)) (all_plain number v ts)
