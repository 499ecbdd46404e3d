-- The model of checked files: numbers in place of names, and trees in which choices of writing are gone.
use Rattle.std.specs.Prelude.{◌≡◌, ℕ, pos, List, [], ◌∷◌, map, slice_get}
use Rattle.std.specs.Option.{option_map, unwrap_or}
use Rattle.asm_source.specs.declared.sources.Place.{Place}
use Rattle.asm_domain.specs.declared.value.Value.TheVariants as value
use Rattle.asm_sign.specs.Vocabulary.{Vocabulary}
use Rattle.asm_node.specs.declared.operator.Op as node_op
use Rattle.asm_node.specs.declared.operator.Op.TheVariants as node
use Rattle.asm_node.specs.declared.operator.Quantifier as node_quantifier
use Rattle.asm_node.specs.declared.operator.Quantifier.TheVariants as quantifier_of
use Rattle.asm_node.specs.declared.term.Binder.{Binder}
use Rattle.asm_node.specs.Tree as tree
use Rattle.asm_node.specs.Tree.{Tree, Trees}
use Rattle.asm_node.specs.RuleTree as rule
use Rattle.asm_node.specs.RuleTree.{Rule, Rules}
use Rattle.asm_node.specs.Machine.{Machine, Definition, Macro}
use Rattle.asm_tree.specs.declared.operator.Op.{Op}
use Rattle.asm_tree.specs.declared.operator.Op.TheVariants as op
use Rattle.asm_tree.specs.declared.operator.UnaryOp.{UnaryOp}
use Rattle.asm_tree.specs.declared.operator.UnaryOp.TheVariants as unary
use Rattle.asm_tree.specs.declared.operator.Quantifier.{Quantifier}
use Rattle.asm_tree.specs.declared.operator.Quantifier.TheVariants as quantifier
use Rattle.asm_tree.specs.declared.term.RawBinder.{RawBinder}
use Rattle.asm_tree.specs.declared.term.RawBind.{RawBind}
use Rattle.asm_tree.specs.declared.term.RawTerm.{RawTerm, RawTerm-F, fold-RawTerm}
use Rattle.asm_tree.specs.declared.term.RawTermKind.TheOpen.{RawTermKind-F, RawBind-F, RawCase-F}
use Rattle.asm_tree.specs.declared.rule.RawRule.{RawRule, RawRule-F, fold-RawRule}
use Rattle.asm_tree.specs.declared.rule.RawRuleKind.TheOpen.{RawRuleKind-F, RawRuleCase-F}
use Rattle.asm_tree.specs.declared.unit.RawFunction.{RawFunction}
use Rattle.asm_tree.specs.declared.unit.RawInvariant.{RawInvariant}
use Rattle.asm_tree.specs.declared.unit.RawMain.{RawMain}
use Rattle.asm_tree.specs.declared.unit.LoadedUnit.{LoadedUnit}
use Rattle.asm_faults.specs.Files.{Of, DeclaredRule, rules, definitions, initials, invariants, named_of, to_list}
use Rattle.asm_faults.specs.At.{Name}
use Rattle.asm_faults.specs.FunctionFaults.{number_or_whole, signature_of}
use Rattle.asm_faults.specs.Terms.{function_place, element_in}
use Rattle.asm_faults.specs.Calls.{rule_place}

-- different names have different numbers
pub record IsNumbering (number : Name → ℕ) : Type 0 where
  pub apart : (x y : Name) → number x ≡ number y → x ≡ y

module _ (number : Name → ℕ) (v : Vocabulary) where
  abbrev pub function_number : Name → ℕ
  function_number f = unwrap_or (function_place v f) 0

  abbrev pub binders_of : List RawBinder → List Binder
  binders_of bs = map (λ (b : RawBinder). record { variable = number b.variable.text; domain = number_or_whole v.domains b.domain }) bs

  -- ---- terms

  abbrev pub op_of : Op → node_op.Op
  op_of op.Iff = node.Iff
  op_of op.Implies = node.Implies
  op_of op.Or = node.Or
  op_of op.Xor = node.Xor
  op_of op.And = node.And
  op_of op.Equal = node.Equal
  op_of op.NotEqual = node.NotEqual
  op_of op.Less = node.Less
  op_of op.LessEqual = node.LessEqual
  op_of op.Greater = node.Greater
  op_of op.GreaterEqual = node.GreaterEqual
  op_of op.Plus = node.Plus
  op_of op.Minus = node.Minus
  op_of op.Times = node.Times
  op_of op.Mod = node.Mod
  op_of op.Idiv = node.Idiv
  op_of op.Min = node.Min
  op_of op.Max = node.Max

  abbrev pub unary_of : UnaryOp → node_op.Op
  unary_of unary.Not = node.Not
  unary_of unary.Negate = node.Negate
  unary_of unary.Abs = node.Abs
  unary_of unary.IsDefined = node.IsDefined
  unary_of unary.IsUndefined = node.IsUndefined

  abbrev pub quantifier_tree : Quantifier → node_quantifier.Quantifier
  quantifier_tree quantifier.Forall = quantifier_of.Forall
  quantifier_tree quantifier.Exist = quantifier_of.Exist
  quantifier_tree quantifier.ExistUnique = quantifier_of.ExistUnique

  abbrev pub trees_of : List Tree → Trees
  trees_of [] = tree.none
  trees_of (t ∷ ts) = tree.more t (trees_of ts)

  -- a case is taken where the terms are equal
  abbrev pub is_case : Tree → Tree → Tree
  is_case t label = tree.Oper node.Equal (tree.more t (tree.more label tree.none))

  abbrev pub switch_tree : Tree → List (Tree × Tree) → Tree → Tree
  switch_tree t [] other = other
  switch_tree t ((label, u) ∷ cases) other = tree.Cond (is_case t label) u (switch_tree t cases other)

  abbrev pub let_tree : List (Name × Tree) → Tree → Tree
  let_tree [] t = t
  let_tree ((x, u) ∷ bs) t = tree.Let (number x) u (let_tree bs t)

  abbrev pub tree_kind : RawTermKind-F Tree (Name × Tree) (Tree × Tree) Tree → Tree
  tree_kind (RawTermKind-F.Number x) = tree.Const (value.Int (pos x))
  tree_kind (RawTermKind-F.Truth b) = tree.Const (value.Bool b)
  tree_kind RawTermKind-F.Undef = tree.Const value.Undef
  tree_kind (RawTermKind-F.Variable x) = tree.Var (number x)
  tree_kind (RawTermKind-F.Element e) = tree.Const (element_in v.domains e)
  tree_kind (RawTermKind-F.Call f ts) = tree.Get (function_number f) (trees_of ts)
  tree_kind (RawTermKind-F.Unary o t) = tree.Oper (unary_of o) (tree.more t tree.none)
  tree_kind (RawTermKind-F.Binary o t u) = tree.Oper (op_of o) (tree.more t (tree.more u tree.none))
  tree_kind (RawTermKind-F.Cond g t u) = tree.Cond g t u
  tree_kind (RawTermKind-F.Switch t cases u) = switch_tree t cases u
  tree_kind (RawTermKind-F.Let bs t) = let_tree bs t
  tree_kind (RawTermKind-F.Quant q bs g) = tree.Quant (quantifier_tree q) (binders_of bs) g

  abbrev pub tree_of : RawTerm → Tree
  tree_of = fold-RawTerm Tree (Name × Tree) (Tree × Tree) Tree tree_kind
      (λ (b : RawBind-F Tree (Name × Tree) (Tree × Tree) Tree). (b.variable.text, b.term))
      (λ (c : RawCase-F Tree (Name × Tree) (Tree × Tree) Tree). (c.label, c.value))
      (λ (t : RawTerm-F Tree (Name × Tree) (Tree × Tree) Tree). t.kind)

  -- ---- rules, in the file of a number among the sources

  module _ (units : List LoadedUnit) (file : ℕ) where
    abbrev pub rule_number : Name → ℕ
    rule_number r = unwrap_or (rule_place units r) 0

    abbrev pub place_at : ℕ → Place
    place_at at = record { file = file; at = at }

    abbrev pub parts_of : List Rule → Rules
    parts_of [] = rule.none
    parts_of (p ∷ ps) = rule.more p (parts_of ps)

    -- longer sequences to the left
    abbrev pub sequence : Place → Rule → List Rule → Rule
    sequence place p [] = p
    sequence place p (q ∷ qs) = sequence place (rule.Seq place p q) qs

    abbrev pub sequence_of : Place → List Rule → Rule
    sequence_of place [] = rule.Skip place
    sequence_of place (p ∷ ps) = sequence place p ps

    abbrev pub switch_rule : Place → Tree → List (Tree × Rule) → Rule → Rule
    switch_rule place t [] other = other
    switch_rule place t ((label, p) ∷ cases) other = rule.If place (is_case t label) p (switch_rule place t cases other)

    abbrev pub let_rule : Place → List RawBind → Rule → Rule
    let_rule place [] p = p
    let_rule place (b ∷ bs) p = rule.Let place (number b.variable.text) (tree_of b.term) (let_rule place bs p)

    abbrev pub rule_kind : RawRuleKind-F (Place → Rule) Rule (Tree × Rule) → Place → Rule
    rule_kind RawRuleKind-F.Skip place = rule.Skip place
    rule_kind (RawRuleKind-F.Update f ts t) place = rule.Update place (function_number f) (trees_of (map tree_of ts)) (tree_of t)
    rule_kind (RawRuleKind-F.Par ps) place = rule.Par place (parts_of ps)
    rule_kind (RawRuleKind-F.Seq ps) place = sequence_of place ps
    rule_kind (RawRuleKind-F.If g p q) place = rule.If place (tree_of g) p q
    rule_kind (RawRuleKind-F.Switch t cases q) place = switch_rule place (tree_of t) cases q
    rule_kind (RawRuleKind-F.Let bs p) place = let_rule place bs p
    rule_kind (RawRuleKind-F.Forall bs g p) place = rule.Forall place (binders_of bs) (tree_of g) p
    rule_kind (RawRuleKind-F.Choose bs g p q) place = rule.Choose place (binders_of bs) (tree_of g) p q
    rule_kind (RawRuleKind-F.Call r ts) place = rule.Call place (rule_number r) (trees_of (map tree_of ts))

    abbrev pub rule_of : RawRule → Rule
    rule_of = fold-RawRule (Place → Rule) Rule (Tree × Rule) rule_kind
        (λ (r : RawRule-F (Place → Rule) Rule (Tree × Rule)). r.kind (place_at r.at))
        (λ (c : RawRuleCase-F (Place → Rule) Rule (Tree × Rule)). (tree_of c.label, c.rule))

-- ---- the model

module _ (number : Name → ℕ) (v : Vocabulary) (units : List LoadedUnit) where
  -- the file of a unit among the sources
  abbrev pub file_of : ℕ → ℕ
  file_of n = unwrap_or (option_map (λ (u : LoadedUnit). u.file) (slice_get units n)) 0

  abbrev pub definition_of : Of RawFunction → Definition
  definition_of (n, f) =
      record { function = function_number number v f.name.text; parameters = map (λ (b : RawBinder). number b.variable.text) f.parameters; body = tree_of number v f.term }

  abbrev pub macro_of : DeclaredRule → Macro
  macro_of r = record { name = r.name.text; parameters = binders_of number v r.parameters; body = rule_of number v units (file_of r.unit) r.body }

  abbrev pub main_rules : List Rule
  main_rules = map (λ (p : Of RawMain). rule_of number v units (file_of p.0) p.1.rule) (named_of (λ u. to_list u.main) units)

  abbrev pub first_or_skip : List Rule → Rule
  first_or_skip [] = rule.Skip (record { file = 0; at = 0 })
  first_or_skip (p ∷ ps) = p

  -- the model of these files in this vocabulary
  abbrev pub machine_in : Machine
  machine_in = record {
    signature = v;
    definitions = map definition_of (definitions units);
    initial_terms = map definition_of (initials units);
    rules = map macro_of (rules units);
    invariants = map (λ (p : Of RawInvariant). tree_of number v p.1.term) (invariants units);
    main = first_or_skip main_rules;
  }

-- the model that files without a fault are, with variables of these numbers
abbrev pub machine_of : (Name → ℕ) → List LoadedUnit → Machine
machine_of number units = machine_in number (signature_of units) units

-- the machine is the model that the files are, where different variables have different numbers
pub record IsModelOf (units : List LoadedUnit) (m : Machine) : Type 0 where
  pub number : Name → ℕ
  pub is_numbering : IsNumbering number
  pub machine_is : m ≡ machine_of number units
