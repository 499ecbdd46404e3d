-- Which functions terms read and which macro rules rules call, directly or through what these read and call.
use Rattle.std.specs.Prelude.{◌≡◌, ℕ, zero, suc, Bool as Truth, true, ⊤, Option, Some, None, slice_get}
use Rattle.asm_sign.specs.declared.function.FunKind.{FunKind}
use Rattle.asm_node.specs.Tree.{Tree, Const, Var, Within, Get, Oper, Cond, Let, Quant, Trees, none, more}
use Rattle.asm_node.specs.RuleTree.{Rule, Rules, Skip, Update, Par, Seq, If, Let as LetRule, Forall, Choose, Call, none as no_rule, more as more_rules}
use Rattle.asm_node.specs.Machine.{Machine, Definition, Macro, definition_of, has_kind}

-- what is to hold of each function or each macro rule
abbrev pub OfNumbers : Type 1
OfNumbers = ℕ → Type 0

module _ (holds : OfNumbers) where
  abbrev mutual
    -- it holds of each function that the term reads
    pub ReadsOnly : Tree → Type 0
    ReadsOnly (Const v) = ⊤
    ReadsOnly (Var x) = ⊤
    ReadsOnly (Within d t) = ReadsOnly t
    ReadsOnly (Get f ts) = holds f × ReadOnly ts
    ReadsOnly (Oper o ts) = ReadOnly ts
    ReadsOnly (Cond g t u) = ReadsOnly g × ReadsOnly t × ReadsOnly u
    ReadsOnly (Let x t u) = ReadsOnly t × ReadsOnly u
    ReadsOnly (Quant q bs g) = ReadsOnly g

    pub ReadOnly : Trees → Type 0
    ReadOnly none = ⊤
    ReadOnly (more t ts) = ReadsOnly t × ReadOnly ts

  abbrev mutual
    -- it holds of each macro rule that the rule calls
    pub CallsOnly : Rule → Type 0
    CallsOnly (Skip place) = ⊤
    CallsOnly (Update place f ts t) = ⊤
    CallsOnly (Par place rs) = CallOnly rs
    CallsOnly (Seq place p q) = CallsOnly p × CallsOnly q
    CallsOnly (If place g p q) = CallsOnly p × CallsOnly q
    CallsOnly (LetRule place x t p) = CallsOnly p
    CallsOnly (Forall place bs g p) = CallsOnly p
    CallsOnly (Choose place bs g p q) = CallsOnly p × CallsOnly q
    CallsOnly (Call place f ts) = holds f

    pub CallOnly : Rules → Type 0
    CallOnly no_rule = ⊤
    CallOnly (more_rules r rs) = CallsOnly r × CallOnly rs

  abbrev pub DefinitionReadsOnly : Option Definition → Type 0
  DefinitionReadsOnly (Some d) = ReadsOnly d.body
  DefinitionReadsOnly None = ⊤

  abbrev pub MacroCallsOnly : Option Macro → Type 0
  MacroCallsOnly (Some macro) = CallsOnly macro.body
  MacroCallsOnly None = ⊤

-- the function is of an allowed kind, and so is each that it reads; at most n definitions stand inside one another
abbrev pub may_be_read : Machine → (FunKind → Truth) → ℕ → OfNumbers
may_be_read m allowed zero f = (has_kind allowed (slice_get m.signature.functions f) ≡ true) × (definition_of m.definitions f ≡ None)
may_be_read m allowed (suc n) f = (has_kind allowed (slice_get m.signature.functions f) ≡ true) × DefinitionReadsOnly (may_be_read m allowed n) (definition_of m.definitions f)

-- at most n macro rules stand inside one another
abbrev pub may_be_called : Machine → ℕ → OfNumbers
may_be_called m zero f = ⊥
may_be_called m (suc n) f = MacroCallsOnly (may_be_called m n) (slice_get m.rules f)

-- a term reads functions of allowed kinds alone, also through definitions
abbrev pub IsReadable : Machine → (FunKind → Truth) → Tree → Type 0
IsReadable m allowed t = ReadsOnly (may_be_read m allowed 32) t
