-- The types of terms, and the rules whose terms have the types that are asked for.
use Rattle.std.specs.Prelude.{◌≡◌, ℕ, true, ⊤, nat_eq, if◌then◌else◌, List, [], ◌∷◌, map, Option, Some, None, slice_get}
use Rattle.std.specs.Option.{option_map}
use Rattle.asm_domain.specs.declared.value.Value.{Value}
use Rattle.asm_domain.specs.declared.value.Value.TheVariants.{Undef, Bool, Int, Elem}
use Rattle.asm_domain.specs.Universe.{Universe, Truths, Numbers, Named}
use Rattle.asm_sign.specs.declared.function.DeclaredDomain.{DeclaredDomain}
use Rattle.asm_sign.specs.declared.function.Function.{Function}
use Rattle.asm_sign.specs.Kind.{is_kept}
use Rattle.asm_sign.specs.Vocabulary.{Vocabulary}
use Rattle.asm_node.specs.declared.operator.Op.{Op}
use Rattle.asm_node.specs.declared.operator.Op.TheVariants as op
use Rattle.asm_node.specs.declared.term.Binder.{Binder}
use Rattle.asm_node.specs.declared.term_type.TermType.{TermType}
use Rattle.asm_node.specs.declared.term_type.TermType.TheVariants.{Boolean, Integer, ElementOf}
use Rattle.asm_node.specs.Tree.{Tree, Const, Var, Within, Get, Oper, Cond, Let, Quant, Trees, none, more}
use Rattle.asm_node.specs.RuleTree.{Rule, Rules, Skip, Update, Par, Seq, If, Let as LetRule, Forall, Choose, Call, none as no_rule, more as more_rules}
use Rattle.asm_node.specs.Values.{is_element, whole}
use Rattle.asm_node.specs.Machine.{Macro}

-- the type of a domain's elements: ranges and lists have numbers
abbrev pub type_of : Universe → TermType
type_of Truths = Boolean
type_of (Numbers numbers) = Integer
type_of (Named number names) = ElementOf number

-- the type of the elements of a domain, where it is declared
abbrev pub domain_type : List DeclaredDomain → ℕ → Option TermType
domain_type domains d = if nat_eq d whole then Some Integer else option_map (λ declared. type_of declared.domain) (slice_get domains d)

-- a constant has the type; `undef` has every type
abbrev pub IsConstant : List DeclaredDomain → Value → TermType → Type 0
IsConstant domains Undef type = ⊤
IsConstant domains (Bool b) type = type ≡ Boolean
IsConstant domains (Int z) type = type ≡ Integer
IsConstant domains (Elem d k) type = (type ≡ ElementOf d) × (is_element domains d (Elem d k) ≡ true)

-- arguments of these types make a term of this one
abbrev pub Makes : List TermType → TermType → List TermType → TermType → Type 0
Makes arguments result types type = (types ≡ arguments) × (type ≡ result)

-- two arguments of one type make a truth value
abbrev pub MakesTest : List TermType → TermType → Type 0
MakesTest types type = ((s : TermType) × (types ≡ s ∷ s ∷ [])) × (type ≡ Boolean)

-- one argument of any type makes a truth value
abbrev pub MakesTestOfOne : List TermType → TermType → Type 0
MakesTestOfOne types type = ((s : TermType) × (types ≡ s ∷ [])) × (type ≡ Boolean)

-- the types of an operator's arguments and of what it makes of them
abbrev pub OperatorMakes : Op → List TermType → TermType → Type 0
OperatorMakes op.Iff = Makes (Boolean ∷ Boolean ∷ []) Boolean
OperatorMakes op.Implies = Makes (Boolean ∷ Boolean ∷ []) Boolean
OperatorMakes op.Or = Makes (Boolean ∷ Boolean ∷ []) Boolean
OperatorMakes op.Xor = Makes (Boolean ∷ Boolean ∷ []) Boolean
OperatorMakes op.And = Makes (Boolean ∷ Boolean ∷ []) Boolean
OperatorMakes op.Not = Makes (Boolean ∷ []) Boolean
OperatorMakes op.Equal = MakesTest
OperatorMakes op.NotEqual = MakesTest
OperatorMakes op.Less = Makes (Integer ∷ Integer ∷ []) Boolean
OperatorMakes op.LessEqual = Makes (Integer ∷ Integer ∷ []) Boolean
OperatorMakes op.Greater = Makes (Integer ∷ Integer ∷ []) Boolean
OperatorMakes op.GreaterEqual = Makes (Integer ∷ Integer ∷ []) Boolean
OperatorMakes op.Plus = Makes (Integer ∷ Integer ∷ []) Integer
OperatorMakes op.Minus = Makes (Integer ∷ Integer ∷ []) Integer
OperatorMakes op.Negate = Makes (Integer ∷ []) Integer
OperatorMakes op.Times = Makes (Integer ∷ Integer ∷ []) Integer
OperatorMakes op.Mod = Makes (Integer ∷ Integer ∷ []) Integer
OperatorMakes op.Idiv = Makes (Integer ∷ Integer ∷ []) Integer
OperatorMakes op.Min = Makes (Integer ∷ Integer ∷ []) Integer
OperatorMakes op.Max = Makes (Integer ∷ Integer ∷ []) Integer
OperatorMakes op.Abs = Makes (Integer ∷ []) Integer
OperatorMakes op.IsDefined = MakesTestOfOne
OperatorMakes op.IsUndefined = MakesTestOfOne

-- ---- variables

-- the type of each variable that is bound; one that is bound to a term of every type, such as `undef`, has none of its own
abbrev pub Types : Type 0
Types = ℕ → Option (Option TermType)

-- no variable is bound
abbrev pub no_types : Types
no_types = λ y. None

abbrev pub put_type : ℕ → Option (Option TermType) → Types → Types
put_type x type types = λ y. if nat_eq x y then type else types y

-- what is bound so has the type
abbrev pub Fits : Option (Option TermType) → TermType → Type 0
Fits None type = ⊥
Fits (Some None) type = ⊤
Fits (Some (Some s)) type = s ≡ type

-- the elements of a declared domain
abbrev pub of_domain : List DeclaredDomain → ℕ → Option (Option TermType)
of_domain domains d = option_map Some (domain_type domains d)

-- the variables of binders have the types of their domains
abbrev pub bound_types : List DeclaredDomain → List Binder → Types → Types
bound_types domains [] types = types
bound_types domains (b ∷ bs) types = put_type b.variable (of_domain domains b.domain) (bound_types domains bs types)

-- parameters have the types of their domains, and no other variable is bound
abbrev pub parameter_types : List DeclaredDomain → List ℕ → List ℕ → Types
parameter_types domains (x ∷ xs) (d ∷ ds) = put_type x (of_domain domains d) (parameter_types domains xs ds)
parameter_types domains _ _ = no_types

-- ---- terms

module _ (signature : Vocabulary) where
  abbrev mutual
    -- a constant and a variable have their types, `Within` that of its term and of its domain alike
    -- a read names a function, has one argument of the type of each of its domains, and the type of its codomain
    -- an operator has the type that it makes of its arguments' types
    -- a conditional has a truth value for its guard, and the type of both branches
    -- a `let` has the type of its body, where the variable has no type that its term hasn't
    -- a quantifier has declared domains, and a truth value for its guard
    pub HasType : Types → Tree → TermType → Type 0
    HasType types (Const v) type = IsConstant signature.domains v type
    HasType types (Var x) type = Fits (types x) type
    HasType types (Within d t) type = HasType types t type × (domain_type signature.domains d ≡ Some type)
    HasType types (Get f ts) type =
        (function : Function) × (slice_get signature.functions f ≡ Some function) × HaveDomains types ts function.domains × (domain_type signature.domains function.codomain ≡ Some type)
    HasType types (Oper o ts) type = (ss : List TermType) × HaveTypes types ts ss × OperatorMakes o ss type
    HasType types (Cond g t u) type = HasType types g Boolean × HasType types t type × HasType types u type
    HasType types (Let x t u) type = (s : Option TermType) × ((r : TermType) → Fits (Some s) r → HasType types t r) × HasType (put_type x (Some s) types) u type
    HasType types (Quant q bs g) type = HasType (bound_types signature.domains bs types) g Boolean × (type ≡ Boolean)

    -- the types of terms
    pub HaveTypes : Types → Trees → List TermType → Type 0
    HaveTypes types none [] = ⊤
    HaveTypes types (more t ts) (s ∷ ss) = HasType types t s × HaveTypes types ts ss
    HaveTypes types _ _ = ⊥

    -- one term for each domain, of the type of its elements
    pub HaveDomains : Types → Trees → List ℕ → Type 0
    HaveDomains types none [] = ⊤
    HaveDomains types (more t ts) (d ∷ ds) = ((s : TermType) × (domain_type signature.domains d ≡ Some s) × HasType types t s) × HaveDomains types ts ds
    HaveDomains types _ _ = ⊥

  -- ---- rules

  module _ (rules : List Macro) where
    abbrev mutual
      -- an update names a kept function, has one argument of the type of each of its domains, and a value of that of its codomain
      -- guards are truth values; the variable of a `let` has no type that its term hasn't, that of a binder has its domain's
      -- a call names a macro rule, and has one term of the type of each parameter's domain
      pub IsTypedRule : Types → Rule → Type 0
      IsTypedRule types (Skip place) = ⊤
      IsTypedRule types (Update place f ts t) =
          (function : Function) × (slice_get signature.functions f ≡ Some function) × (is_kept function.kind ≡ true) × HaveDomains types ts function.domains × ((s : TermType) × (domain_type signature.domains function.codomain ≡ Some s) × HasType types t s)
      IsTypedRule types (Par place rs) = AreTypedRules types rs
      IsTypedRule types (Seq place p q) = IsTypedRule types p × IsTypedRule types q
      IsTypedRule types (If place g p q) = HasType types g Boolean × IsTypedRule types p × IsTypedRule types q
      IsTypedRule types (LetRule place x t p) = (s : Option TermType) × ((r : TermType) → Fits (Some s) r → HasType types t r) × IsTypedRule (put_type x (Some s) types) p
      IsTypedRule types (Forall place bs g p) = HasType (bound_types signature.domains bs types) g Boolean × IsTypedRule (bound_types signature.domains bs types) p
      IsTypedRule types (Choose place bs g p q) =
          HasType (bound_types signature.domains bs types) g Boolean × IsTypedRule (bound_types signature.domains bs types) p × IsTypedRule types q
      IsTypedRule types (Call place f ts) = (macro : Macro) × (slice_get rules f ≡ Some macro) × HaveDomains types ts (map (λ p. p.domain) macro.parameters)

      pub AreTypedRules : Types → Rules → Type 0
      AreTypedRules types no_rule = ⊤
      AreTypedRules types (more_rules r rs) = IsTypedRule types r × AreTypedRules types rs
