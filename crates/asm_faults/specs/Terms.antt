-- The types of terms, and what is wrong with a term in a scope.
use Rattle.std.specs.Prelude.{ℕ, Bool as Truth, true, false, nat_eq, if◌then◌else◌, List, [], ◌∷◌, ◌++◌, map, length, Option, Some, None, bytes_eq, slice_get}
use Rattle.std.specs.List.{flat_map, position}
use Rattle.asm_domain.specs.declared.value.Value.{Value}
use Rattle.asm_domain.specs.declared.value.Value.TheVariants.{Undef, Elem}
use Rattle.asm_sign.specs.declared.function.DeclaredDomain.{DeclaredDomain}
use Rattle.asm_sign.specs.declared.function.Function.{Function}
use Rattle.asm_sign.specs.Vocabulary.{Vocabulary}
use Rattle.asm_node.specs.declared.term_type.TermType.{TermType}
use Rattle.asm_node.specs.declared.term_type.TermType.TheVariants.{Boolean, Integer, ElementOf}
use Rattle.asm_node.specs.Machine as machine
use Rattle.asm_node.specs.Types.{domain_type}
use Rattle.asm_tree.specs.declared.operator.Op.{Op}
use Rattle.asm_tree.specs.declared.operator.Op.TheVariants as op
use Rattle.asm_tree.specs.declared.operator.UnaryOp.{UnaryOp}
use Rattle.asm_tree.specs.declared.operator.UnaryOp.TheVariants as unary
use Rattle.asm_tree.specs.declared.term.RawName.{RawName}
use Rattle.asm_tree.specs.declared.term.RawBinder.{RawBinder}
use Rattle.asm_tree.specs.declared.term.RawTerm.{RawTerm, RawTerm-F, fold-RawTerm}
use Rattle.asm_tree.specs.declared.term.RawTermKind.TheOpen.{RawTermKind-F, RawBind-F, RawCase-F}
use Rattle.asm_faults.specs.declared.fault.Fault.{Fault}
use Rattle.asm_faults.specs.declared.fault.ModelFault.TheVariants.{Unknown, WrongKind, WrongArity, WrongType, Unbound}
use Rattle.asm_faults.specs.At.{Name, fault_at, token}
use Rattle.asm_faults.specs.Files.{Of, has_name}
use Rattle.asm_faults.specs.DomainFaults.{integer, repeats}
use Rattle.asm_faults.specs.FunctionFaults.{domain_number, unknown_domain}

-- ---- what names stand for

-- the type of a domain's elements, where it is declared
abbrev pub type_named : Vocabulary → Name → Option TermType
type_named v text = of_number (domain_number v.domains text)
  where
    of_number : Option ℕ → Option TermType
    of_number None = None
    of_number (Some d) = domain_type v.domains d

abbrev pub function_place : Vocabulary → Name → Option ℕ
function_place v text = position (λ (f : Function). bytes_eq f.name text) v.functions

-- the declared function of a name
abbrev pub function_named : Vocabulary → Name → Option Function
function_named v text = of_place (function_place v text)
  where
    of_place : Option ℕ → Option Function
    of_place None = None
    of_place (Some f) = slice_get v.functions f

abbrev pub or_element : Value → Value → Value
or_element Undef next = next
or_element element next = element

-- the element of a name, or `undef` where no domain has it
abbrev pub element_in : List DeclaredDomain → Name → Value
element_in [] text = Undef
element_in (d ∷ ds) text = or_element (machine.element_named text d.domain) (element_in ds text)

abbrev pub element_type : Value → Option TermType
element_type (Elem d k) = Some (ElementOf d)
element_type element = None

-- ---- scopes

-- a bound variable and its type, where it fits one type alone
pub record Bound : Type 0 where
  pub name : Name
  pub type : Option TermType

-- the variables that are bound, the innermost last
abbrev pub Scope : Type 0
Scope = List Bound

abbrev pub or_bound : Option (Option TermType) → Option (Option TermType) → Option (Option TermType)
or_bound None other = other
or_bound (Some type) other = Some type

-- what the innermost variable of a name is bound to
abbrev pub bound_type : Scope → Name → Option (Option TermType)
bound_type [] x = None
bound_type (b ∷ scope) x = or_bound (bound_type scope x) (if bytes_eq b.name x then Some b.type else None)

abbrev pub joined : Option (Option TermType) → Option TermType
joined None = None
joined (Some type) = type

-- ---- terms

abbrev pub same_type : TermType → TermType → Truth
same_type Boolean Boolean = true
same_type Integer Integer = true
same_type (ElementOf d) (ElementOf e) = nat_eq d e
same_type _ _ = false

-- a term at its first token: the type that it has in a scope, if it fits one alone, and what is wrong in it
pub record Judged : Type 0 where
  pub at : ℕ
  pub first : Name
  pub type : Scope → Option TermType
  pub faults : Scope → List Fault

abbrev pub or_else : Option TermType → Option TermType → Option TermType
or_else None other = other
or_else (Some type) other = Some type

-- the type that the first of some terms has that fits one alone
abbrev pub first_type : Scope → List Judged → Option TermType
first_type scope [] = None
first_type scope (j ∷ js) = or_else (j.type scope) (first_type scope js)

module _ (v : Vocabulary) (n : ℕ) where
  -- ---- binders

  abbrev pub variables_of : List RawBinder → List (Of RawName)
  variables_of bs = map (λ (b : RawBinder). (n, b.variable)) bs

  -- a variable stands twice, or a domain isn't declared
  abbrev pub binder_faults : List RawBinder → List Fault
  binder_faults bs = repeats [] (variables_of bs) ++ flat_map (λ (b : RawBinder). unknown_domain v.domains n b.domain) bs

  -- a domain is that of the whole numbers
  abbrev pub infinite_faults : List RawBinder → List Fault
  infinite_faults bs = flat_map (λ (b : RawBinder). if has_name integer b.domain then fault_at WrongKind n b.domain ∷ [] else []) bs

  -- the scope within binders
  abbrev pub within : List RawBinder → Scope → Scope
  within [] scope = scope
  within (b ∷ bs) scope = within bs scope ++ record { name = b.variable.text; type = type_named v b.domain.text } ∷ []

  -- ---- asked types

  abbrev pub mismatch : Option TermType → Option TermType → ℕ → Name → List Fault
  mismatch (Some asked) (Some own) at first = if same_type asked own then [] else token WrongType n at first ∷ []
  mismatch _ _ at first = []

  -- what is wrong with a term that is asked for a type, where one is known
  abbrev pub asked : Option TermType → Scope → Judged → List Fault
  asked type scope j = j.faults scope ++ mismatch type (j.type scope) j.at j.first

  -- arguments, each of which is asked for the type at its place; those for which there is none are asked for none
  abbrev pub asked_each : List (Option TermType) → Scope → List Judged → List Fault
  asked_each types scope [] = []
  asked_each [] scope (j ∷ js) = asked None scope j ++ asked_each [] scope js
  asked_each (type ∷ types) scope (j ∷ js) = asked type scope j ++ asked_each types scope js

  -- terms of one type: each is asked for that of the first before it that fits one type alone
  abbrev pub alike : Option TermType → Scope → List Judged → List Fault
  alike type scope [] = []
  alike type scope (j ∷ js) = asked type scope j ++ alike (or_else type (j.type scope)) scope js

  -- the cases of a `switch`: the labels are of one type, and so are the values with the last one
  abbrev pub case_faults : Option TermType → Option TermType → Scope → List (Judged × Judged) → Judged → List Fault
  case_faults label value scope [] other = asked value scope other
  case_faults label value scope ((l, j) ∷ cases) other =
      asked label scope l ++ (asked value scope j ++ case_faults (or_else label (l.type scope)) (or_else value (j.type scope)) scope cases other)

  -- ---- terms by their forms

  abbrev pub Kind : Type 0
  Kind = ℕ → Name → Judged

  abbrev pub made : (Scope → Option TermType) → (ℕ → Name → Scope → List Fault) → Kind
  made type faults at first = record { at = at; first = first; type = type; faults = faults at first }

  abbrev pub variable_faults : ℕ → Name → Option (Option TermType) → List Fault
  variable_faults at x None = token Unbound n at x ∷ []
  variable_faults at x (Some type) = []

  abbrev pub element_faults : ℕ → Name → Option TermType → List Fault
  element_faults at e None = token Unknown n at e ∷ []
  element_faults at e (Some type) = []

  abbrev pub call_type : Option Function → Option TermType
  call_type None = None
  call_type (Some f) = domain_type v.domains f.codomain

  abbrev pub arity_faults : ℕ → Name → ℕ → ℕ → List Fault
  arity_faults at text wanted given = if nat_eq wanted given then [] else token WrongArity n at text ∷ []

  -- a function of this name isn't declared, or has another number of arguments or arguments of other types
  abbrev pub call_faults : ℕ → Name → Scope → List Judged → Option Function → List Fault
  call_faults at text scope js None = token Unknown n at text ∷ asked_each [] scope js
  call_faults at text scope js (Some f) = arity_faults at text (length f.domains) (length js) ++ asked_each (map (domain_type v.domains) f.domains) scope js

  -- the type that an operator of one operand gives, and the one that it asks for
  abbrev pub unary_gives : UnaryOp → TermType
  unary_gives unary.Not = Boolean
  unary_gives unary.Negate = Integer
  unary_gives unary.Abs = Integer
  unary_gives unary.IsDefined = Boolean
  unary_gives unary.IsUndefined = Boolean

  abbrev pub unary_asks : UnaryOp → Option TermType
  unary_asks unary.Not = Some Boolean
  unary_asks unary.Negate = Some Integer
  unary_asks unary.Abs = Some Integer
  unary_asks unary.IsDefined = None
  unary_asks unary.IsUndefined = None

  -- the type that an operator of two operands gives
  abbrev pub gives : Op → TermType
  gives op.Plus = Integer
  gives op.Minus = Integer
  gives op.Times = Integer
  gives op.Mod = Integer
  gives op.Idiv = Integer
  gives op.Min = Integer
  gives op.Max = Integer
  gives _ = Boolean

  -- the type that both operands are asked for; those of `=` and `!=` only have to be alike
  abbrev pub asks : Op → Option TermType
  asks op.Equal = None
  asks op.NotEqual = None
  asks op.Iff = Some Boolean
  asks op.Implies = Some Boolean
  asks op.Or = Some Boolean
  asks op.Xor = Some Boolean
  asks op.And = Some Boolean
  asks _ = Some Integer

  -- a variable of a `let` and its term
  abbrev pub LetBound : Type 0
  LetBound = RawName × Judged

  -- a later term sees the variables before it
  abbrev pub within_let : List LetBound → Scope → Scope
  within_let [] scope = scope
  within_let ((x, j) ∷ bs) scope = within_let bs (scope ++ record { name = x.text; type = j.type scope } ∷ [])

  abbrev pub bind_faults : List LetBound → Scope → List Fault
  bind_faults [] scope = []
  bind_faults ((x, j) ∷ bs) scope = j.faults scope ++ bind_faults bs (scope ++ record { name = x.text; type = j.type scope } ∷ [])

  abbrev pub let_faults : List LetBound → Scope → List Fault
  let_faults bs scope = repeats [] (map (λ (b : LetBound). (n, b.0)) bs) ++ bind_faults bs scope

  abbrev pub judge_kind : RawTermKind-F Kind LetBound (Judged × Judged) Judged → Kind
  judge_kind (RawTermKind-F.Number x) = made (λ s. Some Integer) (λ at first s. [])
  judge_kind (RawTermKind-F.Truth b) = made (λ s. Some Boolean) (λ at first s. [])
  judge_kind RawTermKind-F.Undef = made (λ s. None) (λ at first s. [])
  judge_kind (RawTermKind-F.Variable x) = made (λ s. joined (bound_type s x)) (λ at first s. variable_faults at x (bound_type s x))
  judge_kind (RawTermKind-F.Element e) = made (λ s. element_type (element_in v.domains e)) (λ at first s. element_faults at e (element_type (element_in v.domains e)))
  judge_kind (RawTermKind-F.Call f js) = made (λ s. call_type (function_named v f)) (λ at first s. call_faults at f s js (function_named v f))
  judge_kind (RawTermKind-F.Unary o j) = made (λ s. Some (unary_gives o)) (λ at first s. asked (unary_asks o) s j)
  judge_kind (RawTermKind-F.Binary o j k) = made (λ s. Some (gives o)) (λ at first s. alike (asks o) s (j ∷ k ∷ []))
  judge_kind (RawTermKind-F.Cond g j k) = made (λ s. first_type s (j ∷ k ∷ [])) (λ at first s. asked (Some Boolean) s g ++ alike None s (j ∷ k ∷ []))
  judge_kind (RawTermKind-F.Switch j cases k) = made (λ s. first_type s (map (λ c. c.1) cases ++ k ∷ [])) (λ at first s. j.faults s ++ case_faults (j.type s) None s cases k)
  judge_kind (RawTermKind-F.Let bs j) = made (λ s. j.type (within_let bs s)) (λ at first s. let_faults bs s ++ j.faults (within_let bs s))
  judge_kind (RawTermKind-F.Quant q bs g) = made (λ s. Some Boolean) (λ at first s. binder_faults bs ++ (infinite_faults bs ++ asked (Some Boolean) (within bs s) g))

  abbrev pub judge_bind : RawBind-F Kind LetBound (Judged × Judged) Judged → LetBound
  judge_bind b = (b.variable, b.term)

  abbrev pub judge_case : RawCase-F Kind LetBound (Judged × Judged) Judged → Judged × Judged
  judge_case c = (c.label, c.value)

  abbrev pub judge_term : RawTerm-F Kind LetBound (Judged × Judged) Judged → Judged
  judge_term t = t.kind t.at t.first

  -- a term of the unit of number n
  abbrev pub judged : RawTerm → Judged
  judged = fold-RawTerm Kind LetBound (Judged × Judged) Judged judge_kind judge_bind judge_case judge_term
