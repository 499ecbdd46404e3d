-- Models as the model check leaves them.
use Rattle.std.specs.Prelude.{◌≡◌, ◌≤◌, ℕ, Bool as Truth, true, false, not, length, map, Some, None, slice_get, All, IsSome}
use Rattle.asm_domain.specs.declared.value.Value.TheVariants.{Undef}
use Rattle.asm_domain.specs.Universe.{AreDistinct}
use Rattle.asm_sign.specs.declared.function.Function.{Function}
use Rattle.asm_sign.specs.declared.function.FunKind.{FunKind}
use Rattle.asm_sign.specs.declared.function.FunKind.TheVariants.{Static}
use Rattle.asm_sign.specs.Kind.{is_dynamic, is_kept}
use Rattle.asm_sign.specs.Vocabulary.{IsDeclared}
use Rattle.asm_node.specs.Tree.{Tree}
use Rattle.asm_node.specs.RuleTree.{Rule}
use Rattle.asm_node.specs.Values.{whole}
use Rattle.asm_node.specs.Machine.{Machine, Definition, Macro, definition_of, constant_of, is_monitored}
use Rattle.asm_node.specs.declared.term_type.TermType.{TermType}
use Rattle.asm_node.specs.declared.term_type.TermType.TheVariants.{Boolean}
use Rattle.asm_node.specs.Types.{domain_type, no_types, parameter_types, HasType, IsTypedRule}
use Rattle.asm_node.specs.Ranges.{Ranges, no_ranges, AreParameters, IsRanged}
use Rattle.asm_node.specs.RuleRanges.{IsRangedRule}
use Rattle.asm_node.specs.Declarations.{AreDeclarations}
use Rattle.asm_node.specs.Reads.{may_be_read, may_be_called, IsReadable}

-- functions of any kind, of those that have definitions, and of those that no definition of a static function reads
abbrev pub any_kind : FunKind → Truth
any_kind kind = true

abbrev pub is_defined : FunKind → Truth
is_defined kind = not (is_dynamic kind)

-- which functions the definition of one of this kind may read: a static one no dynamic function
abbrev pub may_read : FunKind → FunKind → Truth
may_read Static = is_defined
may_read _ = any_kind

-- a definition is one of a function of these kinds, has as many parameters as the function has arguments, and a body of
-- the codomain's type in which no other variable stands and no interval is refused
pub record IsDefinition (m : Machine) (kinds : FunKind → Truth) (allowed : FunKind → FunKind → Truth) (d : Definition) : Type 0 where
  pub function : Function
  pub is_function : slice_get m.signature.functions d.function ≡ Some function
  pub is_of_kind : kinds function.kind ≡ true
  pub parameters : length d.parameters ≡ length function.domains
  pub type : TermType
  pub is_type : domain_type m.signature.domains function.codomain ≡ Some type
  pub typed : HasType m.signature (parameter_types m.signature.domains d.parameters function.domains) d.body type
  pub ranges : Ranges
  pub are_ranges : AreParameters m.signature d.parameters function.domains ranges
  pub ranged : IsRanged m.signature ranges d.body
  pub readable : IsReadable m (allowed function.kind) d.body

-- a macro rule has a body in which no variables but its parameters stand, and no interval is refused
pub record IsMacro (m : Machine) (macro : Macro) : Type 0 where
  pub declared : All (λ p. IsSome (domain_type m.signature.domains p.domain)) macro.parameters
  pub typed : IsTypedRule m.signature m.rules (parameter_types m.signature.domains (map (λ p. p.variable) macro.parameters) (map (λ p. p.domain) macro.parameters)) macro.body
  pub ranges : Ranges
  pub are_ranges : AreParameters m.signature (map (λ p. p.variable) macro.parameters) (map (λ p. p.domain) macro.parameters) ranges
  pub ranged : IsRangedRule m.signature ranges macro.body

-- a rule of the model without free variables
pub record IsRule (m : Machine) (r : Rule) : Type 0 where
  pub typed : IsTypedRule m.signature m.rules no_types r
  pub ranged : IsRangedRule m.signature no_ranges r

-- a truth value of the model without free variables
pub record IsCondition (m : Machine) (t : Tree) : Type 0 where
  pub typed : HasType m.signature no_types t Boolean
  pub ranged : IsRanged m.signature no_ranges t

-- an invariant is a truth value that reads no monitored function
pub record IsInvariant (m : Machine) (t : Tree) : Type 0 where
  pub condition : IsCondition m t
  pub readable : IsReadable m (λ kind. not (is_monitored kind)) t

-- a static or derived function has a definition, or is the constant of an element of an abstract domain
abbrev pub IsDefined : Machine → ℕ → Function → Type 0
IsDefined m f function = is_dynamic function.kind ≡ false → definition_of m.definitions f ≡ None → ¬ (constant_of m.signature.domains function ≡ Undef)

pub record IsWellFormed (m : Machine) : Type 0 where
  -- the number that stands for the whole numbers is no domain's
  pub few_domains : length m.signature.domains ≤ whole
  -- the first domain is that of the truth values, domains have elements and their places as numbers, and names differ
  pub declarations : AreDeclarations m.signature
  -- the domains of functions are declared
  pub functions : All (IsDeclared m.signature.domains) m.signature.functions
  -- each static or derived function has one definition
  pub definitions : All (IsDefinition m is_defined may_read) m.definitions
  pub defined_once : AreDistinct (map (λ d. d.function) m.definitions)
  pub defined : (f : ℕ) (function : Function) → slice_get m.signature.functions f ≡ Some function → IsDefined m f function
  -- no chain of definitions and no chain of macro rules is longer than 32
  pub definitions_end : (f : ℕ) (function : Function) → slice_get m.signature.functions f ≡ Some function → may_be_read m any_kind 32 f
  pub rules_end : (f : ℕ) → may_be_called m 32 f
  -- a kept function has at most one initial term, which reads no dynamic function
  pub initial_terms : All (IsDefinition m is_kept (λ kind. is_defined)) m.initial_terms
  pub initial_once : AreDistinct (map (λ d. d.function) m.initial_terms)
  pub rules : All (IsMacro m) m.rules
  pub invariants : All (IsInvariant m) m.invariants
  pub main : IsRule m m.main
