-- A model as a record of plain lists and trees, its states and its inputs.
use Rattle.std.specs.Prelude.{ℕ, Bool as Truth, true, false, ◌&&◌, nat_eq, List, [], ◌∷◌, map, Option, Some, None, slice_get}
use Rattle.std.specs.List.{find, position}
use Rattle.std.specs.Option.{option_map, unwrap_or}
use Rattle.std.specs.Ordering.{nat_cmp}
use Rattle.std.specs.FinMap as finite
use Rattle.asm_domain.specs.declared.value.Value.{Value}
use Rattle.asm_domain.specs.declared.value.Value.TheVariants.{Undef, Elem}
use Rattle.asm_domain.specs.Universe.{Universe, Named}
use Rattle.asm_sign.specs.declared.function.DeclaredDomain.{DeclaredDomain}
use Rattle.asm_sign.specs.declared.function.Function.{Function}
use Rattle.asm_sign.specs.declared.function.FunKind.{FunKind}
use Rattle.asm_sign.specs.declared.function.FunKind.TheVariants.{Shared, Monitored}
use Rattle.asm_sign.specs.Arguments.{elements_at}
use Rattle.asm_sign.specs.Tuples.{tuples}
use Rattle.asm_sign.specs.Vocabulary.{Vocabulary, locations}
use Rattle.asm_node.specs.declared.term.Binder.{Binder}
use Rattle.asm_node.specs.Tree.{Tree}
use Rattle.asm_node.specs.RuleTree.{Rule}
use Rattle.asm_node.specs.Values.{same_all}

-- the values of a function: the variables of its parameters, and the term that gives the value
pub record Definition : Type 0 where
  pub function : ℕ
  pub parameters : List ℕ
  pub body : Tree

-- a macro rule
pub record Macro : Type 0 where
  pub name : List ℕ
  pub parameters : List Binder
  pub body : Rule

-- a model: the domains and functions in load order, the definitions of static and derived functions, the terms of the
-- initial values, the rules and the invariants in load order, and the main rule
pub record Machine : Type 0 where
  pub signature : Vocabulary
  pub definitions : List Definition
  pub initial_terms : List Definition
  pub rules : List Macro
  pub invariants : List Tree
  pub main : Rule

-- a state gives a value to each slot of a kept location
abbrev pub State : Type 0
State = finite.FinMap nat_cmp Value

-- the state with other values at the slots that it has
abbrev pub revised : (ℕ → Value → Value) → State → State
revised f s = finite.from_entries (map (λ entry. (entry.0, f entry.0 entry.1)) (finite.entries s))

-- an input gives values to some slots
abbrev pub Input : Type 0
Input = finite.FinMap nat_cmp Value

abbrev pub no_input : Input
no_input = finite.empty

-- the definition of a function among these
abbrev pub definition_of : List Definition → ℕ → Option Definition
definition_of definitions f = find (λ d. nat_eq d.function f) definitions

abbrev pub same_location : ℕ × List Value → ℕ × List Value → Truth
same_location p q = nat_eq p.0 q.0 && same_all p.1 q.1

-- the slot of a location is its place among all dynamic locations in their order
abbrev pub slot_at : Vocabulary → ℕ → List Value → Option ℕ
slot_at signature f vs = position (λ location. same_location location (f, vs)) (locations signature)

-- the tuples that binders stand for in order, the first variable slowest
abbrev pub tuples_of : Vocabulary → List Binder → List (List Value)
tuples_of signature bs = tuples (map (λ b. elements_at signature.domains b.domain) bs)

abbrev pub same_name : List ℕ → List ℕ → Truth
same_name [] [] = true
same_name (c ∷ cs) (d ∷ ds) = nat_eq c d && same_name cs ds
same_name _ _ = false

-- the element of this name, where the domain's elements have names
abbrev pub element_named : List ℕ → Universe → Value
element_named name (Named number names) = unwrap_or (option_map (λ rank. Elem number rank) (position (same_name name) names)) Undef
element_named name _ = Undef

-- a constant of an abstract domain is the element of its name
abbrev pub constant_of : List DeclaredDomain → Function → Value
constant_of domains f = unwrap_or (option_map (λ d. element_named f.name d.domain) (slice_get domains f.codomain)) Undef

-- an input's value replaces the state's
abbrev pub is_shared : FunKind → Truth
is_shared Shared = true
is_shared _ = false

-- only inputs give values
abbrev pub is_monitored : FunKind → Truth
is_monitored Monitored = true
is_monitored _ = false

-- whether the function of a slot is of such a kind
abbrev pub has_kind : (FunKind → Truth) → Option Function → Truth
has_kind test (Some f) = test f.kind
has_kind test None = false
