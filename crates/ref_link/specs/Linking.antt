-- Two models, which functions of theirs are linked, and when states conform and inputs agree.
use Rattle.std.specs.Prelude.{ℕ, Bool as Truth, true, false, not, ◌||◌, List, [], ◌∷◌, Option, Some, None, slice_get, bytes_eq}
use Rattle.std.specs.List.{list_all}
use Rattle.std.specs.Ordering.{int_eq}
use Rattle.std.specs.FinMap as finite
use Rattle.asm_domain.specs.declared.value.Value.{Value}
use Rattle.asm_domain.specs.declared.value.Value.TheVariants.{Undef, Bool, Int, Elem}
use Rattle.asm_domain.specs.Universe.{Universe, Truths, Numbers, Named}
use Rattle.asm_sign.specs.declared.function.DeclaredDomain.{DeclaredDomain}
use Rattle.asm_sign.specs.declared.function.Function.{Function}
use Rattle.asm_sign.specs.Tuples.{tuples}
use Rattle.asm_sign.specs.Vocabulary.{argument_lists}
use Rattle.asm_node.specs.Values.{iff}
use Rattle.asm_node.specs.Machine.{Machine, State, Input, no_input, slot_at, is_monitored, has_kind}
use Rattle.asm_node.specs.Term.{World, read, calls_of}
use Rattle.asm_node.specs.Step.{answer}
use Rattle.ref_link.specs.declared.link.Link.{Link}

-- what is to be refined: the abstract model, the concrete model, and the links of their functions
pub record Linking : Type 0 where
  pub abstract_model : Machine
  pub concrete_model : Machine
  pub links : List Link

abbrev pub name_of : Universe → ℕ → Option (List ℕ)
name_of (Named number names) k = slice_get names k
name_of Truths k = None
name_of (Numbers numbers) k = None

abbrev pub name_in : Option DeclaredDomain → ℕ → Option (List ℕ)
name_in (Some d) k = name_of d.domain k
name_in None k = None

-- the name of the element of a rank in the domain of a number
abbrev pub element_name : Machine → ℕ → ℕ → Option (List ℕ)
element_name m d k = name_in (slice_get m.signature.domains d) k

abbrev pub both_named : Option (List ℕ) → Option (List ℕ) → Truth
both_named (Some name) (Some other) = bytes_eq name other
both_named _ _ = false

-- a value of one model and a value of another are the same: both are `undef`, or the same truth value, number or element name
abbrev pub same_value : Machine → Machine → Value → Value → Truth
same_value a c Undef Undef = true
same_value a c (Bool p) (Bool q) = iff p q
same_value a c (Int x) (Int y) = int_eq x y
same_value a c (Elem d k) (Elem e l) = both_named (element_name a d k) (element_name c e l)
same_value a c _ _ = false

abbrev pub tuples_at : Machine → Option Function → List (List Value)
tuples_at m (Some function) = tuples (argument_lists m.signature.domains function)
tuples_at m None = []

-- the tuples of arguments of a function in their order
abbrev pub tuples_of_function : Machine → ℕ → List (List Value)
tuples_of_function m f = tuples_at m (slice_get m.signature.functions f)

abbrev pub pairs : {A B : Type 0} → List A → List B → List (A × B)
pairs (x ∷ xs) (y ∷ ys) = (x, y) ∷ pairs xs ys
pairs _ _ = []

-- the argument values of a link in their order; the domains of both functions have the same elements in the same order
abbrev pub arguments_of : Linking → Link → List (List Value × List Value)
arguments_of p link = pairs (tuples_of_function p.abstract_model link.abstract_function) (tuples_of_function p.concrete_model link.concrete_function)

abbrev pub world_of : Machine → State → World
world_of m s = record { machine = m; state = s; input = no_input }

-- the value of a function at arguments in a state; a linked function that isn't monitored reads no input
abbrev pub value_in : Machine → State → ℕ → List Value → Value
value_in m s f vs = answer (read (world_of m s) (calls_of (world_of m s)) f (slice_get m.signature.functions f) vs)

abbrev pub given_in : Input → Option ℕ → Option Value
given_in i (Some l) = finite.get i l
given_in i None = None

-- the value that an input gives a function at arguments, if it gives one
abbrev pub given_at : Machine → Input → ℕ → List Value → Option Value
given_at m i f vs = given_in i (slot_at m.signature f vs)

-- both give the same value, or neither gives one
abbrev pub same_given : Machine → Machine → Option Value → Option Value → Truth
same_given a c (Some v) (Some w) = same_value a c v w
same_given a c None None = true
same_given a c _ _ = false

-- whether the link is one of monitored functions
abbrev pub is_of_input : Linking → Link → Truth
is_of_input p link = has_kind is_monitored (slice_get p.abstract_model.signature.functions link.abstract_function)

-- a test of a link at all its argument values
abbrev pub at_all : Linking → (Link → List Value → List Value → Truth) → Link → Truth
at_all p test link = list_all (λ args. test link args.0 args.1) (arguments_of p link)

-- both functions of a link have the same value at their arguments
abbrev pub has_same_value : Linking → State → State → Link → List Value → List Value → Truth
has_same_value p sa sc link vs ws = same_value p.abstract_model p.concrete_model (value_in p.abstract_model sa link.abstract_function vs) (value_in p.concrete_model sc link.concrete_function ws)

-- both inputs give the functions of a link the same value at their arguments, or neither gives one
abbrev pub is_given_same : Linking → Input → Input → Link → List Value → List Value → Truth
is_given_same p ia ic link vs ws = same_given p.abstract_model p.concrete_model (given_at p.abstract_model ia link.abstract_function vs) (given_at p.concrete_model ic link.concrete_function ws)

-- two states conform: for each link of functions that aren't monitored, and all argument values, both functions have the same value
abbrev pub conform : Linking → State → State → Truth
conform p sa sc = list_all (λ link. is_of_input p link || at_all p (has_same_value p sa sc) link) p.links

-- two inputs agree: for each link of monitored functions, and all argument values, both give the same value or neither gives one
abbrev pub agree : Linking → Input → Input → Truth
agree p ia ic = list_all (λ link. not (is_of_input p link) || at_all p (is_given_same p ia ic) link) p.links
