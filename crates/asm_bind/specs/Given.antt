-- What the settings of an input file give.
use Rattle.std.specs.Prelude.{◌≡◌, ℕ, Bool as Truth, ◌||◌, List, [], ◌∷◌, Option, Some, None, Result, Ok, Err, slice_get, if◌then◌else◌}
use Rattle.std.specs.List.{position}
use Rattle.std.specs.Option.{option_map}
use Rattle.std.specs.FinMap as finite
use Rattle.asm_domain.specs.declared.value.Value.{Value}
use Rattle.asm_domain.specs.declared.value.Value.TheVariants as value
use Rattle.asm_domain.specs.Universe.{Universe, Truths, Numbers, Named}
use Rattle.asm_sign.specs.declared.function.DeclaredDomain.{DeclaredDomain}
use Rattle.asm_sign.specs.declared.function.Function.{Function}
use Rattle.asm_sign.specs.declared.function.FunKind.{FunKind}
use Rattle.asm_sign.specs.Vocabulary.{Vocabulary}
use Rattle.asm_node.specs.Machine.{Input, no_input, slot_at, same_name, is_shared, is_monitored}
use Rattle.asm_node.specs.Values.{is_element}
use Rattle.asm_tree.specs.declared.script.RawConstant.{RawConstant}
use Rattle.asm_tree.specs.declared.script.RawConstant.TheVariants as constant
use Rattle.asm_tree.specs.declared.script.RawInputs.{RawInputs}
use Rattle.asm_tree.specs.declared.script.RawInputStep.{RawInputStep}
use Rattle.asm_tree.specs.declared.script.RawSet.{RawSet}
use Rattle.asm_tree.specs.declared.term.RawName.{RawName}
use Rattle.asm_bind.specs.declared.error.BadSet.{BadSet}
use Rattle.asm_bind.specs.declared.error.BadSet.TheVariants.{At, Memory}

-- goes on with the value, if there is one
abbrev pub and_then : {A B : Type 0} → Option A → (A → Option B) → Option B
and_then None f = None
and_then (Some a) f = f a

-- ---- constants

-- the element of a name, where the domain's elements have names
abbrev pub named : List ℕ → Universe → Option Value
named name (Named number names) = option_map (λ rank. value.Elem number rank) (position (same_name name) names)
named name Truths = None
named name (Numbers numbers) = None

-- what a constant is where a value of the domain stands: a number, a truth value, or the element of its name
abbrev pub meant : Universe → RawConstant → Option Value
meant d (constant.Int i) = Some (value.Int i.value)
meant d (constant.Truth b) = Some (value.Bool b)
meant d (constant.Element name) = named name.text d
meant d (constant.Constant name) = named name.text d

-- the element that a constant is of the domain of a number, if it is one
abbrev pub element : List DeclaredDomain → ℕ → RawConstant → Option Value
element ds n c =
    and_then (slice_get ds n) (λ (d : DeclaredDomain). and_then (meant d.domain c) (λ v. if is_element ds n v then Some v else None))

-- the elements of domains at their places, if there are as many constants and each is one
abbrev pub elements : List DeclaredDomain → List ℕ → List RawConstant → Option (List Value)
elements ds [] [] = Some []
elements ds (n ∷ ns) (c ∷ cs) = and_then (element ds n c) (λ v. option_map (λ vs. v ∷ vs) (elements ds ns cs))
elements ds [] (c ∷ cs) = None
elements ds (n ∷ ns) [] = None

-- ---- settings

-- an input may give values to the locations of a monitored or shared function
abbrev pub is_asked_kind : FunKind → Truth
is_asked_kind kind = is_monitored kind || is_shared kind

abbrev pub is_asked : Function → Truth
is_asked f = is_asked_kind f.kind

-- the slot and the value that a setting of this function gives, if its arguments and its value are elements of their domains
abbrev pub given_to : Vocabulary → RawSet → ℕ → Function → Option (ℕ × Value)
given_to v set n f =
    if is_asked f
    then and_then (elements v.domains f.domains set.arguments) (λ vs.
    and_then (element v.domains f.codomain set.value) (λ x.
    option_map (λ slot. (slot, x)) (slot_at v n vs)))
    else None

-- the slot and the value that a setting of the function of this number gives, if it isn't bad
abbrev pub given_by : Vocabulary → RawSet → ℕ → Option (ℕ × Value)
given_by v set n = and_then (slice_get v.functions n) (λ f. given_to v set n f)

-- the slot and the value that a setting gives, if it isn't bad
abbrev pub given : Vocabulary → RawSet → Option (ℕ × Value)
given v set = and_then (position (λ (f : Function). same_name set.name.text f.name) v.functions) (λ n. given_by v set n)

-- ---- inputs

-- goes on with what a setting gives; a bad one is told by its name
abbrev pub onward : {A : Type 0} → RawName → Option (ℕ × Value) → (ℕ × Value → Result A RawName) → Result A RawName
onward name None f = Err name
onward name (Some p) f = f p

-- an input and what further settings give, a later value of a location in place of an earlier one; or the name of the first bad one
abbrev pub with_sets : Vocabulary → Input → List RawSet → Result Input RawName
with_sets v i [] = Ok i
with_sets v i (set ∷ sets) = onward set.name (given v set) (λ p. with_sets v (finite.insert i p.0 p.1) sets)

-- the input of a step
abbrev pub step_input : Vocabulary → RawInputStep → Result Input RawName
step_input v step = with_sets v no_input step.sets

abbrev pub before_all : Input → Result (List Input) RawName → Result (List Input) RawName
before_all i (Ok is) = Ok (i ∷ is)
before_all i (Err name) = Err name

abbrev pub then_all : Result Input RawName → Result (List Input) RawName → Result (List Input) RawName
then_all (Ok i) others = before_all i others
then_all (Err name) others = Err name

-- the inputs of steps in their order, or the name of the first bad setting
abbrev pub step_inputs : Vocabulary → List RawInputStep → Result (List Input) RawName
step_inputs v [] = Ok []
step_inputs v (step ∷ steps) = then_all (step_input v step) (step_inputs v steps)

abbrev pub inputs_of : Vocabulary → RawInputs → Result (List Input) RawName
inputs_of v raw = step_inputs v raw.steps

-- ---- what calls answer

-- a bad setting of this name is told; of want of memory nothing is said
abbrev pub IsToldOf : BadSet → RawName → Type 0
IsToldOf (At at name) of = of ≡ record { at = at; text = name }
IsToldOf Memory of = Unit {0}

-- the bad setting is told by its place and the text of its name; of want of memory nothing is said
abbrev pub Tells : {A : Type 0} → BadSet → Result A RawName → Type 0
Tells (At at name) o = o ≡ Err (record { at = at; text = name })
Tells Memory o = Unit {0}

-- the value is that of the definition, or the bad setting is told
abbrev pub Binds : {A : Type 0} → Result A BadSet → Result A RawName → Type 0
Binds (Ok a) o = o ≡ Ok a
Binds (Err e) o = Tells e o

-- what a setting gives, or its name
abbrev pub given_or_name : Vocabulary → RawSet → Result (ℕ × Value) RawName
given_or_name v set = onward set.name (given v set) (λ p. Ok p)
