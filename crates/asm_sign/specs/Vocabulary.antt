-- The domains and functions of a model, and its dynamic locations in their order.
use Rattle.std.specs.Prelude.{◌≡◌, ℕ, ◌<◌, ◌≤◌, List, [], map, length, Option, Some, None, slice_get, Bool as Truth, false, IsTrue, if◌then◌else◌, All, Contains}
use Rattle.std.specs.List.{flat_map, enumerate_from, AllZip}
use Rattle.std.specs.Option.{option_map}
use Rattle.asm_domain.specs.declared.value.Value.{Value}
use Rattle.asm_domain.specs.Universe.{Universe, Named}
use Rattle.asm_sign.specs.declared.function.DeclaredDomain.{DeclaredDomain}
use Rattle.asm_sign.specs.declared.function.Function.{Function}
use Rattle.asm_sign.specs.Arguments.{elements_at}
use Rattle.asm_sign.specs.Kind.{is_dynamic, is_kept}
use Rattle.asm_sign.specs.Tuples.{tuples}

-- what a signature is made of
pub record Vocabulary : Type 0 where
  pub domains : List DeclaredDomain
  pub functions : List Function

-- the elements of each of a function's domains
abbrev pub argument_lists : List DeclaredDomain → Function → List (List Value)
argument_lists domains f = map (elements_at domains) f.domains

-- the locations of a function of this number: those of a dynamic one are its tuples of arguments, the first slowest
abbrev pub locations_of : List DeclaredDomain → ℕ × Function → List (ℕ × List Value)
locations_of domains p =
    if is_dynamic p.1.kind then map (λ args. (p.0, args)) (tuples (argument_lists domains p.1)) else []

-- all dynamic locations, one function after the other
abbrev pub locations : Vocabulary → List (ℕ × List Value)
locations v = flat_map (locations_of v.domains) (enumerate_from 0 v.functions)

-- the function is dynamic, and each argument is an element of the domain at its place
pub record IsLocation (v : Vocabulary) (number : ℕ) (args : List Value) : Type 0 where
  pub function : Function
  pub is_function : slice_get v.functions number ≡ Some function
  pub dynamic : IsTrue (is_dynamic function.kind)
  pub elements : AllZip (λ x xs. Contains xs x) args (argument_lists v.domains function)

-- the function of a location
abbrev pub function_of : Vocabulary → Option (ℕ × List Value) → Option Function
function_of v None = None
function_of v (Some location) = slice_get v.functions location.0

-- the function of the location at a slot
abbrev pub function_at : Vocabulary → ℕ → Option Function
function_at v slot = function_of v (slice_get (locations v) slot)

-- the codomain of a function
abbrev pub codomain_of : Vocabulary → Option Function → Option Universe
codomain_of v None = None
codomain_of v (Some f) = option_map (λ d. d.domain) (slice_get v.domains f.codomain)

-- a state keeps the values of the function's locations
abbrev pub kept_of : Option Function → Truth
kept_of None = false
kept_of (Some f) = is_kept f.kind

-- a function has at most four domains, which are declared, and so is the codomain of a dynamic one
pub record IsDeclared (domains : List DeclaredDomain) (f : Function) : Type 0 where
  pub few : length f.domains ≤ 4
  pub declared : All (λ n. n < length domains) f.domains
  pub codomain : IsTrue (is_dynamic f.kind) → f.codomain < length domains

-- each enumeration and abstract domain has its place as its number
pub record AreNumbered (domains : List DeclaredDomain) : Type 0 where
  pub number_is : (k number : ℕ) (names : List (List ℕ)) (d : DeclaredDomain) → slice_get domains k ≡ Some d → d.domain ≡ Named number names → number ≡ k
