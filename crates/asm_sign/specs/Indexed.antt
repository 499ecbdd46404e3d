-- How the slots of a signature are found.
use Rattle.std.specs.Prelude.{◌≡◌, ℕ, ◌+◌, ◌<◌, ◌≤◌, ◌^◌, List, length, take, Some, slice_get, slice_index, IsTrue, All}
use Rattle.std.specs.List.{flat_map, enumerate_from}
use Rattle.asm_sign.specs.declared.function.DeclaredDomain.{DeclaredDomain}
use Rattle.asm_sign.specs.declared.function.Function.{Function}
use Rattle.asm_sign.specs.Kind.{is_dynamic}
use Rattle.asm_sign.specs.Tuples.{AllDistinct}
use Rattle.asm_sign.specs.Vocabulary.{argument_lists, locations_of, locations, IsDeclared, AreNumbered}

-- the first slot of the function of a number: so many locations stand before it
abbrev pub first_slot : List DeclaredDomain → List Function → ℕ → ℕ
first_slot domains functions k =
    length (flat_map (locations_of domains) (take k (enumerate_from 0 functions)))

-- the first slot of each function so far and of the next, and the domains of the dynamic ones have no repeats
pub record AreFirsts (domains : List DeclaredDomain) (functions : List Function) (count : ℕ) (firsts : List ℕ) : Type 0 where
  pub length_is : length firsts ≡ count + 1
  pub first_is : (k : ℕ) → k ≤ count → slice_index firsts k ≡ first_slot domains functions k
  pub distinct : (k : ℕ) (f : Function) → k < count → slice_get functions k ≡ Some f → IsTrue (is_dynamic f.kind) → AllDistinct (argument_lists domains f)

-- what a signature keeps
pub record IsIndexed (domains : List DeclaredDomain) (functions : List Function) (firsts : List ℕ) : Type 0 where
  pub declared : All (IsDeclared domains) functions
  pub numbered : AreNumbered domains
  pub few : length (locations record { domains = domains; functions = functions }) ≤ 4096
  pub short : length functions < 2 ^ 31
  pub are_firsts : AreFirsts domains functions (length functions) firsts

-- the function of this number is dynamic and has the location at the slot
pub record OwnsSlot (domains : List DeclaredDomain) (functions : List Function) (k slot : ℕ) : Type 0 where
  pub function : Function
  pub is_function : slice_get functions k ≡ Some function
  pub dynamic : IsTrue (is_dynamic function.kind)
  pub from : first_slot domains functions k ≤ slot
  pub to : slot < first_slot domains functions (k + 1)
