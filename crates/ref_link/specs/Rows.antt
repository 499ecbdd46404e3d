-- What is kept of a model whose functions are linked.
use Rattle.std.specs.Prelude.{◌≡◌, ℕ, Bool, false, List, length, map, get_or}
use Rattle.std.specs.List.{range_with_len}
use Rattle.asm_sign.specs.declared.function.Function.{Function}
use Rattle.asm_node.specs.Machine.{Machine}
use Rattle.ref_link.specs.Linkable.{reads_input}

-- a test of each function of a machine, in a row
abbrev pub for_each : Machine → (ℕ → Bool) → List Bool
for_each m test = map test (range_with_len 0 (length m.signature.functions))

-- what a row says of a number, `false` past its end
abbrev pub is_in : List Bool → ℕ → Bool
is_in row n = get_or row n false

-- the names of a machine's functions, and which of these read an input
pub record IsSide (m : Machine) (names : List (List ℕ)) (reading : List Bool) : Type 0 where
  pub names_are : names ≡ map (λ (f : Function). f.name) m.signature.functions
  pub reading_is : reading ≡ for_each m (reads_input m 32)
