-- The worlds that groups of literals stand for in an assignment.
use Rattle.std.specs.Prelude.{◌≡◌, ℕ, ◌<◌, ◌≤◌, Bool, true, List, [], ◌∷◌, ◌++◌, length, Some, None, Option, slice_get}
use Rattle.cnf_base.specs.Clauses.{lit_true}
use Rattle.cnf_gate.specs.Built.{Built}
use Rattle.asm_domain.specs.declared.value.Value.{Value}
use Rattle.asm_domain.specs.declared.value.Value.TheVariants.{Undef}
use Rattle.asm_sign.specs.declared.function.Function.{Function}
use Rattle.asm_sign.specs.Vocabulary.{locations, function_at}
use Rattle.asm_sign.specs.Arguments.{elements_at}
use Rattle.asm_node.specs.Values.{same_all}
use Rattle.asm_node.specs.Machine.{Machine}
use Rattle.asm_node.specs.Taking.{Choosing}
use Rattle.asm_node.specs.Term.{World, state_value, input_value}
use Rattle.enc_group.specs.declared.group.Entry.{Entry}
use Rattle.enc_group.specs.Group.{Holds, Means, values_in, are_distinct, group_variables}
use Rattle.enc_group.specs.Tuple.{holds_all}
use Rattle.enc_group.specs.Binding.{group_at}
use Rattle.enc_term.specs.Can.{AreAmong}
use Rattle.enc_term.specs.declared.bits.Bits.{Bits}
use Rattle.enc_term.specs.declared.bits.Version.{Version}
use Rattle.enc_term.specs.declared.bits.Site.{Site}

abbrev pub groups_of : Option Version → List (List Entry)
groups_of (Some version) = version.groups
groups_of None = []

-- the groups of a version
abbrev pub version_groups : Bits → ℕ → List (List Entry)
version_groups bits n = groups_of (slice_get bits.versions n)

abbrev pub slots : Machine → ℕ
slots m = length (locations m.signature)

-- what an assignment says of a version and of the input: their groups mean what a world has
pub record Stands (v : ℕ → Bool) (m : Machine) (bits : Bits) (n : ℕ) (w : World) : Type 0 where
  pub machine : w.machine ≡ m
  pub state : (l : ℕ) → l < slots m → Means v (group_at (version_groups bits n) l) (state_value w (Some l))
  pub input : (l : ℕ) → l < slots m → Means v (group_at bits.inputs l) (input_value w (Some l))

-- what an assignment says of the choice sites: their groups have the tuples that are chosen at their paths
abbrev pub Chooses : (ℕ → Bool) → Bits → Choosing → Type 0
Chooses v bits choosing = (k : ℕ) (site : Site) → slice_get bits.sites k ≡ Some site
    → (t : List Value) × (choosing site.path ≡ Some t) × ((ys : List Value) → holds_all v site.tuples ys ≡ same_all t ys)

-- the groups have a place for each slot, are of the builder's variables, and have no value twice and none that the slot's
-- function can't have; one literal is always true
pub record AreBits (b : Built) (m : Machine) (bits : Bits) (n : ℕ) : Type 0 where
  pub states_long : slots m ≤ length (version_groups bits n)
  pub inputs_long : slots m ≤ length bits.inputs
  pub states_within : (l : ℕ) → group_variables (group_at (version_groups bits n) l) ≤ b.count
  pub inputs_within : (l : ℕ) → group_variables (group_at bits.inputs l) ≤ b.count
  pub states_among : (l : ℕ) (f : Function) → function_at m.signature l ≡ Some f → AreAmong (values_in (group_at (version_groups bits n) l)) (elements_at m.signature.domains f.codomain ++ Undef ∷ [])
  pub inputs_among : (l : ℕ) (f : Function) → function_at m.signature l ≡ Some f → AreAmong (values_in (group_at bits.inputs l)) (elements_at m.signature.domains f.codomain)
  pub states_distinct : (l : ℕ) → are_distinct (values_in (group_at (version_groups bits n) l)) ≡ true
  pub inputs_distinct : (l : ℕ) → are_distinct (values_in (group_at bits.inputs l)) ≡ true
  pub always_within : bits.always.var < b.count
  pub always_true : (v : ℕ → Bool) → Holds v b → lit_true v bits.always ≡ true
