-- Single commands over a model.
use Rattle.std.proofs.Common.{◌≡◌, ℕ, Ok}
use Rattle.asm_domain.specs.declared.value.Value.{Value}
use Rattle.asm_node.specs.Machine.{Machine}
use Rattle.asm_tree.specs.declared.script.RawSet.{RawSet}
use Rattle.asm_bind.specs.Given.{given_or_name}
use Rattle.asm_bind.proofs.Asked.{given_is}
use Rattle.asm_bind.proofs.Listing.{pair_given}
use Rattle.avalla_command.specs.Acts.{MayBeSet}

-- a setting gives what an input may give
pub may_be_set : (m : Machine) (set : RawSet) (slot : ℕ) (v : Value) → given_or_name m.signature set ≡ Ok (slot, v) → MayBeSet m slot v
may_be_set m set slot v is =
    let given = given_is m set (slot, v) (pair_given m.signature set (slot, v) is) in
    record { is_asked = given.is_asked_for; may_give = given.is_value }
