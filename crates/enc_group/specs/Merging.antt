-- One literal for each value of a list of entries.
use Rattle.std.specs.Prelude.{◌≡◌, ℕ, ◌≤◌, Bool, not, ◌&&◌, ◌||◌, List, [], ◌∷◌, ◌++◌, length, filter, if◌then◌else◌}
use Rattle.cnf_gate.specs.Built.{Built}
use Rattle.asm_domain.specs.declared.value.Value.{Value}
use Rattle.asm_node.specs.Values.{same}
use Rattle.enc_group.specs.declared.group.Entry.{Entry}
use Rattle.enc_group.specs.Group.{Holds, holds, has, values_in, group_variables}

-- a value behind others, unless it is there
abbrev pub added : List Value → Value → List Value
added xs x = if has xs x then xs else xs ++ x ∷ []

-- how many values are added
abbrev pub fresh : List Value → Value → ℕ
fresh xs x = if has xs x then 0 else 1

-- how many entries have one of the values
abbrev pub covered : List Entry → List Value → ℕ
covered es xs = length (filter (λ e. has xs e.value) es)

-- the entries of one value of a bag became one entry of the group, unless it has the value
pub record Merges (new : Built) (was now bag : List Entry) (x : Value) : Type 0 where
  pub means : (v : ℕ → Bool) → Holds v new → (y : Value) → holds v now y ≡ (holds v was y || (not (has (values_in was) x) && (same x y && holds v bag y)))
  pub values : values_in now ≡ added (values_in was) x
  pub within : group_variables now ≤ new.count
