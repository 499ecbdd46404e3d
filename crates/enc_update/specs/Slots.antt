-- What an update set says of one slot, by literals.
use Rattle.std.specs.Prelude.{◌≡◌, ℕ, Bool, false, nat_eq, List, map, filter, Option, Some, None}
use Rattle.asm_domain.specs.declared.value.Value.{Value}
use Rattle.asm_node.specs.Values.{same}
use Rattle.enc_group.specs.declared.group.Entry.{Entry}
use Rattle.enc_group.specs.Group.{holds}
use Rattle.enc_update.specs.declared.pair.Pair.{Pair}

-- the values of one slot, with their literals
abbrev pub entries_at : List Pair → ℕ → List Entry
entries_at ps l = map (λ p. record { value = p.value; lit = p.lit }) (filter (λ p. nat_eq p.slot l) ps)

-- whether this is the value
abbrev pub is_value : Value → Option Value → Bool
is_value y (Some x) = same x y
is_value y None = false

-- the entries have this value and no other, or none
pub record Writes (v : ℕ → Bool) (es : List Entry) (written : Option Value) : Type 0 where
  pub at : (y : Value) → holds v es y ≡ is_value y written
