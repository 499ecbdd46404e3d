-- Groups of results at the places of a list of keys.
use Rattle.std.specs.Prelude.{ℕ, zero, suc, ◌+◌, List, [], ◌∷◌, ◌++◌, length, slice_index_or}
use Rattle.asm_domain.specs.declared.value.Value.{Value}
use Rattle.enc_group.specs.declared.group.Entry.{Entry}
use Rattle.enc_group.specs.Group.{values_in}

-- the group at a place; behind the last one the empty group
abbrev pub group_at : List (List Entry) → ℕ → List Entry
group_at groups l = slice_index_or groups l []

-- how many entries the first groups have
abbrev pub entries_before : List (List Entry) → ℕ → ℕ
entries_before groups zero = 0
entries_before [] (suc n) = 0
entries_before (g ∷ groups) (suc n) = length g + entries_before groups n

-- the values of the first groups, one group after the other
abbrev pub values_before : List (List Entry) → ℕ → List Value
values_before groups zero = []
values_before [] (suc n) = []
values_before (g ∷ groups) (suc n) = values_in g ++ values_before groups n
