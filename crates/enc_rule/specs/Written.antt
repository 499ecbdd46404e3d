-- What an update writes, by literals.
use Rattle.std.specs.Prelude.{ℕ, Bool, false, ◌&&◌, ◌||◌, List, [], filter, Option, Some, None}
use Rattle.std.specs.List.{list_any}
use Rattle.cnf_base.specs.Clauses.{lit_true}
use Rattle.asm_domain.specs.declared.value.Value.{Value}
use Rattle.asm_sign.specs.declared.function.DeclaredDomain.{DeclaredDomain}
use Rattle.asm_sign.specs.declared.function.Function.{Function}
use Rattle.asm_sign.specs.Vocabulary.{Vocabulary}
use Rattle.asm_node.specs.Values.{is_element, is_undef}
use Rattle.asm_node.specs.Machine.{slot_at}
use Rattle.enc_group.specs.declared.group.Entry.{Entry}
use Rattle.enc_group.specs.declared.tuple.Tuple.{Tuple}
use Rattle.enc_update.specs.declared.pair.Pair.{Pair}

-- whether a pair that passes a test has a true literal
abbrev pub some_pair : (ℕ → Bool) → List Pair → (ℕ → Value → Bool) → Bool
some_pair v ps q = list_any (λ p. q p.slot p.value && lit_true v p.lit) ps

-- whether a value that passes a test at the slot has a true literal
abbrev pub some_value : (ℕ → Bool) → (ℕ → Value → Bool) → List Entry → Option ℕ → Bool
some_value v q es (Some l) = list_any (λ e. q l e.value && lit_true v e.lit) es
some_value v q es None = false

-- whether a location that has a slot, and a value that passes a test there, have true literals
abbrev pub some_written : (ℕ → Bool) → (ℕ → Value → Bool) → Vocabulary → ℕ → List Entry → List Tuple → Bool
some_written v q signature f es ts = list_any (λ t. some_value v q es (slot_at signature f t.values) && lit_true v t.lit) ts

-- whether a value may be written: `undef`, or an element of the codomain
abbrev pub may_write : List DeclaredDomain → ℕ → Value → Bool
may_write domains codomain x = is_undef x || is_element domains codomain x

-- the entries whose values may be written
abbrev pub writable : List DeclaredDomain → ℕ → List Entry → List Entry
writable domains codomain es = filter (λ e. may_write domains codomain e.value) es

-- those that may be written to locations of a function; none without the function
abbrev pub writable_at : List DeclaredDomain → Option Function → List Entry → List Entry
writable_at domains (Some function) es = writable domains function.codomain es
writable_at domains None es = []
