-- States: what the kept slots of a vocabulary hold.
use Rattle.std.specs.Prelude.{◌≡◌, ℕ, Option, Some, None, is_some, if◌then◌else◌, Contains}
use Rattle.std.specs.Ordering.{nat_cmp}
use Rattle.std.specs.FinMap.{FinMap, get, code}
use Rattle.std.specs.Coded.{Coded, coded_ℕ}
use Rattle.asm_domain.specs.declared.value.Value.{Value}
use Rattle.asm_domain.specs.declared.value.Value.TheVariants.{Undef}
use Rattle.asm_domain.specs.contracts.value.Value.{the_row}
use Rattle.asm_domain.specs.Universe.{Universe, elements}
use Rattle.asm_sign.specs.Vocabulary.{Vocabulary, function_at, codomain_of, kept_of}

-- a value for each of some slots
abbrev pub State : Type 0
State = FinMap nat_cmp Value

abbrev pub state_code : Coded State
state_code = code coded_ℕ the_row.coded

-- every kept slot of the vocabulary is `undef`, and no other slot has a value
abbrev pub IsUndefined : Vocabulary → State → Type 0
IsUndefined v s = (slot : ℕ) → get s slot ≡ (if kept_of (function_at v slot) then Some Undef else None)

-- `undef` or an element of the codomain
abbrev pub MayHold : Option Universe → Value → Type 0
MayHold codomain Undef = Unit {0}
MayHold (Some universe) value = Contains (elements universe) value
MayHold None value = ⊥

-- the kept slots of the vocabulary have values and no others do, and each is `undef` or an element of the slot's codomain
pub record IsStateOf (v : Vocabulary) (s : State) : Type 0 where
  pub slots : (slot : ℕ) → is_some (get s slot) ≡ kept_of (function_at v slot)
  pub values : (slot : ℕ) (value : Value) → get s slot ≡ Some value → MayHold (codomain_of v (function_at v slot)) value
