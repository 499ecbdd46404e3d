-- What groups mean in all worlds that the bits stand for.
use Rattle.std.specs.Prelude.{◌≡◌, ℕ, ◌<◌, ◌≤◌, Bool, true, List, length, get_or}
use Rattle.asm_domain.specs.declared.value.Value.{Value}
use Rattle.asm_node.specs.Machine.{Machine}
use Rattle.asm_node.specs.Model.{machine_of}
use Rattle.asm_node.specs.Term.{World, Outcome}
use Rattle.cnf_gate.specs.Built.{Built}
use Rattle.enc_group.specs.declared.group.Entry.{Entry}
use Rattle.enc_group.specs.declared.tuple.Tuple.{Tuple}
use Rattle.enc_group.specs.Group.{Holds, Means, values_in, are_distinct, group_variables}
use Rattle.enc_group.specs.Tuple.{MeansAll, tuples_in, tuple_variables}
use Rattle.enc_group.specs.Binding.{group_at}
use Rattle.enc_term.specs.declared.bits.Bits.{Bits}
use Rattle.enc_term.specs.declared.bits.Context.{Context}
use Rattle.enc_term.specs.Bits.{Stands, AreBits}
use Rattle.enc_term.specs.Can.{Has, AreAmong, ArePicked}

-- in each assignment of the builder, and each world that it stands for, the group means this outcome
abbrev pub Tells : Built → Machine → Bits → ℕ → List Entry → (World → Outcome Value) → Type 0
Tells b m bits n g o = (v : ℕ → Bool) → Holds v b → (w : World) → Stands v m bits n w → Means v g (o w)

abbrev pub TellsAll : Built → Machine → Bits → ℕ → List Tuple → (World → Outcome (List Value)) → Type 0
TellsAll b m bits n ts o = (v : ℕ → Bool) → Holds v b → (w : World) → Stands v m bits n w → MeansAll v ts (o w)

-- a group of the builder's variables has no value twice, and none but these
pub record IsGroupOf (b : Built) (can : List Value) (g : List Entry) : Type 0 where
  pub within : group_variables g ≤ b.count
  pub distinct : are_distinct (values_in g) ≡ true
  pub among : AreAmong (values_in g) can

-- tuples of the builder's variables have one value of each list
pub record AreTuplesOf (b : Built) (cans : List (List Value)) (ts : List Tuple) : Type 0 where
  pub within : tuple_variables ts ≤ b.count
  pub picked : (vs : List Value) → Has (tuples_in ts) vs → ArePicked cans vs

-- there is a group for each of the first keys, which means what the key has, and is a group of what it can have
pub record TellsEach {K : Type 0} (b : Built) (m : Machine) (bits : Bits) (n : ℕ) (keys : List K) (count : ℕ) (gs : List (List Entry)) (o : K → World → Outcome Value) (can : K → List Value) : Type 0 where
  pub long : length gs ≡ count
  pub means : (j : ℕ) (k : K) → j < count → k ≡ get_or keys j k → Tells b m bits n (group_at gs j) (o k)
  pub groups : (j : ℕ) (k : K) → j < count → k ≡ get_or keys j k → IsGroupOf b (can k) (group_at gs j)
  pub within : (j : ℕ) → group_variables (group_at gs j) ≤ b.count

-- the model in which terms are encoded
abbrev pub machine_at : Context → Machine
machine_at context = machine_of context.model.now

-- the bits that terms are encoded over are of the builder
abbrev pub IsReady : Built → Context → Type 0
IsReady b context = AreBits b (machine_at context) context.bits.now context.version

-- what groups and tuples mean where terms are encoded
abbrev pub TellsIn : Built → Context → List Entry → (World → Outcome Value) → Type 0
TellsIn b context g o = Tells b (machine_at context) context.bits.now context.version g o

abbrev pub TellAllIn : Built → Context → List Tuple → (World → Outcome (List Value)) → Type 0
TellAllIn b context ts o = TellsAll b (machine_at context) context.bits.now context.version ts o

abbrev pub TellEachIn : {K : Type 0} → Built → Context → List K → List (List Entry) → (K → World → Outcome Value) → (K → List Value) → Type 0
TellEachIn b context keys gs o can = TellsEach b (machine_at context) context.bits.now context.version keys (length keys) gs o can
