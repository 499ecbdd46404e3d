-- What full inputs give, and which there are.
use Rattle.std.specs.Prelude.{ℕ, not, ◌&&◌, IsTrue, ⊤}
use Rattle.asm_domain.specs.declared.value.Value.{Value}
use Rattle.asm_sign.specs.Vocabulary.{function_at}
use Rattle.asm_node.specs.Machine.{Machine, Input, has_kind, is_monitored}
use Rattle.asm_node.specs.Values.{is_undef}
use Rattle.asm_node.specs.declared.stop.Stop.TheVariants as stop
use Rattle.asm_node.specs.Taking.{Attempt, Faults}
use Rattle.asm_node.specs.Step.{IsFull, may_have}
use Rattle.asm_laws.specs.Extending.{Extends}

-- an attempt ends otherwise than with a need
abbrev pub NeedsNothing : {S A : Type 0} → Attempt S A → Type 0
NeedsNothing (Faults (stop.Input l) t) = ⊥
NeedsNothing _ = ⊤

-- the codomain of each monitored location has an element
abbrev pub CanBeGiven : Machine → Type 0
CanBeGiven m = (l : ℕ) → IsTrue (has_kind is_monitored (function_at m.signature l)) → (v : Value) × IsTrue (not (is_undef v) && may_have m (function_at m.signature l) v)

-- a full input that extends the other
pub record IsCompletion (m : Machine) (i j : Input) : Type 0 where
  pub is_full : IsFull m j
  pub extends : Extends m i j
