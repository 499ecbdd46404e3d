-- Inputs that give more.
use Rattle.std.specs.Prelude.{◌≡◌, ℕ, true, List, Some, Result, Ok, Err, ⊤}
use Rattle.std.specs.FinMap as finite
use Rattle.asm_domain.specs.declared.value.Value.{Value}
use Rattle.asm_sign.specs.Vocabulary.{function_at}
use Rattle.asm_node.specs.declared.stop.Stop.{Stop}
use Rattle.asm_node.specs.declared.stop.Stop.TheVariants.{Input}
use Rattle.asm_node.specs.Machine.{Machine, State, has_kind, is_shared}
use Rattle.asm_node.specs.Machine as machine
use Rattle.asm_node.specs.Term.{World, Outcome, Gives, Needs}
use Rattle.asm_node.specs.Taking.{Attempt, Yields, Faults}

-- the second gives all that the first gives
abbrev pub GivesAll : machine.Input → machine.Input → Type 0
GivesAll i j = (l : ℕ) (v : Value) → finite.get i l ≡ Some v → finite.get j l ≡ Some v

-- the world with another input
abbrev pub under : World → machine.Input → World
under w j = record w { input = j }

-- an answer is the other one's too
abbrev pub Keeps : {A : Type 0} → Outcome A → Outcome A → Type 0
Keeps (Gives a) o = o ≡ Gives a
Keeps (Needs l) o = ⊤

-- an answer, or a fault that is no need, is the other one's too
abbrev pub Stays : {S A : Type 0} → Attempt S A → Attempt S A → Type 0
Stays (Yields a t) p = p ≡ Yields a t
Stays (Faults (Input l) t) p = ⊤
Stays (Faults e t) p = p ≡ Faults e t

-- the second gives all that the first gives, and no other value to a shared location
pub record Extends (m : Machine) (i j : machine.Input) : Type 0 where
  pub gives : GivesAll i j
  pub shares : (l : ℕ) → has_kind is_shared (function_at m.signature l) ≡ true → finite.get i l ≡ finite.get j l

-- a next state, or a stop that is no need, is the other one's too
abbrev pub StaysStep : Result (State × List ℕ) Stop → Result (State × List ℕ) Stop → Type 0
StaysStep (Ok p) q = q ≡ Ok p
StaysStep (Err (Input l)) q = ⊤
StaysStep (Err e) q = q ≡ Err e
