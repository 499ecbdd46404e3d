-- Worlds whose locations have values of their codomains.
use Rattle.std.specs.Prelude.{◌≡◌, ℕ, Some, IsTrue}
use Rattle.std.specs.FinMap as finite
use Rattle.asm_domain.specs.declared.value.Value.{Value}
use Rattle.asm_sign.specs.Vocabulary.{function_at}
use Rattle.asm_node.specs.Term.{World}
use Rattle.asm_node.specs.Step.{may_have}

-- each value of the state and of the input is `undef` or in the codomain of its location
pub record IsFilled (w : World) : Type 0 where
  pub state : (l : ℕ) (v : Value) → finite.get w.state l ≡ Some v → IsTrue (may_have w.machine (function_at w.machine.signature l) v)
  pub input : (l : ℕ) (v : Value) → finite.get w.input l ≡ Some v → IsTrue (may_have w.machine (function_at w.machine.signature l) v)
