-- What a call that evaluates answers.
use Rattle.std.specs.Prelude.{◌≡◌, ⊤, Result, Ok, Err}
use Rattle.asm_eval.specs.declared.error.EvalError.{EvalError}
use Rattle.asm_eval.specs.declared.error.EvalError.TheVariants.{Need, Memory}
use Rattle.asm_node.specs.Term.{Outcome, Gives, Needs}

-- the need is that of the definition; want of memory says nothing
abbrev pub Ends : {B : Type 0} → EvalError → Outcome B → Type 0
Ends (Need l) o = o ≡ Needs l
Ends Memory o = ⊤

-- the value is that of the definition, or the error ends it
abbrev pub Answers : {A B : Type 0} → (A → B) → Result A EvalError → Outcome B → Type 0
Answers view (Ok v) o = o ≡ Gives (view v)
Answers view (Err e) o = Ends e o
