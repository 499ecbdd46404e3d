-- The state that a run reaches, step by step.
use Rattle.std.proofs.Common.{◌≡◌, ℕ, suc, zero, ◌+◌, ◌-◌, ◌<◌, List, drop, sym, ap, ◌∙◌, arith, sub-one}
use Rattle.std.specs.Prelude.{Result, Ok, Err, IfOk}
use Rattle.asm_node.specs.declared.stop.Stop.{Stop}
use Rattle.asm_node.specs.Machine.{Machine, State, Input}
use Rattle.asm_run.specs.Printed.{first_input, further_inputs}
use Rattle.asm_run.specs.Reached.{onward, reached_from}
use Rattle.asm_run.specs.Stepping.{step_from}
use Rattle.asm_run.proofs.Runs.{further-drop}

-- the first of some steps
pub reached-more : (m : Machine) (s : State) (inputs : List Input) (words : List ℕ) (k : ℕ) → 0 < k
    → reached_from m s inputs words k ≡ onward (s, words) (step_from m s (first_input inputs) words) (λ t rest. reached_from m t (further_inputs inputs) rest (k - 1))
reached-more m s inputs words zero some = absurd (omega arith)
reached-more m s inputs words (suc k) some =
    ap (λ n. onward (s, words) (step_from m s (first_input inputs) words) (λ t rest. reached_from m t (further_inputs inputs) rest n)) (sym (sub-one (suc k)))

-- a run that stops at once stays where it is
pub stops-there : (m : Machine) (s : State) (inputs : List Input) (words : List ℕ) (k : ℕ) (e : Stop) → 0 < k → step_from m s (first_input inputs) words ≡ Err e
    → reached_from m s inputs words k ≡ (s, words)
stops-there m s inputs words k e some stops =
    reached-more m s inputs words k some ∙ ap (λ step. onward (s, words) step (λ t rest. reached_from m t (further_inputs inputs) rest (k - 1))) stops

-- a run whose next step is made reaches what it reaches from there
pub goes-further : (m n : Machine) (s t : State) (inputs : List Input) (words rest : List ℕ) (number steps : ℕ) (step : Result (State × List ℕ) Stop) → n ≡ m → number < steps
    → step_from m s (first_input (drop number inputs)) words ≡ step → step ≡ Ok (t, rest)
    → reached_from m s (drop number inputs) words (steps - number) ≡ reached_from n t (drop (number + 1) inputs) rest (steps - (number + 1))
goes-further m n s t inputs words rest number steps step same less is leads =
    let next : suc number ≡ number + 1 = omega arith in
    let fewer : steps - number - 1 ≡ steps - (number + 1) = omega arith in
    reached-more m s (drop number inputs) words (steps - number) (omega arith)
    ∙ ap (λ o. onward (s, words) o (λ t rest. reached_from m t (further_inputs (drop number inputs)) rest (steps - number - 1))) (is ∙ leads)
    ∙ ap (λ is. reached_from m t is rest (steps - number - 1)) (further-drop inputs number ∙ ap (λ k. drop k inputs) next)
    ∙ ap (reached_from m t (drop (number + 1) inputs) rest) fewer
    ∙ ap (λ m. reached_from m t (drop (number + 1) inputs) rest (steps - (number + 1))) (sym same)

-- a fact that holds whatever is answered
pub whatever : {T E : Type 0} (r : Result T E) (P : Type 0) → P → IfOk r (λ _. P)
whatever (Ok x) P p = p
whatever (Err e) P p = tt
