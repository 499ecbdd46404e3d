-- What a store takes of what a rule gives.
use Rattle.std.proofs.Common.{◌≡◌, ℕ, List, [], Some, None, ap, ◌∙◌}
use Rattle.std.specs.Prelude.{Err, Ok}
use Rattle.asm_domain.specs.declared.value.Value.{Value}
use Rattle.asm_node.specs.declared.stop.Stop.TheVariants.{Clash}
use Rattle.asm_node.specs.Machine.{Machine, State, Input}
use Rattle.asm_node.specs.RuleTree.{Rule}
use Rattle.asm_node.specs.Step.{IsState, after, ended}
use Rattle.asm_node.specs.Taking.{Attempt, Yields, by_words, outcome}
use Rattle.asm_node.specs.Term.{nowhere}
use Rattle.asm_node.specs.UpdateSet.{UpdateSet, clash, fire}
use Rattle.asm_eval.specs.World.{world_in}
use Rattle.asm_fire.specs.declared.error.FireError.{FireError}
use Rattle.asm_fire.specs.declared.error.FireError.TheVariants.{Stop, Memory}
use Rattle.asm_fire.specs.Answer.{Halts}
use Rattle.asm_fire.specs.Sound.{AreKept, IsSound}
use Rattle.asm_fire.proofs.Keeping.{kept-taken}
use Rattle.asm_run.specs.Fault.{step_error_of}
use Rattle.asm_run.specs.Stepping.{Refuses}

module _ (m : Machine) (s : State) (i : Input) where
  -- a fault of the rule is the step's
  pub refused : (a : Attempt (List ℕ) UpdateSet) (e : FireError) (words : List ℕ) → Halts e words a → Refuses (step_error_of e) (ended (world_in m s i) a)
  refused a (Stop e) words halts = ap (ended (world_in m s i)) halts
  refused a Memory words halts = tt

  -- a clash is the step's stop
  pub clashes : (a : Attempt (List ℕ) UpdateSet) (u : UpdateSet) (words : List ℕ) (slot : ℕ) (x y : Value) → a ≡ Yields u words → clash m.signature u ≡ Some (slot, x, y) → ended (world_in m s i) a ≡ Err (Clash slot x y)
  clashes a u words slot x y gives is = ap (ended (world_in m s i)) gives ∙ ap (after (world_in m s i) u words) is

  -- without a clash the step leads to the state where the set is fired
  pub fires : (a : Attempt (List ℕ) UpdateSet) (u : UpdateSet) (words : List ℕ) → a ≡ Yields u words → clash m.signature u ≡ None → ended (world_in m s i) a ≡ Ok (fire s u, words)
  fires a u words gives none = ap (ended (world_in m s i)) gives ∙ ap (after (world_in m s i) u words) none

  -- what a sound rule gives is kept
  pub is_kept : (rule : Rule) (words rest : List ℕ) (u : UpdateSet) → IsState m s → IsSound m i rule → outcome by_words (world_in m s i) rule words ≡ Yields u rest → AreKept m u
  is_kept rule words rest u state sound gives = kept-taken m i 32 [] s nowhere rule words rest u state sound gives
