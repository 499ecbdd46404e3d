-- What the evaluation of a condition says of it.
use Rattle.std.proofs.Common.{◌≡◌, ℕ, Bool as Truth, true, false, refl, sym, ap, ◌∙◌, subst}
use Rattle.asm_domain.specs.declared.value.Value.{Value}
use Rattle.asm_eval.specs.World.{world_in}
use Rattle.asm_node.specs.Exact.{IsExact}
use Rattle.asm_node.specs.Machine.{Machine, State, Input}
use Rattle.asm_node.specs.Term.{Outcome, Gives, Needs, Places, close, nowhere, val}
use Rattle.asm_node.specs.Tree.{Tree}
use Rattle.asm_node.specs.Values.{is_true}
use Rattle.avalla_play.specs.declared.judging.Verdict.{Verdict}
use Rattle.avalla_play.specs.declared.judging.Verdict.TheVariants.{Lacks}
use Rattle.avalla_play.specs.Standing.{said, truth_of, verdict_of}

-- a state that is read from a store, and variables that stand for nothing
pub exact-in : (m : Machine) (s u : State) (i : Input) (e : Places) (t : Tree) → u ≡ s → e ≡ nowhere → IsExact (world_in m s i) (close nowhere t) → IsExact (world_in m u i) (close e t)
exact-in m s u i e t same unbound exact =
    subst (λ (v : State). IsExact (world_in m v i) (close e t)) (sym same) (subst (λ (f : Places). IsExact (world_in m s i) (close f t)) (sym unbound) exact)

pub value-in : (m : Machine) (s u : State) (i : Input) (e : Places) (t : Tree) → u ≡ s → e ≡ nowhere → val (world_in m s i) nowhere t ≡ val (world_in m u i) e t
value-in m s u i e t same unbound = ap (λ v. val (world_in m v i) nowhere t) (sym same) ∙ ap (λ f. val (world_in m u i) f t) (sym unbound)

said-verdict : (b : Truth) → Gives b ≡ said (verdict_of b)
said-verdict true = refl
said-verdict false = refl

-- the verdict on a condition that has a value
pub said-value : (o : Outcome Value) (v : Value) (verdict : Verdict) → o ≡ Gives v → verdict ≡ verdict_of (is_true v) → truth_of o ≡ said verdict
said-value o v verdict gives is = ap truth_of gives ∙ said-verdict (is_true v) ∙ ap said (sym is)

-- the verdict on one that has none
pub said-need : (o : Outcome Value) (l : ℕ) → o ≡ Needs l → truth_of o ≡ said (Lacks l)
said-need o l needs = ap truth_of needs
